-- A command's words are accepted exactly if its own level accepts them.
use Rattle.std.proofs.Common.{◌≡◌, ◌&&◌, List, [], ◌∷◌, ◌++◌, Bool, true, false, Some, refl, ap, sym, ◌∙◌, codes, append_assoc, append-nil, is_some}
use Rattle.std.specs.Prelude.{find, fold}
use Rattle.std.specs.List.{list_all}
use Rattle.std.proofs.lemmas.Bool.{and_from}
use Rattle.std.specs.Prelude.{Option, option_map}
use Rattle.std.specs.Option.{option_map_or}
use Rattle.clap.specs.Words.{App, Shape, Text, Rule, Kinds}
use Rattle.clap.specs.Kinds.{or_else}
use Rattle.clap.specs.Faults.{walk_fault, settle_fault, level_fault, entered_fault, built_fault}
use Rattle.clap.specs.declared.error.kind.ErrorKind.{ErrorKind}
use Rattle.clap.specs.Walk.{Names, Walk, idle, walked, walk, walk_from, nothing_held, finished, answers_to, stop_after, rows_after}
use Rattle.clap.specs.Simple.{built, built_leaf, inherited, label_of, names_of, entered}
use Rattle.clap.specs.Takes.{turn_passes, walk_passes, settle_passes, default_passes, is_valid, level_passes, entered_passes, built_takes}
use Rattle.clap.proofs.OnLiterals.{clap_on_literals}
use Rattle.commands.specs.Lines.{bare_app, check_app, analyse_app, run_app, report_app, explain_app, clear_app, premises_app, attain_app, simulate_app, demo_app, line_app}

-- a command as it is below the program
abbrev pub below : App → Shape
below app = built_leaf (inherited bare_app.top app.top)

-- its own level accepts the words
abbrev pub level_takes : Shape → List Text → Bool
level_takes s ws = level_passes s [] nothing_held ws false

-- the walk that stopped at a command
abbrev stopped_at : Text → List Text → Walk
stopped_at name ws = record { held = nothing_held; waiting = idle; position = 1; is_trailing = false; stopped = Some (name, ws) }

stopped_walk : (c : List Rule) (names : Names) (name : Text) (seen ws : List Text) → fold (walked c names) (stopped_at name seen) ws ≡ stopped_at name (seen ++ ws)
unfolding walked
stopped_walk c names name seen [] = ap (stopped_at name) (sym (append-nil seen))
stopped_walk c names name seen (w ∷ ws) = stopped_walk c names name (seen ++ w ∷ []) ws ∙ ap (stopped_at name) (append_assoc seen (w ∷ []) ws)

stopped_passes : (s : Shape) (names : Names) (name : Text) (seen ws : List Text) → walk_passes s names (stopped_at name seen) ws ≡ true
unfolding walked walk_passes
stopped_passes s names name seen [] = refl
stopped_passes s names name seen (w ∷ ws) = stopped_passes s names name (seen ++ w ∷ []) ws

-- the program's own level, once the walk is over
abbrev after : App → List Text → Walk → Bool
after a words w =
    entered_passes a w.stopped
    && (walk_passes a.top (names_of a) (walk_from nothing_held) words
    && (settle_passes a.top.rules a.top.args_override_self w.held
    && (list_all default_passes a.top.rules && is_valid a.top (finished a.top.rules w.held) (is_some (entered a w.stopped)))))

-- a name at which the program's own level stops, and the level of that command
pub record IsLevelNamed (a : App) (name : Text) (s : Shape) : Type 0 where
  pub stops : walked a.top.rules (names_of a) (walk_from nothing_held) name ≡ stopped_at name []
  pub found : find (λ s. answers_to name (label_of s)) a.subs ≡ Some s
  pub named : s.name ≡ name
  pub passes : turn_passes a.top (names_of a) (walk_from nothing_held) name ≡ true
  pub settles : settle_passes a.top.rules a.top.args_override_self nothing_held ≡ true
  pub defaults : list_all default_passes a.top.rules ≡ true
  pub valid : is_valid a.top (finished a.top.rules nothing_held) true ≡ true

-- the program's walk ends there
walk_ends : (a : App) (name : Text) (s : Shape) (ws : List Text) → IsLevelNamed a name s → walk a.top.rules (names_of a) nothing_held (name ∷ ws) ≡ stopped_at name ws
walk_ends a name s ws k = ap (λ (w : Walk). fold (walked a.top.rules (names_of a)) w ws) k.stops ∙ stopped_walk a.top.rules (names_of a) name [] ws

pub built_takes_named : (a : App) (name : Text) (s : Shape) (ws : List Text) → IsLevelNamed a name s → level_takes s ws ≡ true → built_takes a nothing_held (name ∷ ws) ≡ true
unfolding walk_passes
built_takes_named a name s ws k h =
    let ends : walk a.top.rules (names_of a) nothing_held (name ∷ ws) ≡ stopped_at name ws = walk_ends a name s ws k in
    let walks : walk_passes a.top (names_of a) (walk_from nothing_held) (name ∷ ws) ≡ true =
    and_from (turn_passes a.top (names_of a) (walk_from nothing_held) name) _ k.passes
    (ap (λ (w : Walk). walk_passes a.top (names_of a) w ws) k.stops ∙ stopped_passes a.top (names_of a) name [] ws) in
    let enters : entered_passes a (Some (name, ws)) ≡ true = rw k.found h in
    let valid : is_valid a.top (finished a.top.rules nothing_held) (is_some (entered a (Some (name, ws)))) ≡ true = rw k.found k.valid in
    ap (after a (name ∷ ws)) ends
    ∙ and_from (entered_passes a (Some (name, ws))) _ enters
    (and_from (walk_passes a.top (names_of a) (walk_from nothing_held) (name ∷ ws)) _ walks
    (and_from (settle_passes a.top.rules a.top.args_override_self nothing_held) _ k.settles
    (and_from (list_all default_passes a.top.rules) _ k.defaults valid)))

-- ---- what fails

pub none_of : (k : ErrorKind) (ks : Kinds) → ◌≡◌ {A = Kinds} (k ∷ ks) [] → ⊥
none_of k ks e = cc

pub both_none : (a b : Kinds) → or_else a b ≡ [] → (a ≡ []) × (b ≡ [])
both_none [] b e = (refl, e)
both_none (k ∷ ks) b e = absurd (none_of k ks e)

-- where nothing fails, nothing fails at the level
pub record LevelPasses (s : Shape) (ws : List Text) : Type 0 where
  pub walks : walk_fault s [] (walk_from nothing_held) ws ≡ []
  pub settles : settle_fault s.rules s.args_override_self (walk s.rules [] nothing_held ws).held ≡ []

pub level_fails : (a : App) (name : Text) (s : Shape) (ws : List Text) → IsLevelNamed a name s → built_fault a nothing_held (name ∷ ws) ≡ [] → LevelPasses s ws
level_fails a name s ws k e =
    let stop : Option (Text × List Text) = (walk a.top.rules (names_of a) nothing_held (name ∷ ws)).stopped in
    let below : entered_fault a stop ≡ [] = (both_none (entered_fault a stop) _ (both_none (walk_fault a.top (names_of a) (walk_from nothing_held) (name ∷ ws)) _ e).1).0 in
    let enters : entered_fault a (Some (name, ws)) ≡ [] = ap (λ (w : Walk). entered_fault a w.stopped) (sym (walk_ends a name s ws k)) ∙ below in
    let level : level_fault s [] nothing_held ws false [] ≡ [] =
    ap (λ (o : Option Shape). option_map_or (λ s. level_fault s [] nothing_held ws false []) o []) (sym k.found) ∙ enters in
    let walks : (walk_fault s [] (walk_from nothing_held) ws ≡ []) × _ = both_none (walk_fault s [] (walk_from nothing_held) ws) _ level in
    record {
      walks = walks.0;
      settles = (both_none (settle_fault s.rules s.args_override_self (walk s.rules [] nothing_held ws).held) _ walks.1).0;
    }

-- and what was found is found there
pub level_found : (a : App) (name : Text) (s : Shape) (ws : List Text) → IsLevelNamed a name s → entered a (stop_after a.top.rules (names_of a) (name ∷ ws)) ≡ Some (name, rows_after s.rules [] ws)
level_found a name s ws k =
    ap (λ (w : Walk). entered a w.stopped) (walk_ends a name s ws k) ∙ ap (option_map (λ (s : Shape). Rattle.clap.specs.Simple.rows_at s ws)) k.found
    ∙ ap (λ (n : Text). Some (n, rows_after s.rules [] ws)) k.named

-- ---- the ten commands

pub named_check : IsLevelNamed (built line_app) (codes "check") (below check_app)
unfolding clap_on_literals
named_check = record { stops = refl; found = refl; named = refl; passes = refl; settles = refl; defaults = refl; valid = refl }

pub named_analyse : IsLevelNamed (built line_app) (codes "analyse") (below analyse_app)
unfolding clap_on_literals
named_analyse = record { stops = refl; found = refl; named = refl; passes = refl; settles = refl; defaults = refl; valid = refl }

pub named_run : IsLevelNamed (built line_app) (codes "run") (below run_app)
unfolding clap_on_literals
named_run = record { stops = refl; found = refl; named = refl; passes = refl; settles = refl; defaults = refl; valid = refl }

pub named_report : IsLevelNamed (built line_app) (codes "report") (below report_app)
unfolding clap_on_literals
named_report = record { stops = refl; found = refl; named = refl; passes = refl; settles = refl; defaults = refl; valid = refl }

pub named_explain : IsLevelNamed (built line_app) (codes "explain") (below explain_app)
unfolding clap_on_literals
named_explain = record { stops = refl; found = refl; named = refl; passes = refl; settles = refl; defaults = refl; valid = refl }

pub named_clear : IsLevelNamed (built line_app) (codes "clear") (below clear_app)
unfolding clap_on_literals
named_clear = record { stops = refl; found = refl; named = refl; passes = refl; settles = refl; defaults = refl; valid = refl }

pub named_premises : IsLevelNamed (built line_app) (codes "premises") (below premises_app)
unfolding clap_on_literals
named_premises = record { stops = refl; found = refl; named = refl; passes = refl; settles = refl; defaults = refl; valid = refl }

pub named_attain : IsLevelNamed (built line_app) (codes "attain") (below attain_app)
unfolding clap_on_literals
named_attain = record { stops = refl; found = refl; named = refl; passes = refl; settles = refl; defaults = refl; valid = refl }

pub named_simulate : IsLevelNamed (built line_app) (codes "simulate") (below simulate_app)
unfolding clap_on_literals
named_simulate = record { stops = refl; found = refl; named = refl; passes = refl; settles = refl; defaults = refl; valid = refl }

pub named_demo : IsLevelNamed (built line_app) (codes "demo") (below demo_app)
unfolding clap_on_literals
named_demo = record { stops = refl; found = refl; named = refl; passes = refl; settles = refl; defaults = refl; valid = refl }
