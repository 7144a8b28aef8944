-- Words that are a command are taken, and what clap finds on words that it takes is the command.
use Rattle.std.proofs.Common.{◌≡◌, ◌≢◌, ℕ, ◌==◌, ◌&&◌, ◌||◌, List, [], ◌∷◌, Bool, true, false, not, refl, ap, ap₂, sym, subst, ◌∙◌, codes, Option, Some, None, cond, is_none, is_some}
use Rattle.std.specs.List.{list_any}
use Rattle.std.specs.Str.{bytes_eq}
use Rattle.std.proofs.lemmas.Slice.Eq.{bytes_eq-Decides}
use Rattle.std.proofs.lemmas.Option.{none-some}
use Rattle.std.proofs.lemmas.Bool.{or_parts}
use Rattle.clap.specs.Words.{Text, Row, Kinds, takes, fault_of, is_simple, is_simple_and_free, subcommand_of}
use Rattle.std.specs.Prelude.{find, option_map}
use Rattle.clap.specs.Kinds.{or_else}
use Rattle.clap.specs.Walk.{nothing_held, walk_from, rows_after, idle, answers_to, subcommand_or_other}
use Rattle.clap.specs.Faults.{walk_fault, turn_fault, other_fault, step_fault}
use Rattle.clap.specs.Simple.{built, names_of, Shape}
use Rattle.clap.proofs.OnLiterals.{clap_on_literals}
use Rattle.commands.specs.Options.{Valued, Assume, Steps, Device, Trials}
use Rattle.commands.specs.declared.line.Permitted.{Permitted}
use Rattle.commands.specs.Commands.{Work, Command, LineSoFar, empty_line, then_words, device_in, no_options, device_option, plain_options, steps_options, trials_options, json_options, why_options, permits, asks, work_in, measured, called, whole, command_named}
use Rattle.commands.specs.Lines.{line_app, is_option, is_refused, TellsLine}
use Rattle.commands.proofs.Levels.{built_takes_named, level_fails, level_found, none_of, both_none}
use Rattle.commands.proofs.Pieces.{Piece, Named, Given, Marked, Mark, Json, Why, spelled, mark_spelled, value_of, is_marked, all_words, AreFit, Cut, cut_words}
use Rattle.commands.proofs.Steps.{level_goes}
use Rattle.commands.proofs.Going.{AllowsWords, IsWanted, ShowsRows, goes_on}
use Rattle.commands.proofs.Known.{allows, judging, reporting, telling, analysing, attains, simulating, clearing, measuring, IsKnown, known_check, known_analyse, known_run, known_report, known_explain, known_clear, known_premises, known_attain, known_simulate, known_demo}
use Rattle.commands.proofs.Wanted.{both, wanted, requested_has, measured_has}
use Rattle.commands.proofs.Shown.{Tells}
use Rattle.commands.proofs.Sound.{Class, Plain, Takes, Alone, class, sound, name_passed, strays}

-- ---- all

-- `clap` accepts the words, and none of them is refused before
record IsGood (ws : List (List ℕ)) : Type 0 where
  taken : takes line_app ws ≡ true
  free : list_any is_refused ws ≡ false

text_free : (b : ℕ) (bs : List ℕ) → (b == 45) ≡ false → is_refused (b ∷ bs) ≡ false
text_free b bs h = ap (λ (t : Bool). not (not t) && not (is_option (b ∷ bs))) h

option_free : (v : Valued) → is_refused (spelled v) ≡ false
option_free Assume = refl
option_free Steps = refl
option_free Device = refl
option_free Trials = refl

mark_free : (m : Mark) → is_refused (mark_spelled m) ≡ false
mark_free Json = refl
mark_free Why = refl

pieces_free : (ps : List Piece) → AreFit ps → list_any is_refused (all_words ps) ≡ false
pieces_free [] fit = refl
pieces_free (Named b bs ∷ ps) fit = ap₂ (λ (x y : Bool). x || y) (text_free b bs fit.0) (pieces_free ps fit.1)
pieces_free (Given v b bs ∷ ps) fit =
    ap₂ (λ (x y : Bool). x || y) (option_free v) (ap₂ (λ (x y : Bool). x || y) (text_free b bs fit.0) (pieces_free ps fit.1))
pieces_free (Marked m ∷ ps) fit = ap₂ (λ (x y : Bool). x || y) (mark_free m) (pieces_free ps fit.1)

shows_nothing : (id : Text) → ShowsRows id empty_line []
shows_nothing id = record { first = refl; second = refl; given = none; marked = no_mark; explicit = refl; order = λ h. h } where
  no_mark : (m : Mark) → false ≡ is_marked m empty_line
  no_mark Json = refl
  no_mark Why = refl

  none : (v : Valued) → false ≡ is_some (value_of v empty_line)
  none Assume = refl
  none Steps = refl
  none Device = refl
  none Trials = refl

good : (name : Text) (has : AllowsWords) (k : IsKnown name has) (word : Text) (words : List Text) (l : LineSoFar) → l.waits ≡ None → then_words (Some empty_line) words ≡ Some l → bytes_eq word name ≡ true → IsWanted has l → IsGood (word ∷ words)
good name has k word words l waits e is n =
    let c : Cut empty_line words l = cut_words words empty_line l refl waits e in
    subst IsGood (sym (ap₂ (λ (w : List ℕ) (ws : List (List ℕ)). w ∷ ws) ((bytes_eq-Decides word name).0 is) c.words)) (record {
      taken = built_takes_named (built line_app) name k.shape (all_words c.pieces) k.named
          (level_goes k.shape c.pieces c.fit (goes_on k.shape has (codes "first") k.level c.pieces empty_line l nothing_held refl (shows_nothing (codes "first")) c.ends n));
      free = ap₂ (λ (x y : Bool). x || y) k.free (pieces_free c.pieces c.fit);
    })

-- a value under a condition, or another
either : {X G : Type 0} (b : Bool) (first rest : Option X) (x : X) → (b ≡ true → first ≡ Some x → G) → (rest ≡ Some x → G) → cond b first rest ≡ Some x → G
either true first rest x here later h = here refl h
either false first rest x here later h = later h

called_good : (word : List ℕ) (words : List (List ℕ)) (l : LineSoFar) (x : Command) → l.waits ≡ None → then_words (Some empty_line) words ≡ Some l → called word l ≡ Some x → IsGood (word ∷ words)
called_good word words l x waits e h =
    either (asks word l (codes "demo") no_options) (measured l.first l.second) _ x (λ is k. let m = measured_has l.first l.second x k in at (codes "demo") false no_options known_demo m.0 m.1 is)
    (λ k. let r = requested_has (device_in l.device) l.first l.assume (work_in word l l.second) x k in work_good l.second refl r.0 r.1.0 r.1.1) h where
      at : (name : Text) (second : Bool) (options : Permitted) → IsKnown name (allows second options) → is_some l.first ≡ true → is_some l.second ≡ second → asks word l name options ≡ true → IsGood (word ∷ words)
      at name second options k first has is =
          let p : (bytes_eq word name ≡ true) × (permits options l ≡ true) = both _ _ is in
          good name (allows second options) k word words l waits e p.0 (wanted second options l first has p.1)

      work_good : (second : Option Text) → l.second ≡ second → is_some l.first ≡ true → (w : Work) → work_in word l second ≡ Some w → IsGood (word ∷ words)
      work_good None is first w k =
          either (asks word l (codes "analyse") steps_options) _ None w (λ a j. at (codes "analyse") false steps_options known_analyse first (ap is_some is) a) (λ j. absurd (none-some w j)) k
      work_good (Some s) is first w k =
          either (asks word l (codes "check") plain_options) _ _ w (λ a j. at (codes "check") true plain_options known_check first (ap is_some is) a)
          (either (asks word l (codes "run") plain_options) _ _ w (λ a j. at (codes "run") true plain_options known_run first (ap is_some is) a)
          (either (asks word l (codes "report") json_options) _ _ w (λ a j. at (codes "report") true json_options known_report first (ap is_some is) a)
          (either (asks word l (codes "explain") plain_options) _ _ w (λ a j. at (codes "explain") true plain_options known_explain first (ap is_some is) a)
          (either (asks word l (codes "clear") device_option) _ _ w (λ a j. at (codes "clear") true device_option known_clear first (ap is_some is) a)
          (either (asks word l (codes "premises") why_options) _ _ w (λ a j. at (codes "premises") true why_options known_premises first (ap is_some is) a)
          (either (asks word l (codes "attain") trials_options) _ _ w (λ a j. at (codes "attain") true trials_options known_attain first (ap is_some is) a)
          (either (asks word l (codes "simulate") steps_options) _ _ w (λ a j. at (codes "simulate") true steps_options known_simulate first (ap is_some is) a)
          (λ j. absurd (none-some w j))))))))) k

whole_good : (word : List ℕ) (words : List (List ℕ)) (o : Option LineSoFar) (x : Command) → then_words (Some empty_line) words ≡ o → whole word o ≡ Some x → IsGood (word ∷ words)
whole_good word words None x e h = absurd (none-some x h)
whole_good word words (Some l) x e h = by l.waits refl h where
  by : (v : Option Valued) → l.waits ≡ v → cond (is_none v) (called word l) None ≡ Some x → IsGood (word ∷ words)
  by None is h = called_good word words l x is e h
  by (Some v) is h = absurd (none-some x h)

good_words : (ws : List (List ℕ)) (x : Command) → command_named ws ≡ Some x → IsGood ws
good_words [] x h = absurd (none-some x h)
good_words (word ∷ words) x h = whole_good word words (then_words (Some empty_line) words) x refl h

-- words that `clap` does not accept are no command
pub not_taken : (ws : List (List ℕ)) → takes line_app ws ≢ true → None ≡ command_named ws
not_taken ws n = by (command_named ws) refl where
  by : (o : Option Command) → command_named ws ≡ o → None ≡ command_named ws
  by None e = sym e
  by (Some x) e = absurd (n (good_words ws x e).taken)

-- words of which one is refused are no command
pub not_free : (ws : List (List ℕ)) → list_any is_refused ws ≡ true → None ≡ command_named ws
not_free ws n = by (command_named ws) refl where
  true_is_false : true ≡ false → ⊥
  true_is_false e = cc

  by : (o : Option Command) → command_named ws ≡ o → None ≡ command_named ws
  by None e = sym e
  by (Some x) e = absurd (true_is_false (sym n ∙ (good_words ws x e).free))

-- ---- what clap finds

abbrev top : Shape
top = (built line_app).top

-- what was found is a line, and the words are the command that it is
pub record IsTold (ws : List Text) : Type 0 where
  pub name : Text
  pub rows : List Row
  pub line : LineSoFar
  pub found : subcommand_of line_app ws ≡ Some (name, rows)
  pub shows : TellsLine rows line
  pub command : called name line ≡ command_named ws

told_at : (name : Text) (has : AllowsWords) (k : IsKnown name has) (word : Text) (ws : List Text) → list_any is_refused ws ≡ false → fault_of line_app (word ∷ ws) ≡ [] → bytes_eq name word ≡ true → IsTold (word ∷ ws)
told_at name has k word ws free e is = subst (λ (w : Text). fault_of line_app (w ∷ ws) ≡ [] → IsTold (w ∷ ws)) ((bytes_eq-Decides name word).0 is) here e where
  here : fault_of line_app (name ∷ ws) ≡ [] → IsTold (name ∷ ws)
  here e =
      let r = sound k.shape has k.level k.strict ws free (level_fails (built line_app) name k.shape ws k.named e) in
      let t : Tells r.line (rows_after k.shape.rules [] ws) = k.ends r.line _ r.shows in
      record {
        name = name;
        rows = rows_after k.shape.rules [] ws;
        line = r.line;
        found = level_found (built line_app) name k.shape ws k.named;
        shows = record {
          first = t.first;
          second = t.second;
          assume = t.given Assume;
          steps = t.given Steps;
          device = t.given Device;
          trials = t.given Trials;
          json = t.marked Json;
          why = t.marked Why;
          waits = r.rests;
        };
        command = sym (ap (whole name) r.is ∙ ap (λ (v : Option Valued). cond (is_none v) (called name r.line) None) r.rests);
      }

-- the first word is a command's name
first_passes : (word : Text) (ws : List Text) → fault_of line_app (word ∷ ws) ≡ [] → turn_fault top (names_of (built line_app)) (walk_from nothing_held) word ≡ []
unfolding walk_fault
first_passes word ws e =
    (both_none (turn_fault top (names_of (built line_app)) (walk_from nothing_held) word) _
    (both_none (walk_fault top (names_of (built line_app)) (walk_from nothing_held) (word ∷ ws)) _ e).0).0

option_first : (v : Valued) → turn_fault top (names_of (built line_app)) (walk_from nothing_held) (spelled v) ≡ [] → ⊥
unfolding clap_on_literals
option_first Assume e = none_of _ _ e
option_first Steps e = none_of _ _ e
option_first Device e = none_of _ _ e
option_first Trials e = none_of _ _ e

mark_first : (m : Mark) → turn_fault top (names_of (built line_app)) (walk_from nothing_held) (mark_spelled m) ≡ [] → ⊥
unfolding clap_on_literals
mark_first Json e = none_of _ _ e
mark_first Why e = none_of _ _ e

name_first : (b : ℕ) (bs : List ℕ) → (b == 45) ≡ false → find (answers_to (b ∷ bs)) (names_of (built line_app)) ≡ None → turn_fault top (names_of (built line_app)) (walk_from nothing_held) (b ∷ bs) ≡ [] → ⊥
name_first b bs n none e =
    strays top (name_passed top nothing_held 1 b bs n (sym (ap (λ (o : Option (Text × List Text)). turn (option_map (λ s. s.0) o)) none) ∙ e)) where
      turn : Option Text → Kinds
      turn o = or_else (other_fault top o (b ∷ bs) nothing_held) (step_fault top 1 (subcommand_or_other top.rules o idle 1 (b ∷ bs) nothing_held).0 (subcommand_or_other top.rules o idle 1 (b ∷ bs) nothing_held).1)

no_first : (word : Text) → is_refused word ≡ false → find (answers_to word) (names_of (built line_app)) ≡ None → turn_fault top (names_of (built line_app)) (walk_from nothing_held) word ≡ [] → ⊥
no_first word free none e = by (class word free) where
  by : Class word → ⊥
  by (Plain b bs n is) = name_first b bs n (subst (λ (w : Text). find (answers_to w) (names_of (built line_app)) ≡ None) is none) (subst (λ (w : Text). turn_fault top (names_of (built line_app)) (walk_from nothing_held) w ≡ []) is e)
  by (Takes v is) = option_first v (subst (λ (w : Text). turn_fault top (names_of (built line_app)) (walk_from nothing_held) w ≡ []) is e)
  by (Alone m is) = mark_first m (subst (λ (w : Text). turn_fault top (names_of (built line_app)) (walk_from nothing_held) w ≡ []) is e)

decide : {G : Type 0} (b : Bool) → (b ≡ true → G) → (b ≡ false → G) → G
decide true here later = here refl
decide false here later = later refl

told_first : (word : Text) (ws : List Text) → is_refused word ≡ false → list_any is_refused ws ≡ false → fault_of line_app (word ∷ ws) ≡ [] → IsTold (word ∷ ws)
told_first word ws plain free e =
    decide (bytes_eq (codes "check") word) (told_at (codes "check") judging known_check word ws free e) (λ c.
    decide (bytes_eq (codes "analyse") word) (told_at (codes "analyse") analysing known_analyse word ws free e) (λ a.
    decide (bytes_eq (codes "run") word) (told_at (codes "run") judging known_run word ws free e) (λ r.
    decide (bytes_eq (codes "report") word) (told_at (codes "report") reporting known_report word ws free e) (λ t.
    decide (bytes_eq (codes "explain") word) (told_at (codes "explain") judging known_explain word ws free e) (λ x.
    decide (bytes_eq (codes "clear") word) (told_at (codes "clear") clearing known_clear word ws free e) (λ l.
    decide (bytes_eq (codes "premises") word) (told_at (codes "premises") telling known_premises word ws free e) (λ p.
    decide (bytes_eq (codes "attain") word) (told_at (codes "attain") attains known_attain word ws free e) (λ y.
    decide (bytes_eq (codes "simulate") word) (told_at (codes "simulate") simulating known_simulate word ws free e) (λ s.
    decide (bytes_eq (codes "demo") word) (told_at (codes "demo") measuring known_demo word ws free e) (λ d.
    absurd (no_first word plain (simp (c, a, r, t, x, l, p, y, s, d)) (first_passes word ws e))))))))))))

pub told : (ws : List Text) → list_any is_refused ws ≡ false → fault_of line_app ws ≡ [] → IsTold ws
unfolding clap_on_literals
told [] free e = absurd (none_of _ _ e)
told (word ∷ ws) free e =
    let k : (is_refused word ≡ false) × (list_any is_refused ws ≡ false) = or_parts (is_refused word) (list_any is_refused ws) free in
    told_first word ws k.0 k.1 e

-- clap says exactly what it makes of the program's words
pub line_simple : is_simple line_app ≡ true
unfolding clap_on_literals
line_simple = refl

pub line_free : is_simple_and_free line_app ≡ true
unfolding clap_on_literals
line_free = refl
