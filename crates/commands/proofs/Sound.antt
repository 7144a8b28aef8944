-- What a level that fails nowhere found is a line.
use Rattle.std.proofs.Common.{◌≡◌, ℕ, ◌==◌, suc, ◌||◌, ◌&&◌, not, List, [], ◌∷◌, ◌++◌, Bool, true, false, refl, ap, sym, subst, ◌∙◌, codes, Option, Some, None, cond, is_some, fold}
use Rattle.std.specs.Prelude.{⊤, if◌then◌else◌}
use Rattle.std.specs.List.{list_any}
use Rattle.std.specs.Option.{option_map_or}
use Rattle.std.specs.Str.{bytes_eq}
use Rattle.std.proofs.lemmas.Slice.Eq.{bytes_eq-Decides}
use Rattle.std.proofs.lemmas.Bool.{or_parts}
use Rattle.basics.specs.Booleans.{and_with_false}
use Rattle.clap.specs.Words.{Shape, Text, Rule, Row, Kinds}
use Rattle.clap.specs.Walk.{Held, Waiting, Walk, walk, nothing_held, idle, option, value, walked, has_row, settled, reacted, pushed, arg_by_id, arg_by_index, arg_by_long, takes_values, takes_several, is_pending}
use Rattle.clap.specs.Faults.{use_fault, settle_fault, react_fault, long_fault, positional_fault, step_fault, stray_fault, turn_fault, word_fault, walk_fault}
use Rattle.clap.specs.declared.error.kind.ErrorKind.{ErrorKind}
use Rattle.commands.specs.Options.{Valued, Assume, Steps, Device, Trials}
use Rattle.commands.specs.Commands.{LineSoFar, empty_line, named, waiting, with_value, with_free, placed, with_word, then_words, is_name}
use Rattle.commands.specs.Lines.{is_option, is_refused}
use Rattle.commands.proofs.Pieces.{Mark, Json, Why, option_name, spelled, mark_name, mark_spelled, value_of, valued, is_marked, marked, with_mark}
use Rattle.commands.proofs.Levels.{none_of, both_none, LevelPasses}
use Rattle.commands.proofs.Steps.{at, begun, name_walked, value_walked, option_walked, flag_walked, option_long, mark_long, no_option_dashes, no_mark_dashes}
use Rattle.commands.proofs.Going.{IsWordLevel, IsPositional, IsOption, IsFlag, IsStrict, AllowsWords, rows_at}
use Rattle.commands.proofs.Rows.{new_row}
use Rattle.commands.proofs.Shown.{Shows, no_text, none_read, mark_text, told, shows_first, shows_second, shows_given, shows_marked, shows_nothing}

-- ---- words

-- what a word is that isn't refused: one without a hyphen, or one of the options
pub data Class (word : Text) : Type 0 where
  Plain : (b : ℕ) (bs : List ℕ) → (b == 45) ≡ false → word ≡ b ∷ bs → Class word
  Takes : (v : Valued) → word ≡ spelled v → Class word
  Alone : (m : Mark) → word ≡ mark_spelled m → Class word

option_class : (word : Text) → is_option word ≡ true → Class word
option_class word h = by (bytes_eq word (codes "--assume")) refl (bytes_eq word (codes "--steps")) refl (bytes_eq word (codes "--device")) refl (bytes_eq word (codes "--trials")) refl (bytes_eq word (codes "--json")) refl (bytes_eq word (codes "--why")) refl h where
  by : (a : Bool) → bytes_eq word (codes "--assume") ≡ a → (s : Bool) → bytes_eq word (codes "--steps") ≡ s → (d : Bool) → bytes_eq word (codes "--device") ≡ d → (t : Bool) → bytes_eq word (codes "--trials") ≡ t
      → (j : Bool) → bytes_eq word (codes "--json") ≡ j → (w : Bool) → bytes_eq word (codes "--why") ≡ w → (a || (s || (d || (t || (j || w))))) ≡ true → Class word
  by true is s _ d _ t _ j _ w _ h = Takes Assume ((bytes_eq-Decides word (codes "--assume")).0 is)
  by false _ true is d _ t _ j _ w _ h = Takes Steps ((bytes_eq-Decides word (codes "--steps")).0 is)
  by false _ false _ true is t _ j _ w _ h = Takes Device ((bytes_eq-Decides word (codes "--device")).0 is)
  by false _ false _ false _ true is j _ w _ h = Takes Trials ((bytes_eq-Decides word (codes "--trials")).0 is)
  by false _ false _ false _ false _ true is w _ h = Alone Json ((bytes_eq-Decides word (codes "--json")).0 is)
  by false _ false _ false _ false _ false _ true is h = Alone Why ((bytes_eq-Decides word (codes "--why")).0 is)
  by false _ false _ false _ false _ false _ false _ h = absurd (cc)

pub class : (word : Text) → is_refused word ≡ false → Class word
class [] h = absurd (cc)
class (b ∷ bs) h = by (b == 45) refl (is_option (b ∷ bs)) refl h where
  by : (m : Bool) → (b == 45) ≡ m → (o : Bool) → is_option (b ∷ bs) ≡ o → (not (not m) && not o) ≡ false → Class (b ∷ bs)
  by false is o k h = Plain b bs is refl
  by true is true k h = option_class (b ∷ bs) k
  by true is false k h = absurd (cc)

-- how a line takes them
free_name : (line : LineSoFar) (b : ℕ) (bs : List ℕ) → (b == 45) ≡ false → with_free line (b ∷ bs) ≡ named line.first line.second line (b ∷ bs)
free_name line b bs h = simp (h)

free_option : (line : LineSoFar) (v : Valued) → with_free line (spelled v) ≡ Some (waiting line v)
free_option line Assume = refl
free_option line Steps = refl
free_option line Device = refl
free_option line Trials = refl

free_mark : (line : LineSoFar) (m : Mark) → with_free line (mark_spelled m) ≡ with_mark m line
free_mark line Json = refl
free_mark line Why = refl

-- ---- kinds

pub strays : (s : Shape) → stray_fault s ≡ [] → ⊥
strays s e = by s.is_leaf e where
  by : (b : Bool) → cond b (Rattle.clap.specs.declared.error.kind.ErrorKind.TheVariants.UnknownArgument ∷ []) (Rattle.clap.specs.declared.error.kind.ErrorKind.TheVariants.UnknownArgument ∷ Rattle.clap.specs.declared.error.kind.ErrorKind.TheVariants.InvalidSubcommand ∷ []) ≡ [] → ⊥
  by true e = none_of _ _ e
  by false e = none_of _ _ e

unknown : (c : List Rule) (again : Bool) (h : Held) (o : Option Rule) → o ≡ None → long_fault c again o None h ≡ [] → ⊥
unknown c again h o is e = none_of _ _ (ap (λ (o : Option Rule). long_fault c again o None h) (sym is) ∙ e)

-- an option is begun once what waits is used
long_settles : (c : List Rule) (again : Bool) (h : Held) (o : Option Rule) → long_fault c again o None h ≡ [] → settle_fault c again h ≡ []
long_settles c again h None e = absurd (none_of _ _ e)
long_settles c again h (Some a) e = by (takes_values a) e where
  by : (t : Bool) → (if t then settle_fault c again h else (if false then Rattle.clap.specs.declared.error.kind.ErrorKind.TheVariants.TooManyValues ∷ [] else react_fault c again a [] h)) ≡ [] → settle_fault c again h ≡ []
  by true e = e
  by false e = (both_none (settle_fault c again h) _ e).0

-- ---- the turn of a word

option_fault_is : (s : Shape) (h : Held) (waits : Waiting) (v : Valued) → word_fault s [] false waits (spelled v) h ≡ long_fault s.rules s.args_override_self (arg_by_long s.rules (option_name v)) None h
option_fault_is s h idle Assume = refl
option_fault_is s h idle Steps = refl
option_fault_is s h idle Device = refl
option_fault_is s h idle Trials = refl
option_fault_is s h (option id) Assume = refl
option_fault_is s h (option id) Steps = refl
option_fault_is s h (option id) Device = refl
option_fault_is s h (option id) Trials = refl
option_fault_is s h Rattle.clap.specs.Walk.positional Assume = refl
option_fault_is s h Rattle.clap.specs.Walk.positional Steps = refl
option_fault_is s h Rattle.clap.specs.Walk.positional Device = refl
option_fault_is s h Rattle.clap.specs.Walk.positional Trials = refl

mark_fault_is : (s : Shape) (h : Held) (waits : Waiting) (m : Mark) → word_fault s [] false waits (mark_spelled m) h ≡ long_fault s.rules s.args_override_self (arg_by_long s.rules (mark_name m)) None h
mark_fault_is s h idle Json = refl
mark_fault_is s h idle Why = refl
mark_fault_is s h (option id) Json = refl
mark_fault_is s h (option id) Why = refl
mark_fault_is s h Rattle.clap.specs.Walk.positional Json = refl
mark_fault_is s h Rattle.clap.specs.Walk.positional Why = refl

option_passed : (s : Shape) (h : Held) (waits : Waiting) (i : ℕ) (v : Valued) → turn_fault s [] (at h waits i) (spelled v) ≡ [] → long_fault s.rules s.args_override_self (arg_by_long s.rules (option_name v)) None h ≡ []
option_passed s h waits i v e = sym (option_fault_is s h waits v) ∙ (both_none (word_fault s [] false waits (spelled v) h) _ e).0

mark_passed : (s : Shape) (h : Held) (waits : Waiting) (i : ℕ) (m : Mark) → turn_fault s [] (at h waits i) (mark_spelled m) ≡ [] → long_fault s.rules s.args_override_self (arg_by_long s.rules (mark_name m)) None h ≡ []
mark_passed s h waits i m e = sym (mark_fault_is s h waits m) ∙ (both_none (word_fault s [] false waits (mark_spelled m) h) _ e).0

-- a name goes to its position
pub name_passed : (s : Shape) (h : Held) (i b : ℕ) (bs : List ℕ) → (b == 45) ≡ false → turn_fault s [] (at h idle i) (b ∷ bs) ≡ [] → step_fault s i h value ≡ []
name_passed s h i b bs n e =
    let met : Rattle.clap.specs.Walk.word_met s.rules [] false idle i (b ∷ bs) h ≡ (h, value) = simp (n) in
    ap (λ (p : Held × Rattle.clap.specs.Walk.Step). step_fault s i p.0 p.1) (sym met) ∙ (both_none (word_fault s [] false idle (b ∷ bs) h) _ e).1

-- ---- a level

-- how many names there are
pub data Spot : Type 0 where
  One : Spot
  Two : Spot
  Three : Spot

abbrev pub index : Spot → ℕ
index One = 1
index Two = 2
index Three = 3

-- the names before this one are there, and no later one
abbrev pub HoldsNames : Option Text → Option Text → Spot → Type 0
HoldsNames f t One = (f ≡ None) × (t ≡ None)
HoldsNames f t Two = (is_some f ≡ true) × (t ≡ None)
HoldsNames f t Three = ⊤

named_first : (f t : Option Text) (line : LineSoFar) (word : Text) → f ≡ None → named f t line word ≡ Some (record line { first = Some word })
named_first None t line word e = refl
named_first (Some x) t line word e = absurd (cc)

named_second : (f t : Option Text) (line : LineSoFar) (word : Text) → is_some f ≡ true → t ≡ None → named f t line word ≡ Some (record line { second = Some word })
named_second None t line word f e = absurd (cc)
named_second (Some x) None line word f e = refl
named_second (Some x) (Some y) line word f e = absurd (cc)

with_value_is : (v : Valued) (line : LineSoFar) (word : Text) → value_of v line ≡ None → with_value v (waiting line v) word ≡ Some (valued v line word)
with_value_is Assume line word e = ap (λ (o : Option Text). Rattle.commands.specs.Commands.with_assume (waiting line Assume) (Rattle.commands.specs.Commands.once o word)) e
with_value_is Steps line word e = ap (λ (o : Option Text). Rattle.commands.specs.Commands.with_steps (waiting line Steps) (Rattle.commands.specs.Commands.once o word)) e
with_value_is Device line word e = ap (λ (o : Option Text). Rattle.commands.specs.Commands.with_device (waiting line Device) (Rattle.commands.specs.Commands.once o word)) e
with_value_is Trials line word e = ap (λ (o : Option Text). Rattle.commands.specs.Commands.with_trials (waiting line Trials) (Rattle.commands.specs.Commands.once o word)) e

with_mark_is : (m : Mark) (line : LineSoFar) → is_marked m line ≡ false → with_mark m line ≡ Some (marked m line)
with_mark_is Json line e = ap (λ (b : Bool). cond b None (Some (marked Json line))) e
with_mark_is Why line e = ap (λ (b : Bool). cond b None (Some (marked Why line))) e

value_rests : (v : Valued) (line : LineSoFar) (word : Text) → (valued v line word).waits ≡ None
value_rests Assume line word = refl
value_rests Steps line word = refl
value_rests Device line word = refl
value_rests Trials line word = refl

mark_rests : (m : Mark) (line : LineSoFar) → (marked m line).waits ≡ line.waits
mark_rests Json line = refl
mark_rests Why line = refl

value_names : (v : Valued) (line : LineSoFar) (word : Text) (i : Spot) → HoldsNames line.first line.second i → HoldsNames (valued v line word).first (valued v line word).second i
value_names Assume line word i p = p
value_names Steps line word i p = p
value_names Device line word i p = p
value_names Trials line word i p = p

mark_names : (m : Mark) (line : LineSoFar) (i : Spot) → HoldsNames line.first line.second i → HoldsNames (marked m line).first (marked m line).second i
mark_names Json line i p = p
mark_names Why line i p = p

no_some : (o : Option Rule) → is_some o ≡ false → o ≡ None
no_some None e = refl
no_some (Some a) e = absurd (cc)

no_mark_text : (b : Bool) → mark_text b ≡ None → b ≡ false
no_mark_text true e = absurd (cc)
no_mark_text false e = refl

module _ (s : Shape) (w : AllowsWords) (level : IsWordLevel s w (codes "first")) (strict : IsStrict s w) where
  abbrev fails : Held → Kinds
  fails h = settle_fault s.rules s.args_override_self h

  -- between words: what was found is a line, if what waits can be used
  record Stand (h : Held) (i : Spot) (o : Option LineSoFar) : Type 0 where
    line : LineSoFar
    is : o ≡ Some line
    rests : line.waits ≡ None
    names : HoldsNames line.first line.second i
    shows : Shows line (rows_at s h)

  -- and in the end
  pub record Reads (o : Option LineSoFar) (ws : List Text) (rows : List Row) : Type 0 where
    pub line : LineSoFar
    pub is : then_words o ws ≡ Some line
    pub rests : line.waits ≡ None
    pub shows : Shows line rows

  abbrev end_of : Walk → List Text → Held
  end_of v ws = (fold (walked s.rules []) v ws).held

  Follows : Walk → List Text → Option LineSoFar → Type 0
  Follows v ws o = walk_fault s [] v ws ≡ [] → fails (end_of v ws) ≡ [] → Reads o ws (rows_at s (end_of v ws))

  -- the words behind the first
  record Onward (v : Walk) (word : Text) (ws : List Text) (o : Option LineSoFar) : Type 0 where
    after : Walk
    then_is : Option LineSoFar
    walks : walked s.rules [] v word ≡ after
    reads : then_words o (word ∷ ws) ≡ then_words then_is ws
    follows : Follows after ws then_is

  onward : (v : Walk) (word : Text) (ws : List Text) (o : Option LineSoFar) → (turn_fault s [] v word ≡ [] → Onward v word ws o) → Follows v (word ∷ ws) o
  unfolding Follows walk_fault
  onward v word ws o f faults ends =
      let p : (turn_fault s [] v word ≡ []) × (walk_fault s [] (walked s.rules [] v word) ws ≡ []) = both_none (turn_fault s [] v word) _ faults in
      let n : Onward v word ws o = f p.0 in
      let r : Reads n.then_is ws (rows_at s (end_of n.after ws)) =
      n.follows (subst (λ (x : Walk). walk_fault s [] x ws ≡ []) n.walks p.1) (subst (λ (x : Walk). fails (end_of x ws) ≡ []) n.walks ends) in
      record {
        line = r.line;
        is = n.reads ∙ r.is;
        rests = r.rests;
        shows = subst (λ (x : Walk). Shows r.line (rows_at s (end_of x ws))) (sym n.walks) r.shows;
      }

  IdleFollows : List Text → Type 0
  IdleFollows ws = (h : Held) (i : Spot) (o : Option LineSoFar) → (fails h ≡ [] → Stand h i o) → Follows (at h idle (index i)) ws o

  WaitsFollow : List Text → Type 0
  WaitsFollow ws = (v : Valued) (p : IsOption s (option_name v)) (h : Held) (i : Spot) (line : LineSoFar) → line.waits ≡ None → HoldsNames line.first line.second i → Shows line (rows_at s h)
      → Follows (at (begun s.rules p.rule h) (option p.rule.id) (index i)) ws (Some (waiting line v))

  -- ---- the parts of a turn

  -- the line of words that stand for a line
  word_on : (o : Option LineSoFar) (line next : LineSoFar) (word : Text) (ws : List Text) → o ≡ Some line → line.waits ≡ None → with_free line word ≡ Some next → then_words o (word ∷ ws) ≡ then_words (Some next) ws
  word_on o line next word ws is rests e =
      ap (λ (x : Option LineSoFar). then_words x (word ∷ ws)) is ∙ ap (λ (x : Option Valued). then_words (placed x line word) ws) rests ∙ ap (λ (x : Option LineSoFar). then_words x ws) e

  hungry_fails : (v : Valued) (p : IsOption s (option_name v)) (h : Held) → fails (begun s.rules p.rule h) ≡ [] → ⊥
  hungry_fails v p h e = p.hungry (rows_at s h) (ap (λ (o : Option Rule). option_map_or (λ a. use_fault s.args_override_self a [] (rows_at s h)) o []) (sym p.usable.found) ∙ e)

  abbrev kept : Rule → Text → Held → Held
  kept a word h = record { rows = rows_at s h; pending = Some (a.id, word ∷ []); skip = h.skip }

  kept_fault : (a : Rule) (id word : Text) (h : Held) (u : Rattle.commands.proofs.Going.IsUsable s a id) → fails (kept a word h) ≡ [] → has_row id (rows_at s h) ≡ false
  kept_fault a id word h u e = u.repeats word (rows_at s h) (ap (λ (o : Option Rule). option_map_or (λ a. use_fault s.args_override_self a (word ∷ []) (rows_at s h)) o []) (sym u.found) ∙ e)

  kept_rows : (a : Rule) (id word : Text) (h : Held) (u : Rattle.commands.proofs.Going.IsUsable s a id) → has_row id (rows_at s h) ≡ false → rows_at s (kept a word h) ≡ rows_at s h ++ told id u.how word ∷ []
  kept_rows a id word h u free =
      ap (λ (o : Option Rule). Rattle.clap.specs.Walk.used_by_id o (word ∷ []) (rows_at s h)) u.found ∙ u.adds word (rows_at s h)
      ∙ new_row id u.how Rattle.clap.specs.declared.parser.matches.ValueSource.TheVariants.CommandLine (word ∷ []) (rows_at s h) free

  -- a position that has no name
  no_position : (h : Held) (i : ℕ) → arg_by_index s.rules i ≡ None → step_fault s i h value ≡ [] → ⊥
  no_position h i none e = strays s (ap (λ (o : Option Rule). option_map_or (λ a. positional_fault s.rules s.args_override_self a h) o (stray_fault s)) (sym none) ∙ e)

  name_settles : (h : Held) (i : ℕ) (id : Text) (p : IsPositional s i id) → step_fault s i h value ≡ [] → fails h ≡ []
  name_settles h i id p e =
      sym (ap (λ (t : Bool). cond t [] (fails h)) (ap (λ (t : Bool). is_pending p.rule h.pending && t) p.single ∙ and_with_false (is_pending p.rule h.pending)))
      ∙ (ap (λ (o : Option Rule). option_map_or (λ a. positional_fault s.rules s.args_override_self a h) o (stray_fault s)) (sym p.found) ∙ e)

  name_walks : (h : Held) (i b : ℕ) (bs : List ℕ) (id : Text) (p : IsPositional s i id) → (b == 45) ≡ false → walked s.rules [] (at h idle i) (b ∷ bs) ≡ at (kept p.rule (b ∷ bs) h) idle (suc i)
  name_walks h i b bs id p n =
      name_walked s h i b bs n ∙ ap (λ (o : Option Rule). Rattle.clap.specs.Walk.to_positional s.rules o (b ∷ bs) (at h idle i) h) p.found
      ∙ (λ j. record {
        held = held j;
        waiting = cond (p.one j) Rattle.clap.specs.Walk.positional idle;
        position = p.next j;
        is_trailing = false || p.last j;
        stopped = None;
      }) where
        held : Rattle.clap.specs.Walk.positional_held s.rules p.rule (b ∷ bs) h ≡ kept p.rule (b ∷ bs) h
        held = ap (λ (t : Bool). pushed p.rule.id (b ∷ bs) (cond (is_pending p.rule h.pending && t) h (settled s.rules h))) p.single
            ∙ ap (λ (t : Bool). pushed p.rule.id (b ∷ bs) (cond t h (settled s.rules h))) (and_with_false (is_pending p.rule h.pending))

  -- ---- turns between words

  first_turn : (h : Held) (o : Option LineSoFar) (b : ℕ) (bs : List ℕ) (ws : List Text) → (fails h ≡ [] → Stand h One o) → IdleFollows ws → (b == 45) ≡ false
      → turn_fault s [] (at h idle 1) (b ∷ bs) ≡ [] → Onward (at h idle 1) (b ∷ bs) ws o
  unfolding IdleFollows
  first_turn h o b bs ws stand go n e =
      let t : Stand h One o = stand (name_settles h 1 (codes "first") level.first (name_passed s h 1 b bs n e)) in
      let next : LineSoFar = record t.line { first = Some (b ∷ bs) } in
      let k : Held = kept level.first.rule (b ∷ bs) h in
      record {
        after = at k idle 2;
        then_is = Some next;
        walks = name_walks h 1 b bs (codes "first") level.first n;
        reads = word_on o t.line next (b ∷ bs) ws t.is t.rests (free_name t.line b bs n ∙ named_first t.line.first t.line.second t.line (b ∷ bs) t.names.0);
        follows = go k Two (Some next) (λ e.
            let free : has_row (codes "first") (rows_at s h) ≡ false = kept_fault level.first.rule (codes "first") (b ∷ bs) h level.first.usable e in
            record {
              line = next;
              is = refl;
              rests = t.rests;
              names = (refl, t.names.1);
              shows = subst (Shows next) (sym (kept_rows level.first.rule (codes "first") (b ∷ bs) h level.first.usable free)) (shows_first t.line (b ∷ bs) level.first.usable.how (rows_at s h) free t.shows);
            });
      }

  second_turn : (h : Held) (o : Option LineSoFar) (b : ℕ) (bs : List ℕ) (ws : List Text) → (fails h ≡ [] → Stand h Two o) → IdleFollows ws → (b == 45) ≡ false
      → turn_fault s [] (at h idle 2) (b ∷ bs) ≡ [] → Onward (at h idle 2) (b ∷ bs) ws o
  unfolding IdleFollows
  second_turn h o b bs ws stand go n e = by w.second refl where
    goes : IsPositional s 2 (codes "second") → Onward (at h idle 2) (b ∷ bs) ws o
    goes p =
        let t : Stand h Two o = stand (name_settles h 2 (codes "second") p (name_passed s h 2 b bs n e)) in
        let next : LineSoFar = record t.line { second = Some (b ∷ bs) } in
        let k : Held = kept p.rule (b ∷ bs) h in
        record {
          after = at k idle 3;
          then_is = Some next;
          walks = name_walks h 2 b bs (codes "second") p n;
          reads = word_on o t.line next (b ∷ bs) ws t.is t.rests (free_name t.line b bs n ∙ named_second t.line.first t.line.second t.line (b ∷ bs) t.names.0 t.names.1);
          follows = go k Three (Some next) (λ e.
              let free : has_row (codes "second") (rows_at s h) ≡ false = kept_fault p.rule (codes "second") (b ∷ bs) h p.usable e in
              record {
                line = next;
                is = refl;
                rests = t.rests;
                names = tt;
                shows = subst (Shows next) (sym (kept_rows p.rule (codes "second") (b ∷ bs) h p.usable free)) (shows_second t.line (b ∷ bs) p.usable.how (rows_at s h) free t.shows);
              });
        }

    by : (t : Bool) → w.second ≡ t → Onward (at h idle 2) (b ∷ bs) ws o
    by true is = goes (level.second is)
    by false is = absurd (no_position h 2 (no_some (arg_by_index s.rules 2) (strict.second ∙ is)) (name_passed s h 2 b bs n e))

  name_turn : (h : Held) (i : Spot) (o : Option LineSoFar) (b : ℕ) (bs : List ℕ) (ws : List Text) → (fails h ≡ [] → Stand h i o) → IdleFollows ws → (b == 45) ≡ false
      → turn_fault s [] (at h idle (index i)) (b ∷ bs) ≡ [] → Onward (at h idle (index i)) (b ∷ bs) ws o
  name_turn h One o b bs ws stand go n e = first_turn h o b bs ws stand go n e
  name_turn h Two o b bs ws stand go n e = second_turn h o b bs ws stand go n e
  name_turn h Three o b bs ws stand go n e = absurd (no_position h 3 (no_some (arg_by_index s.rules 3) strict.third) (name_passed s h 3 b bs n e))

  option_turn : (h : Held) (i : Spot) (o : Option LineSoFar) (v : Valued) (ws : List Text) → (fails h ≡ [] → Stand h i o) → WaitsFollow ws
      → turn_fault s [] (at h idle (index i)) (spelled v) ≡ [] → Onward (at h idle (index i)) (spelled v) ws o
  unfolding WaitsFollow
  option_turn h i o v ws stand go e = by (w.given v) refl where
    passed : long_fault s.rules s.args_override_self (arg_by_long s.rules (option_name v)) None h ≡ []
    passed = option_passed s h idle (index i) v e

    by : (b : Bool) → w.given v ≡ b → Onward (at h idle (index i)) (spelled v) ws o
    by false is = absurd (unknown s.rules s.args_override_self h (arg_by_long s.rules (option_name v)) (no_some (arg_by_long s.rules (option_name v)) (strict.given v ∙ is)) passed)
    by true is =
        let t : Stand h i o = stand (long_settles s.rules s.args_override_self h (arg_by_long s.rules (option_name v)) passed) in
        let p : IsOption s (option_name v) = level.given v is in
        record {
          after = at (begun s.rules p.rule h) (option p.rule.id) (index i);
          then_is = Some (waiting t.line v);
          walks = option_walked s h (index i) (spelled v) (option_name v) p.rule (no_option_dashes v) (option_long v) p.found p.takes;
          reads = word_on o t.line (waiting t.line v) (spelled v) ws t.is t.rests (free_option t.line v);
          follows = go v p h i t.line t.rests t.names t.shows;
        }

  mark_turn : (h : Held) (i : Spot) (o : Option LineSoFar) (m : Mark) (ws : List Text) → (fails h ≡ [] → Stand h i o) → IdleFollows ws
      → turn_fault s [] (at h idle (index i)) (mark_spelled m) ≡ [] → Onward (at h idle (index i)) (mark_spelled m) ws o
  unfolding IdleFollows
  mark_turn h i o m ws stand go e = by (w.marked m) refl where
    passed : long_fault s.rules s.args_override_self (arg_by_long s.rules (mark_name m)) None h ≡ []
    passed = mark_passed s h idle (index i) m e

    by : (b : Bool) → w.marked m ≡ b → Onward (at h idle (index i)) (mark_spelled m) ws o
    by false is = absurd (unknown s.rules s.args_override_self h (arg_by_long s.rules (mark_name m)) (no_some (arg_by_long s.rules (mark_name m)) (strict.marked m ∙ is)) passed)
    by true is =
        let t : Stand h i o = stand (long_settles s.rules s.args_override_self h (arg_by_long s.rules (mark_name m)) passed) in
        let p : IsFlag s (mark_name m) = level.marked m is in
        let reacts : react_fault s.rules s.args_override_self p.rule [] h ≡ [] =
        sym (ap (λ (b : Bool). if b then fails h else (if false then Rattle.clap.specs.declared.error.kind.ErrorKind.TheVariants.TooManyValues ∷ [] else react_fault s.rules s.args_override_self p.rule [] h)) p.takes)
        ∙ (ap (λ (o : Option Rule). long_fault s.rules s.args_override_self o None h) (sym p.found) ∙ passed) in
        let free : has_row (mark_name m) (rows_at s h) ≡ false = p.repeats (rows_at s h) (both_none (fails h) (use_fault s.args_override_self p.rule [] (rows_at s h)) reacts).1 in
        let unmarked : is_marked m t.line ≡ false = no_mark_text (is_marked m t.line) (sym (t.shows.marked m) ∙ none_read (mark_name m) (rows_at s h) free) in
        let k : Held = reacted s.rules p.rule [] h in
        record {
          after = at k idle (index i);
          then_is = Some (marked m t.line);
          walks = flag_walked s h (index i) (mark_spelled m) (mark_name m) p.rule (no_mark_dashes m) (mark_long m) p.found p.takes;
          reads = word_on o t.line (marked m t.line) (mark_spelled m) ws t.is t.rests (free_mark t.line m ∙ with_mark_is m t.line unmarked);
          follows = go k i (Some (marked m t.line)) (λ e. record {
            line = marked m t.line;
            is = refl;
            rests = mark_rests m t.line ∙ t.rests;
            names = mark_names m t.line i t.names;
            shows = subst (Shows (marked m t.line))
                (sym (p.adds (rows_at s h) ∙ new_row (mark_name m) p.how Rattle.clap.specs.declared.parser.matches.ValueSource.TheVariants.CommandLine p.values (rows_at s h) free))
                (shows_marked m t.line (record { id = mark_name m; values = p.values; count = None; source = Some Rattle.clap.specs.declared.parser.matches.ValueSource.TheVariants.CommandLine; reading = p.how }) (rows_at s h) refl p.told free t.shows);
          });
        }

  idle_turn : (word : Text) (ws : List Text) → is_refused word ≡ false → IdleFollows ws → WaitsFollow ws → IdleFollows (word ∷ ws)
  unfolding IdleFollows
  idle_turn word ws free go waits h i o stand = onward (at h idle (index i)) word ws o (λ e. by (class word free) e) where
    by : Class word → turn_fault s [] (at h idle (index i)) word ≡ [] → Onward (at h idle (index i)) word ws o
    by (Plain b bs n is) e = subst (λ (x : Text). Onward (at h idle (index i)) x ws o) (sym is) (name_turn h i o b bs ws stand go n (subst (λ (x : Text). turn_fault s [] (at h idle (index i)) x ≡ []) is e))
    by (Takes v is) e = subst (λ (x : Text). Onward (at h idle (index i)) x ws o) (sym is) (option_turn h i o v ws stand waits (subst (λ (x : Text). turn_fault s [] (at h idle (index i)) x ≡ []) is e))
    by (Alone m is) e = subst (λ (x : Text). Onward (at h idle (index i)) x ws o) (sym is) (mark_turn h i o m ws stand go (subst (λ (x : Text). turn_fault s [] (at h idle (index i)) x ≡ []) is e))

  -- ---- turns where an option waits

  value_turn : (v : Valued) (p : IsOption s (option_name v)) (h : Held) (i : Spot) (line : LineSoFar) (b : ℕ) (bs : List ℕ) (ws : List Text) → line.waits ≡ None → HoldsNames line.first line.second i → Shows line (rows_at s h)
      → IdleFollows ws → (b == 45) ≡ false → Onward (at (begun s.rules p.rule h) (option p.rule.id) (index i)) (b ∷ bs) ws (Some (waiting line v))
  unfolding IdleFollows
  value_turn v p h i line b bs ws rests names shows go n =
      let k : Held = kept p.rule (b ∷ bs) h in
      record {
        after = at k idle (index i);
        then_is = with_value v (waiting line v) (b ∷ bs);
        walks = value_walked s (begun s.rules p.rule h) p.rule.id (index i) b bs n
            ∙ ap (λ (o : Option Rule). at (Rattle.clap.specs.Walk.option_word o p.rule.id (b ∷ bs) (begun s.rules p.rule h)).0 (Rattle.clap.specs.Walk.option_word o p.rule.id (b ∷ bs) (begun s.rules p.rule h)).1 (index i)) p.usable.found
            ∙ ap (λ (t : Bool). at k (if t then option p.rule.id else idle) (index i)) (Rattle.std.proofs.lemmas.Bool.not-true _ (p.one (b ∷ bs)));
        reads = ap (λ (t : Bool). then_words (cond (not t) (with_value v (waiting line v) (b ∷ bs)) None) ws) n;
        follows = go k i (with_value v (waiting line v) (b ∷ bs)) (λ e.
            let free : has_row (option_name v) (rows_at s h) ≡ false = kept_fault p.rule (option_name v) (b ∷ bs) h p.usable e in
            let none : value_of v line ≡ None = sym (shows.given v) ∙ no_text (option_name v) (rows_at s h) free in
            record {
              line = valued v line (b ∷ bs);
              is = with_value_is v line (b ∷ bs) none;
              rests = value_rests v line (b ∷ bs);
              names = value_names v line (b ∷ bs) i names;
              shows = subst (Shows (valued v line (b ∷ bs))) (sym (kept_rows p.rule (option_name v) (b ∷ bs) h p.usable free)) (shows_given v line (b ∷ bs) p.usable.how (rows_at s h) free shows);
            });
      }

  waits_turn : (word : Text) (ws : List Text) → is_refused word ≡ false → IdleFollows ws → WaitsFollow (word ∷ ws)
  unfolding WaitsFollow
  waits_turn word ws free go v p h i line rests names shows = onward here word ws (Some (waiting line v)) (λ e. by (class word free) e) where
    here : Walk
    here = at (begun s.rules p.rule h) (option p.rule.id) (index i)

    stays_hungry : (o : Option Rule) → long_fault s.rules s.args_override_self o None (begun s.rules p.rule h) ≡ [] → ⊥
    stays_hungry o e = hungry_fails v p h (long_settles s.rules s.args_override_self (begun s.rules p.rule h) o e)

    by : Class word → turn_fault s [] here word ≡ [] → Onward here word ws (Some (waiting line v))
    by (Plain b bs n is) e = subst (λ (x : Text). Onward here x ws (Some (waiting line v))) (sym is) (value_turn v p h i line b bs ws rests names shows go n)
    by (Takes u is) e = absurd (stays_hungry (arg_by_long s.rules (option_name u)) (option_passed s (begun s.rules p.rule h) (option p.rule.id) (index i) u (subst (λ (x : Text). turn_fault s [] here x ≡ []) is e)))
    by (Alone m is) e = absurd (stays_hungry (arg_by_long s.rules (mark_name m)) (mark_passed s (begun s.rules p.rule h) (option p.rule.id) (index i) m (subst (λ (x : Text). turn_fault s [] here x ≡ []) is e)))

  -- ---- all words

  all_sound : (ws : List Text) → list_any is_refused ws ≡ false → IdleFollows ws × WaitsFollow ws
  unfolding IdleFollows WaitsFollow Follows
  all_sound [] free = (
    λ h i o stand faults ends.
        let t : Stand h i o = stand ends in
        record { line = t.line; is = t.is; rests = t.rests; shows = t.shows },
    λ v p h i line rests names shows faults ends. absurd (hungry_fails v p h ends),
  )
  all_sound (word ∷ ws) free =
      let k : (is_refused word ≡ false) × (list_any is_refused ws ≡ false) = or_parts (is_refused word) (list_any is_refused ws) free in
      let go : IdleFollows ws × WaitsFollow ws = all_sound ws k.1 in
      (idle_turn word ws k.0 go.0 go.1, waits_turn word ws k.0 go.0)

  pub sound : (ws : List Text) → list_any is_refused ws ≡ false → LevelPasses s ws → Reads (Some empty_line) ws (rows_at s (walk s.rules [] nothing_held ws).held)
  unfolding IdleFollows Follows
  sound ws free e = (all_sound ws free).0 nothing_held One (Some empty_line) (λ none. record {
    line = empty_line;
    is = refl;
    rests = refl;
    names = (refl, refl);
    shows = shows_nothing;
  }) e.walks e.settles
