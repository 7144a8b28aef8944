-- A command's level after each piece.
use Rattle.std.proofs.Common.{◌≡◌, ℕ, ◌==◌, ◌&&◌, ◌||◌, not, nat_lt, List, [], ◌∷◌, Bool, true, false, Option, Some, None, refl, ap, ap₂, ◌∙◌}
use Rattle.std.specs.Prelude.{fold, if◌then◌else◌}
use Rattle.std.specs.List.{list_all}
use Rattle.std.specs.Option.{option_map_or}
use Rattle.std.specs.Str.{bytes_eq}
use Rattle.std.proofs.lemmas.Bool.{and_parts, not-true, and_from}
use Rattle.clap.specs.Lexer.{long_of, short_of}
use Rattle.clap.specs.Words.{Shape, Text, Rule}
use Rattle.clap.specs.Walk.{Held, Waiting, Walk, Step, idle, option, positional, trailing, value, walked, walk_from, nothing_held, finished, long_or_other, short_or_plain, long_met, option_met, flag_met, after_flag, after_step, to_positional, positional_held, next_position, is_multiple, arg_by_index, arg_by_long, arg_by_id, takes_values, most_values, Outcome, settled, reacted, pushed, pending_count, option_word}
use Rattle.clap.specs.Takes.{turn_passes, walk_passes, step_passes, positional_passes, flag_word_passes, bundle_passes, long_passes, option_passes, react_passes, settle_passes, default_passes, is_valid}
use Rattle.commands.proofs.Levels.{level_takes}
use Rattle.commands.specs.Options.{Valued, Assume, Steps, Device, Trials}
use Rattle.commands.proofs.Pieces.{Piece, Named, Given, Marked, Mark, Json, Why, option_name, spelled, mark_name, mark_spelled, all_words, AreFit}

-- where the walk stands between two pieces
abbrev pub at : Held → Waiting → ℕ → Walk
at h waiting i = record { held = h; waiting = waiting; position = i; is_trailing = false; stopped = None }

-- the test at the end of the walk
abbrev pub final : Shape → Held → Bool
final s h = settle_passes s.rules s.args_override_self h && (list_all default_passes s.rules && is_valid s (finished s.rules h) false)

-- an option that lacks its value
abbrev pub begun : List Rule → Rule → Held → Held
begun c a h = record (settled c h) { pending = Some (a.id, []) }

-- ---- pieces

abbrev pub name_goes : Shape → Held → ℕ → Text → Option Rule → (Held → ℕ → Bool) → Bool
name_goes s h i word None later = false
name_goes s h i word (Some a) later =
    positional_passes s.rules s.args_override_self a h
    && (not (is_multiple a) && (not a.trailing_var_arg && later (positional_held s.rules a word h) (next_position a i)))

abbrev pub value_goes : Held → Text → Text → Option Rule → (Held → Bool) → Bool
value_goes h id word None later = false
value_goes h id word (Some a) later = not (nat_lt (pending_count a (pushed id word h).pending) (most_values a)) && later (pushed id word h)

abbrev pub option_goes : Shape → Held → Text → Option Rule → (Held → Bool) → Bool
option_goes s h word None later = false
option_goes s h word (Some a) later =
    takes_values a && (settle_passes s.rules s.args_override_self h && value_goes (begun s.rules a h) a.id word (arg_by_id s.rules a.id) later)

abbrev pub flag_goes : Shape → Held → Option Rule → (Held → Bool) → Bool
flag_goes s h None later = false
flag_goes s h (Some a) later = not (takes_values a) && (react_passes s.rules s.args_override_self a [] h && later (reacted s.rules a [] h))

-- the level accepts these pieces from here on
unfoldable pub goes : Shape → Held → ℕ → List Piece → Bool
goes s h i [] = final s h
goes s h i (Named b bs ∷ ps) = name_goes s h i (b ∷ bs) (arg_by_index s.rules i) (λ k j. goes s k j ps)
goes s h i (Given v b bs ∷ ps) = option_goes s h (b ∷ bs) (arg_by_long s.rules (option_name v)) (λ k. goes s k i ps)
goes s h i (Marked m ∷ ps) = flag_goes s h (arg_by_long s.rules (mark_name m)) (λ k. goes s k i ps)

-- ---- words

record TakenWords (s : Shape) (w : Walk) (ws : List Text) : Type 0 where
  passes : walk_passes s [] w ws ≡ true
  ends : final s (fold (walked s.rules []) w ws).held ≡ true

step : (s : Shape) (w after_word : Walk) (word : Text) (ws : List Text) → turn_passes s [] w word ≡ true → walked s.rules [] w word ≡ after_word → TakenWords s after_word ws → TakenWords s w (word ∷ ws)
unfolding walk_passes
step s w after_word word ws turn e k = record {
  passes = and_from (turn_passes s [] w word) _ turn (ap (λ (x : Walk). walk_passes s [] x ws) e ∙ k.passes);
  ends = ap (λ (x : Walk). final s (fold (walked s.rules []) x ws).held) e ∙ k.ends;
}

pub dashes : List ℕ
dashes = 45 ∷ 45 ∷ []

-- the effect of a word by its form
abbrev met : Shape → Held → ℕ → Waiting → Text → Bool → Option (Text × Option Text) → Held × Step
met s h i waiting word is_dashes long = if is_dashes then (h, trailing i) else long_or_other s.rules waiting word long h

abbrev turn : Shape → Held → ℕ → Waiting → Text → Bool → Option (Text × Option Text) → Bool
turn s h i waiting word is_dashes long =
    (is_dashes || flag_word_passes s.rules s.args_override_self long word h)
    && step_passes s i (met s h i waiting word is_dashes long).0 (met s h i waiting word is_dashes long).1

abbrev turned : Shape → Held → ℕ → Waiting → Text → Bool → Option (Text × Option Text) → Walk
turned s h i waiting word is_dashes long =
    after_step s.rules word (at h waiting i) (met s h i waiting word is_dashes long).0 (met s h i waiting word is_dashes long).1

-- ---- words that begin with no hyphen

pub no_dashes : (b : ℕ) (bs : List ℕ) → (b == 45) ≡ false → bytes_eq (b ∷ bs) dashes ≡ false
unfolding dashes
no_dashes b bs h = simp (h)

pub no_long : (b : ℕ) (bs : List ℕ) → (b == 45) ≡ false → long_of (b ∷ bs) ≡ None
no_long b bs h = simp (h)

pub no_short : (b : ℕ) (bs : List ℕ) → (b == 45) ≡ false → short_of (b ∷ bs) ≡ None
no_short b bs h = simp (h)

abbrev plain_turn : Shape → Held → ℕ → Waiting → Text → Option Text → Bool
plain_turn s h i waiting word short =
    option_map_or (λ flags. bundle_passes s.rules s.args_override_self flags h) short true
    && step_passes s i (short_or_plain s.rules waiting word short h).0 (short_or_plain s.rules waiting word short h).1

abbrev plain_turned : Shape → Held → ℕ → Waiting → Text → Option Text → Walk
plain_turned s h i waiting word short =
    after_step s.rules word (at h waiting i) (short_or_plain s.rules waiting word short h).0 (short_or_plain s.rules waiting word short h).1

name_turn : (s : Shape) (h : Held) (i b : ℕ) (bs : List ℕ) → (b == 45) ≡ false → turn_passes s [] (at h idle i) (b ∷ bs) ≡ step_passes s i h value
unfolding dashes
name_turn s h i b bs n =
    ap₂ (λ (d : Bool) (l : Option (Text × Option Text)). turn s h i idle (b ∷ bs) d l) (no_dashes b bs n) (no_long b bs n)
    ∙ ap (plain_turn s h i idle (b ∷ bs)) (no_short b bs n)

pub name_walked : (s : Shape) (h : Held) (i b : ℕ) (bs : List ℕ) → (b == 45) ≡ false
    → walked s.rules [] (at h idle i) (b ∷ bs) ≡ to_positional s.rules (arg_by_index s.rules i) (b ∷ bs) (at h idle i) h
unfolding walked dashes
name_walked s h i b bs n =
    ap₂ (λ (d : Bool) (l : Option (Text × Option Text)). turned s h i idle (b ∷ bs) d l) (no_dashes b bs n) (no_long b bs n)
    ∙ ap (plain_turned s h i idle (b ∷ bs)) (no_short b bs n)

value_turn : (s : Shape) (h : Held) (id : Text) (i b : ℕ) (bs : List ℕ) → (b == 45) ≡ false → turn_passes s [] (at h (option id) i) (b ∷ bs) ≡ true
unfolding dashes
value_turn s h id i b bs n =
    ap₂ (λ (d : Bool) (l : Option (Text × Option Text)). turn s h i (option id) (b ∷ bs) d l) (no_dashes b bs n) (no_long b bs n)
    ∙ ap (plain_turn s h i (option id) (b ∷ bs)) (no_short b bs n)

pub value_walked : (s : Shape) (h : Held) (id : Text) (i b : ℕ) (bs : List ℕ) → (b == 45) ≡ false
    → walked s.rules [] (at h (option id) i) (b ∷ bs) ≡ at (option_word (arg_by_id s.rules id) id (b ∷ bs) h).0 (option_word (arg_by_id s.rules id) id (b ∷ bs) h).1 i
unfolding walked dashes
value_walked s h id i b bs n =
    ap₂ (λ (d : Bool) (l : Option (Text × Option Text)). turned s h i (option id) (b ∷ bs) d l) (no_dashes b bs n) (no_long b bs n)
    ∙ ap (plain_turned s h i (option id) (b ∷ bs)) (no_short b bs n)

-- ---- options

abbrev long_turn : Shape → Held → ℕ → Text → Option Rule → Bool
long_turn s h i word a =
    long_passes s.rules s.args_override_self a None h
    && step_passes s i (after_flag s.rules idle word (long_met s.rules a None h).0 (long_met s.rules a None h).1).0 (after_flag s.rules idle word (long_met s.rules a None h).0 (long_met s.rules a None h).1).1

abbrev long_turned : Shape → Held → ℕ → Text → Option Rule → Walk
long_turned s h i word a =
    after_step s.rules word (at h idle i) (after_flag s.rules idle word (long_met s.rules a None h).0 (long_met s.rules a None h).1).0 (after_flag s.rules idle word (long_met s.rules a None h).0 (long_met s.rules a None h).1).1

abbrev by_values : Shape → Held → Rule → Bool → Held × Outcome
by_values s h a values = if values then option_met s.rules a None h else flag_met s.rules a None h

option_turn : (s : Shape) (h : Held) (i : ℕ) (word name : Text) (a : Rule) → bytes_eq word dashes ≡ false → long_of word ≡ Some (name, None) → arg_by_long s.rules name ≡ Some a
    → takes_values a ≡ true → settle_passes s.rules s.args_override_self h ≡ true → turn_passes s [] (at h idle i) word ≡ true
unfolding dashes
option_turn s h i word name a d l is v p =
    ap₂ (λ (x : Bool) (y : Option (Text × Option Text)). turn s h i idle word x y) d l
    ∙ ap (long_turn s h i word) is
    ∙ ap (λ (t : Bool). (if t then option_passes s.rules s.args_override_self a None h else (not false && react_passes s.rules s.args_override_self a [] h))
    && step_passes s i (after_flag s.rules idle word (by_values s h a t).0 (by_values s h a t).1).0 (after_flag s.rules idle word (by_values s h a t).0 (by_values s h a t).1).1) v
    ∙ and_from (settle_passes s.rules s.args_override_self h) true p refl

pub option_walked : (s : Shape) (h : Held) (i : ℕ) (word name : Text) (a : Rule) → bytes_eq word dashes ≡ false → long_of word ≡ Some (name, None) → arg_by_long s.rules name ≡ Some a
    → takes_values a ≡ true → walked s.rules [] (at h idle i) word ≡ at (begun s.rules a h) (option a.id) i
unfolding walked dashes
option_walked s h i word name a d l is v =
    ap₂ (λ (x : Bool) (y : Option (Text × Option Text)). turned s h i idle word x y) d l
    ∙ ap (long_turned s h i word) is
    ∙ ap (λ (t : Bool). after_step s.rules word (at h idle i) (after_flag s.rules idle word (by_values s h a t).0 (by_values s h a t).1).0 (after_flag s.rules idle word (by_values s h a t).0 (by_values s h a t).1).1) v

flag_turn : (s : Shape) (h : Held) (i : ℕ) (word name : Text) (a : Rule) → bytes_eq word dashes ≡ false → long_of word ≡ Some (name, None) → arg_by_long s.rules name ≡ Some a
    → takes_values a ≡ false → react_passes s.rules s.args_override_self a [] h ≡ true → turn_passes s [] (at h idle i) word ≡ true
unfolding dashes
flag_turn s h i word name a d l is v p =
    ap₂ (λ (x : Bool) (y : Option (Text × Option Text)). turn s h i idle word x y) d l
    ∙ ap (long_turn s h i word) is
    ∙ ap (λ (t : Bool). (if t then option_passes s.rules s.args_override_self a None h else (not false && react_passes s.rules s.args_override_self a [] h))
    && step_passes s i (after_flag s.rules idle word (by_values s h a t).0 (by_values s h a t).1).0 (after_flag s.rules idle word (by_values s h a t).0 (by_values s h a t).1).1) v
    ∙ and_from (react_passes s.rules s.args_override_self a [] h) true p refl

pub flag_walked : (s : Shape) (h : Held) (i : ℕ) (word name : Text) (a : Rule) → bytes_eq word dashes ≡ false → long_of word ≡ Some (name, None) → arg_by_long s.rules name ≡ Some a
    → takes_values a ≡ false → walked s.rules [] (at h idle i) word ≡ at (reacted s.rules a [] h) idle i
unfolding walked dashes
flag_walked s h i word name a d l is v =
    ap₂ (λ (x : Bool) (y : Option (Text × Option Text)). turned s h i idle word x y) d l
    ∙ ap (long_turned s h i word) is
    ∙ ap (λ (t : Bool). after_step s.rules word (at h idle i) (after_flag s.rules idle word (by_values s h a t).0 (by_values s h a t).1).0 (after_flag s.rules idle word (by_values s h a t).0 (by_values s h a t).1).1) v

-- ---- pieces are taken

take_name : (s : Shape) (h : Held) (i b : ℕ) (bs : List ℕ) (ws : List Text) (go : Held → ℕ → Bool) → ((k : Held) (j : ℕ) → go k j ≡ true → TakenWords s (at k idle j) ws) → (b == 45) ≡ false
    → name_goes s h i (b ∷ bs) (arg_by_index s.rules i) go ≡ true → TakenWords s (at h idle i) ((b ∷ bs) ∷ ws)
take_name s h i b bs ws go later n e = by (arg_by_index s.rules i) refl e where
  by : (o : Option Rule) → arg_by_index s.rules i ≡ o → name_goes s h i (b ∷ bs) o go ≡ true → TakenWords s (at h idle i) ((b ∷ bs) ∷ ws)
  by None is e = absurd (cc)
  by (Some a) is e =
      let p = and_parts (positional_passes s.rules s.args_override_self a h) _ e in
      let q = and_parts (not (is_multiple a)) _ p.1 in
      let r = and_parts (not a.trailing_var_arg) _ q.1 in
      step s (at h idle i) (at (positional_held s.rules a (b ∷ bs) h) idle (next_position a i)) (b ∷ bs) ws
      (name_turn s h i b bs n ∙ ap (λ (o : Option Rule). option_map_or (λ a. positional_passes s.rules s.args_override_self a h) o false) is ∙ p.0)
      (name_walked s h i b bs n ∙ ap (λ (o : Option Rule). to_positional s.rules o (b ∷ bs) (at h idle i) h) is
      ∙ ap₂ (λ (m t : Bool). record { held = positional_held s.rules a (b ∷ bs) h; waiting = if m then positional else idle; position = next_position a i; is_trailing = false || t; stopped = None })
      (not-true (is_multiple a) q.0) (not-true a.trailing_var_arg r.0))
      (later (positional_held s.rules a (b ∷ bs) h) (next_position a i) r.1)

take_value : (s : Shape) (h : Held) (id : Text) (i b : ℕ) (bs : List ℕ) (ws : List Text) (go : Held → Bool) → ((k : Held) → go k ≡ true → TakenWords s (at k idle i) ws) → (b == 45) ≡ false
    → value_goes h id (b ∷ bs) (arg_by_id s.rules id) go ≡ true → TakenWords s (at h (option id) i) ((b ∷ bs) ∷ ws)
take_value s h id i b bs ws go later n e = by (arg_by_id s.rules id) refl e where
  by : (o : Option Rule) → arg_by_id s.rules id ≡ o → value_goes h id (b ∷ bs) o go ≡ true → TakenWords s (at h (option id) i) ((b ∷ bs) ∷ ws)
  by None is e = absurd (cc)
  by (Some a) is e =
      let p = and_parts (not (nat_lt (pending_count a (pushed id (b ∷ bs) h).pending) (most_values a))) _ e in
      step s (at h (option id) i) (at (pushed id (b ∷ bs) h) idle i) (b ∷ bs) ws (value_turn s h id i b bs n)
      (value_walked s h id i b bs n ∙ ap (λ (o : Option Rule). at (option_word o id (b ∷ bs) h).0 (option_word o id (b ∷ bs) h).1 i) is
      ∙ ap (λ (t : Bool). at (pushed id (b ∷ bs) h) (if t then option id else idle) i) (not-true (nat_lt (pending_count a (pushed id (b ∷ bs) h).pending) (most_values a)) p.0))
      (later (pushed id (b ∷ bs) h) p.1)

take_option : (s : Shape) (h : Held) (word name : Text) (i b : ℕ) (bs : List ℕ) (ws : List Text) (go : Held → Bool) → ((k : Held) → go k ≡ true → TakenWords s (at k idle i) ws) → (b == 45) ≡ false
    → bytes_eq word dashes ≡ false → long_of word ≡ Some (name, None) → option_goes s h (b ∷ bs) (arg_by_long s.rules name) go ≡ true → TakenWords s (at h idle i) (word ∷ (b ∷ bs) ∷ ws)
take_option s h word name i b bs ws go later n d l e = by (arg_by_long s.rules name) refl e where
  by : (o : Option Rule) → arg_by_long s.rules name ≡ o → option_goes s h (b ∷ bs) o go ≡ true → TakenWords s (at h idle i) (word ∷ (b ∷ bs) ∷ ws)
  by None is e = absurd (cc)
  by (Some a) is e =
      let p = and_parts (takes_values a) _ e in
      let q = and_parts (settle_passes s.rules s.args_override_self h) _ p.1 in
      step s (at h idle i) (at (begun s.rules a h) (option a.id) i) word ((b ∷ bs) ∷ ws) (option_turn s h i word name a d l is p.0 q.0) (option_walked s h i word name a d l is p.0)
      (take_value s (begun s.rules a h) a.id i b bs ws go later n q.1)

take_flag : (s : Shape) (h : Held) (word name : Text) (i : ℕ) (ws : List Text) (go : Held → Bool) → ((k : Held) → go k ≡ true → TakenWords s (at k idle i) ws)
    → bytes_eq word dashes ≡ false → long_of word ≡ Some (name, None) → flag_goes s h (arg_by_long s.rules name) go ≡ true → TakenWords s (at h idle i) (word ∷ ws)
take_flag s h word name i ws go later d l e = by (arg_by_long s.rules name) refl e where
  by : (o : Option Rule) → arg_by_long s.rules name ≡ o → flag_goes s h o go ≡ true → TakenWords s (at h idle i) (word ∷ ws)
  by None is e = absurd (cc)
  by (Some a) is e =
      let p = and_parts (not (takes_values a)) _ e in
      let q = and_parts (react_passes s.rules s.args_override_self a [] h) _ p.1 in
      step s (at h idle i) (at (reacted s.rules a [] h) idle i) word ws (flag_turn s h i word name a d l is (not-true (takes_values a) p.0) q.0) (flag_walked s h i word name a d l is (not-true (takes_values a) p.0))
      (later (reacted s.rules a [] h) q.1)

-- how an option is read
pub no_option_dashes : (v : Valued) → bytes_eq (spelled v) dashes ≡ false
unfolding dashes
no_option_dashes Assume = refl
no_option_dashes Steps = refl
no_option_dashes Device = refl
no_option_dashes Trials = refl

pub option_long : (v : Valued) → long_of (spelled v) ≡ Some (option_name v, None)
option_long Assume = refl
option_long Steps = refl
option_long Device = refl
option_long Trials = refl

pub no_mark_dashes : (m : Mark) → bytes_eq (mark_spelled m) dashes ≡ false
unfolding dashes
no_mark_dashes Json = refl
no_mark_dashes Why = refl

pub mark_long : (m : Mark) → long_of (mark_spelled m) ≡ Some (mark_name m, None)
mark_long Json = refl
mark_long Why = refl

take_pieces : (s : Shape) (h : Held) (i : ℕ) (ps : List Piece) → AreFit ps → goes s h i ps ≡ true → TakenWords s (at h idle i) (all_words ps)
unfolding goes walk_passes dashes
take_pieces s h i [] fit e = record { passes = refl; ends = e }
take_pieces s h i (Named b bs ∷ ps) fit e = take_name s h i b bs (all_words ps) (λ k j. goes s k j ps) (λ k j. take_pieces s k j ps fit.1) fit.0 e
take_pieces s h i (Given v b bs ∷ ps) fit e =
    take_option s h (spelled v) (option_name v) i b bs (all_words ps) (λ k. goes s k i ps) (λ k. take_pieces s k i ps fit.1) fit.0 (no_option_dashes v) (option_long v) e
take_pieces s h i (Marked m ∷ ps) fit e =
    take_flag s h (mark_spelled m) (mark_name m) i (all_words ps) (λ k. goes s k i ps) (λ k. take_pieces s k i ps fit.1) (no_mark_dashes m) (mark_long m) e

pub level_goes : (s : Shape) (ps : List Piece) → AreFit ps → goes s nothing_held 1 ps ≡ true → level_takes s (all_words ps) ≡ true
level_goes s ps fit e = let k = take_pieces s nothing_held 1 ps fit e in and_from (walk_passes s [] (walk_from nothing_held) (all_words ps)) _ k.passes k.ends
