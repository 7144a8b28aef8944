-- A line of words as a list of names and options.
use Rattle.std.proofs.Common.{◌≡◌, ℕ, ◌==◌, List, [], ◌∷◌, ◌++◌, Bool, true, false, not, refl, ap, sym, subst, ◌∙◌, codes, Option, Some, None, cond, is_some, length, suc, zero, ◌≤◌, arith}
use Rattle.std.specs.Prelude.{⊤}
use Rattle.std.specs.Str.{bytes_eq}
use Rattle.std.proofs.lemmas.Slice.Eq.{bytes_eq-Decides}
use Rattle.std.proofs.lemmas.Option.{none-some}
use Rattle.commands.specs.Options.{Valued, Assume, Steps, Device, Trials}
use Rattle.commands.specs.Commands.{LineSoFar, is_name, once, with_assume, with_steps, with_device, with_trials, with_value, with_json, with_why, named, waiting, with_free, placed, then_words}

-- an option without a value
pub data Mark : Type 0 where
  Json : Mark
  Why : Mark

-- a name, an option with its value, or an option without one; texts by their first byte
pub data Piece : Type 0 where
  Named : ℕ → List ℕ → Piece
  Given : Valued → ℕ → List ℕ → Piece
  Marked : Mark → Piece

-- an option that takes the next word, and its text
abbrev pub option_name : Valued → List ℕ
option_name Assume = codes "assume"
option_name Steps = codes "steps"
option_name Device = codes "device"
option_name Trials = codes "trials"

abbrev pub spelled : Valued → List ℕ
spelled Assume = codes "--assume"
spelled Steps = codes "--steps"
spelled Device = codes "--device"
spelled Trials = codes "--trials"

-- an option without a value, and its text
abbrev pub mark_name : Mark → List ℕ
mark_name Json = codes "json"
mark_name Why = codes "why"

abbrev pub mark_spelled : Mark → List ℕ
mark_spelled Json = codes "--json"
mark_spelled Why = codes "--why"

abbrev pub words_of : Piece → List (List ℕ)
words_of (Named b bs) = (b ∷ bs) ∷ []
words_of (Given v b bs) = spelled v ∷ (b ∷ bs) ∷ []
words_of (Marked m) = mark_spelled m ∷ []

abbrev pub all_words : List Piece → List (List ℕ)
all_words [] = []
all_words (p ∷ ps) = words_of p ++ all_words ps

-- its text does not begin with a hyphen
abbrev pub IsPieceFit : Piece → Type 0
IsPieceFit (Named b bs) = (b == 45) ≡ false
IsPieceFit (Given v b bs) = (b == 45) ≡ false
IsPieceFit (Marked m) = ⊤

abbrev pub AreFit : List Piece → Type 0
AreFit [] = ⊤
AreFit (p ∷ ps) = IsPieceFit p × AreFit ps

abbrev pub with_mark : Mark → LineSoFar → Option LineSoFar
with_mark Json line = with_json line
with_mark Why line = with_why line

abbrev pub added : LineSoFar → Piece → Option LineSoFar
added line (Named b bs) = named line.first line.second line (b ∷ bs)
added line (Given v b bs) = with_value v (waiting line v) (b ∷ bs)
added line (Marked m) = with_mark m line

abbrev pub all_added : Option LineSoFar → List Piece → Option LineSoFar
all_added None ps = None
all_added (Some line) [] = Some line
all_added (Some line) (p ∷ ps) = all_added (added line p) ps

-- ---- what a piece adds

pub some_is : (a b : LineSoFar) → ◌≡◌ {A = Option LineSoFar} (Some a) (Some b) → a ≡ b
some_is a b e = cc

-- the value of an option, and the line with another value
abbrev pub value_of : Valued → LineSoFar → Option (List ℕ)
value_of Assume line = line.assume
value_of Steps line = line.steps
value_of Device line = line.device
value_of Trials line = line.trials

abbrev pub valued : Valued → LineSoFar → List ℕ → LineSoFar
valued Assume line word = record line { assume = Some word; waits = None }
valued Steps line word = record line { steps = Some word; waits = None }
valued Device line word = record line { device = Some word; waits = None }
valued Trials line word = record line { trials = Some word; waits = None }

-- whether an option is present, and the line with it
abbrev pub is_marked : Mark → LineSoFar → Bool
is_marked Json line = line.json
is_marked Why line = line.why

abbrev pub marked : Mark → LineSoFar → LineSoFar
marked Json line = record line { json = true }
marked Why line = record line { why = true }

-- an option that gets a value had none
pub record Gets (v : Valued) (line next : LineSoFar) (word : List ℕ) : Type 0 where
  pub had : value_of v line ≡ None
  pub is : next ≡ valued v line word

pub gets : (v : Valued) (line next : LineSoFar) (word : List ℕ) → with_value v (waiting line v) word ≡ Some next → Gets v line next word
gets Assume line next word e = by line.assume refl e where
  by : (o : Option (List ℕ)) → line.assume ≡ o → with_assume (waiting line Assume) (once o word) ≡ Some next → Gets Assume line next word
  by None is e = record { had = is; is = sym (some_is (valued Assume line word) next e) }
  by (Some x) is e = absurd (none-some next e)
gets Steps line next word e = by line.steps refl e where
  by : (o : Option (List ℕ)) → line.steps ≡ o → with_steps (waiting line Steps) (once o word) ≡ Some next → Gets Steps line next word
  by None is e = record { had = is; is = sym (some_is (valued Steps line word) next e) }
  by (Some x) is e = absurd (none-some next e)
gets Device line next word e = by line.device refl e where
  by : (o : Option (List ℕ)) → line.device ≡ o → with_device (waiting line Device) (once o word) ≡ Some next → Gets Device line next word
  by None is e = record { had = is; is = sym (some_is (valued Device line word) next e) }
  by (Some x) is e = absurd (none-some next e)
gets Trials line next word e = by line.trials refl e where
  by : (o : Option (List ℕ)) → line.trials ≡ o → with_trials (waiting line Trials) (once o word) ≡ Some next → Gets Trials line next word
  by None is e = record { had = is; is = sym (some_is (valued Trials line word) next e) }
  by (Some x) is e = absurd (none-some next e)

pub record Marks (m : Mark) (line next : LineSoFar) : Type 0 where
  pub had : is_marked m line ≡ false
  pub is : next ≡ marked m line

marks_by : (m : Mark) (line next : LineSoFar) (b : Bool) → is_marked m line ≡ b → cond b None (Some (marked m line)) ≡ Some next → Marks m line next
marks_by m line next true is e = absurd (none-some next e)
marks_by m line next false is e = record { had = is; is = sym (some_is (marked m line) next e) }

pub marks : (m : Mark) (line next : LineSoFar) → with_mark m line ≡ Some next → Marks m line next
marks Json line next e = marks_by Json line next line.json refl e
marks Why line next e = marks_by Why line next line.why refl e

mark_rests : (m : Mark) (line : LineSoFar) → (marked m line).waits ≡ line.waits
mark_rests Json line = refl
mark_rests Why line = refl

-- no option lacks its value on a line, nor after a piece
value_rests : (v : Valued) (line : LineSoFar) (word : List ℕ) → (valued v line word).waits ≡ None
value_rests Assume line word = refl
value_rests Steps line word = refl
value_rests Device line word = refl
value_rests Trials line word = refl

named_rests : (first second : Option (List ℕ)) (line next : LineSoFar) (word : List ℕ) → named first second line word ≡ Some next → line.waits ≡ None → next.waits ≡ None
named_rests None second line next word e h = ap (λ (x : LineSoFar). x.waits) (sym (some_is (record line { first = Some word }) next e)) ∙ h
named_rests (Some x) None line next word e h = ap (λ (x : LineSoFar). x.waits) (sym (some_is (record line { second = Some word }) next e)) ∙ h
named_rests (Some x) (Some y) line next word e h = absurd (none-some next e)

added_rests : (line next : LineSoFar) (p : Piece) → added line p ≡ Some next → line.waits ≡ None → next.waits ≡ None
added_rests line next (Named b bs) e h = named_rests line.first line.second line next (b ∷ bs) e h
added_rests line next (Given v b bs) e h = ap (λ (x : LineSoFar). x.waits) (gets v line next (b ∷ bs) e).is ∙ value_rests v line (b ∷ bs)
added_rests line next (Marked m) e h = ap (λ (x : LineSoFar). x.waits) (marks m line next e).is ∙ mark_rests m line ∙ h

-- ---- cutting

pub record Cut (line : LineSoFar) (ws : List (List ℕ)) (l : LineSoFar) : Type 0 where
  pub pieces : List Piece
  pub words : ws ≡ all_words pieces
  pub fit : AreFit pieces
  pub ends : all_added (Some line) pieces ≡ Some l

none_words : (ws : List (List ℕ)) (l : LineSoFar) → then_words None ws ≡ Some l → ⊥
none_words [] l e = cc
none_words (w ∷ ws) l e = cc

none_waits : {v : Valued} → ◌≡◌ {A = Option Valued} (Some v) None → ⊥
none_waits e = cc

is_text : (w t : List ℕ) → bytes_eq w t ≡ true → w ≡ t
is_text w t h = (bytes_eq-Decides w t).0 h

-- one more piece at the front
more : (line next l : LineSoFar) (p : Piece) (w vs : List (List ℕ)) → w ≡ words_of p ++ vs → IsPieceFit p → added line p ≡ Some next → Cut next vs l → Cut line w l
more line next l p w vs e fit is c = record {
  pieces = p ∷ c.pieces;
  words = e ∙ ap (λ (xs : List (List ℕ)). words_of p ++ xs) c.words;
  fit = (fit, c.fit);
  ends = ap (λ (o : Option LineSoFar). all_added o c.pieces) is ∙ c.ends;
}

-- lines of at most n words can be cut
CutsWords : LineSoFar → ℕ → Type 0
CutsWords l n = (vs : List (List ℕ)) (line : LineSoFar) → line.waits ≡ None → length vs ≤ n → then_words (Some line) vs ≡ Some l → Cut line vs l

module _ (l : LineSoFar) (whole : l.waits ≡ None) (n : ℕ) (go : CutsWords l n) where
  -- one piece, and the words after it
  cut_piece : (p : Piece) (w vs : List (List ℕ)) (line : LineSoFar) → line.waits ≡ None → length vs ≤ n → w ≡ words_of p ++ vs → IsPieceFit p → then_words (added line p) vs ≡ Some l → Cut line w l
  unfolding CutsWords
  cut_piece p w vs line rests le is fit e = by (added line p) refl e where
    by : (o : Option LineSoFar) → added line p ≡ o → then_words o vs ≡ Some l → Cut line w l
    by None k e = absurd (none_words vs l e)
    by (Some next) k e = more line next l p w vs is fit k (go vs next (added_rests line next p k rests) le e)

  cut_given : (v : Valued) (w : List ℕ) (ws : List (List ℕ)) (line : LineSoFar) → line.waits ≡ None → length ws ≤ n → w ≡ spelled v → then_words (Some (waiting line v)) ws ≡ Some l → Cut line (w ∷ ws) l
  cut_given v w [] line rests le is e = absurd (none_waits (ap (λ (x : LineSoFar). x.waits) (some_is (waiting line v) l e) ∙ whole))
  cut_given v w ([] ∷ vs) line rests le is e = absurd (none_words vs l e)
  cut_given v w ((b ∷ bs) ∷ vs) line rests le is e = by (b == 45) refl e where
    by : (m : Bool) → (b == 45) ≡ m → then_words (cond (not m) (with_value v (waiting line v) (b ∷ bs)) None) vs ≡ Some l → Cut line (w ∷ (b ∷ bs) ∷ vs) l
    by true m e = absurd (none_words vs l e)
    by false m e = cut_piece (Given v b bs) (w ∷ (b ∷ bs) ∷ vs) vs line rests (omega (arith, le)) (ap (λ (x : List ℕ). x ∷ (b ∷ bs) ∷ vs) is) m e

  cut_name : (w : List ℕ) (ws : List (List ℕ)) (line : LineSoFar) → line.waits ≡ None → length ws ≤ n → then_words (cond (is_name w) (named line.first line.second line w) None) ws ≡ Some l → Cut line (w ∷ ws) l
  cut_name [] ws line rests le e = absurd (none_words ws l e)
  cut_name (b ∷ bs) ws line rests le e = by (b == 45) refl e where
    by : (m : Bool) → (b == 45) ≡ m → then_words (cond (not m) (named line.first line.second line (b ∷ bs)) None) ws ≡ Some l → Cut line ((b ∷ bs) ∷ ws) l
    by true m e = absurd (none_words ws l e)
    by false m e = cut_piece (Named b bs) ((b ∷ bs) ∷ ws) ws line rests le refl m e

  -- a word that is none of the options before
  abbrev else_name : LineSoFar → List ℕ → Option LineSoFar
  else_name line w = cond (is_name w) (named line.first line.second line w) None

  abbrev else_why : LineSoFar → List ℕ → Option LineSoFar
  else_why line w = cond (bytes_eq w (codes "--why")) (with_why line) (else_name line w)

  abbrev else_json : LineSoFar → List ℕ → Option LineSoFar
  else_json line w = cond (bytes_eq w (codes "--json")) (with_json line) (else_why line w)

  abbrev else_trials : LineSoFar → List ℕ → Option LineSoFar
  else_trials line w = cond (bytes_eq w (codes "--trials")) (Some (waiting line Trials)) (else_json line w)

  abbrev else_device : LineSoFar → List ℕ → Option LineSoFar
  else_device line w = cond (bytes_eq w (codes "--device")) (Some (waiting line Device)) (else_trials line w)

  abbrev else_steps : LineSoFar → List ℕ → Option LineSoFar
  else_steps line w = cond (bytes_eq w (codes "--steps")) (Some (waiting line Steps)) (else_device line w)

  cut_why : (w : List ℕ) (ws : List (List ℕ)) (line : LineSoFar) → line.waits ≡ None → length ws ≤ n → then_words (else_why line w) ws ≡ Some l → Cut line (w ∷ ws) l
  cut_why w ws line rests le e = by (bytes_eq w (codes "--why")) refl e where
    by : (b : Bool) → bytes_eq w (codes "--why") ≡ b → then_words (cond b (with_why line) (else_name line w)) ws ≡ Some l → Cut line (w ∷ ws) l
    by true is e = cut_piece (Marked Why) (w ∷ ws) ws line rests le (ap (λ (x : List ℕ). x ∷ ws) (is_text w (codes "--why") is)) tt e
    by false is e = cut_name w ws line rests le e

  cut_json : (w : List ℕ) (ws : List (List ℕ)) (line : LineSoFar) → line.waits ≡ None → length ws ≤ n → then_words (else_json line w) ws ≡ Some l → Cut line (w ∷ ws) l
  cut_json w ws line rests le e = by (bytes_eq w (codes "--json")) refl e where
    by : (b : Bool) → bytes_eq w (codes "--json") ≡ b → then_words (cond b (with_json line) (else_why line w)) ws ≡ Some l → Cut line (w ∷ ws) l
    by true is e = cut_piece (Marked Json) (w ∷ ws) ws line rests le (ap (λ (x : List ℕ). x ∷ ws) (is_text w (codes "--json") is)) tt e
    by false is e = cut_why w ws line rests le e

  cut_trials : (w : List ℕ) (ws : List (List ℕ)) (line : LineSoFar) → line.waits ≡ None → length ws ≤ n → then_words (else_trials line w) ws ≡ Some l → Cut line (w ∷ ws) l
  cut_trials w ws line rests le e = by (bytes_eq w (codes "--trials")) refl e where
    by : (b : Bool) → bytes_eq w (codes "--trials") ≡ b → then_words (cond b (Some (waiting line Trials)) (else_json line w)) ws ≡ Some l → Cut line (w ∷ ws) l
    by true is e = cut_given Trials w ws line rests le (is_text w (codes "--trials") is) e
    by false is e = cut_json w ws line rests le e

  cut_device : (w : List ℕ) (ws : List (List ℕ)) (line : LineSoFar) → line.waits ≡ None → length ws ≤ n → then_words (else_device line w) ws ≡ Some l → Cut line (w ∷ ws) l
  cut_device w ws line rests le e = by (bytes_eq w (codes "--device")) refl e where
    by : (b : Bool) → bytes_eq w (codes "--device") ≡ b → then_words (cond b (Some (waiting line Device)) (else_trials line w)) ws ≡ Some l → Cut line (w ∷ ws) l
    by true is e = cut_given Device w ws line rests le (is_text w (codes "--device") is) e
    by false is e = cut_trials w ws line rests le e

  cut_steps : (w : List ℕ) (ws : List (List ℕ)) (line : LineSoFar) → line.waits ≡ None → length ws ≤ n → then_words (else_steps line w) ws ≡ Some l → Cut line (w ∷ ws) l
  cut_steps w ws line rests le e = by (bytes_eq w (codes "--steps")) refl e where
    by : (b : Bool) → bytes_eq w (codes "--steps") ≡ b → then_words (cond b (Some (waiting line Steps)) (else_device line w)) ws ≡ Some l → Cut line (w ∷ ws) l
    by true is e = cut_given Steps w ws line rests le (is_text w (codes "--steps") is) e
    by false is e = cut_device w ws line rests le e

  cut_first : (w : List ℕ) (ws : List (List ℕ)) (line : LineSoFar) → line.waits ≡ None → length ws ≤ n → then_words (with_free line w) ws ≡ Some l → Cut line (w ∷ ws) l
  cut_first w ws line rests le e = by (bytes_eq w (codes "--assume")) refl e where
    by : (b : Bool) → bytes_eq w (codes "--assume") ≡ b → then_words (cond b (Some (waiting line Assume)) (else_steps line w)) ws ≡ Some l → Cut line (w ∷ ws) l
    by true is e = cut_given Assume w ws line rests le (is_text w (codes "--assume") is) e
    by false is e = cut_steps w ws line rests le e

cut : (l : LineSoFar) → l.waits ≡ None → (n : ℕ) → CutsWords l n
unfolding CutsWords
cut l whole zero [] line rests le e = record { pieces = []; words = refl; fit = tt; ends = e }
cut l whole zero (w ∷ ws) line rests le e = absurd (omega (arith, le))
cut l whole (suc n) [] line rests le e = record { pieces = []; words = refl; fit = tt; ends = e }
cut l whole (suc n) (w ∷ ws) line rests le e =
    cut_first l whole n (cut l whole n) w ws line rests (omega (arith, le)) (sym (ap (λ (o : Option Valued). then_words (placed o line w) ws) rests) ∙ e)

pub cut_words : (ws : List (List ℕ)) (line l : LineSoFar) → line.waits ≡ None → l.waits ≡ None → then_words (Some line) ws ≡ Some l → Cut line ws l
unfolding CutsWords
cut_words ws line l rests whole e = cut l whole (length ws) ws line rests (omega arith) e

-- ---- what is on the line stays

pub record StaysGiven (line l : LineSoFar) : Type 0 where
  pub first : is_some line.first ≡ true → is_some l.first ≡ true
  pub second : is_some line.second ≡ true → is_some l.second ≡ true
  pub given : (v : Valued) → is_some (value_of v line) ≡ true → is_some (value_of v l) ≡ true
  pub marked : (m : Mark) → is_marked m line ≡ true → is_marked m l ≡ true

itself : (l : LineSoFar) → StaysGiven l l
itself l = record { first = λ h. h; second = λ h. h; given = λ v h. h; marked = λ m h. h }

value_stays : (v u : Valued) (line : LineSoFar) (word : List ℕ) → is_some (value_of u line) ≡ true → is_some (value_of u (valued v line word)) ≡ true
value_stays Assume Assume line word h = refl
value_stays Assume Steps line word h = h
value_stays Assume Device line word h = h
value_stays Assume Trials line word h = h
value_stays Steps Assume line word h = h
value_stays Steps Steps line word h = refl
value_stays Steps Device line word h = h
value_stays Steps Trials line word h = h
value_stays Device Assume line word h = h
value_stays Device Steps line word h = h
value_stays Device Device line word h = refl
value_stays Device Trials line word h = h
value_stays Trials Assume line word h = h
value_stays Trials Steps line word h = h
value_stays Trials Device line word h = h
value_stays Trials Trials line word h = refl

pub same_marks : (v : Valued) (m : Mark) (line : LineSoFar) (word : List ℕ) → is_marked m (valued v line word) ≡ is_marked m line
same_marks Assume Json line word = refl
same_marks Assume Why line word = refl
same_marks Steps Json line word = refl
same_marks Steps Why line word = refl
same_marks Device Json line word = refl
same_marks Device Why line word = refl
same_marks Trials Json line word = refl
same_marks Trials Why line word = refl

value_marks : (v : Valued) (m : Mark) (line : LineSoFar) (word : List ℕ) → is_marked m line ≡ true → is_marked m (valued v line word) ≡ true
value_marks v m line word h = same_marks v m line word ∙ h

others_stay : (v : Valued) (line : LineSoFar) (word : List ℕ) → StaysGiven line (valued v line word)
others_stay Assume line word = record { first = λ h. h; second = λ h. h; given = λ u h. value_stays Assume u line word h; marked = λ m h. value_marks Assume m line word h }
others_stay Steps line word = record { first = λ h. h; second = λ h. h; given = λ u h. value_stays Steps u line word h; marked = λ m h. value_marks Steps m line word h }
others_stay Device line word = record { first = λ h. h; second = λ h. h; given = λ u h. value_stays Device u line word h; marked = λ m h. value_marks Device m line word h }
others_stay Trials line word = record { first = λ h. h; second = λ h. h; given = λ u h. value_stays Trials u line word h; marked = λ m h. value_marks Trials m line word h }

pub same_value : (u : Valued) (line next : LineSoFar) → next.assume ≡ line.assume → next.steps ≡ line.steps → next.device ≡ line.device → next.trials ≡ line.trials → value_of u next ≡ value_of u line
same_value Assume line next a s d t = a
same_value Steps line next a s d t = s
same_value Device line next a s d t = d
same_value Trials line next a s d t = t

-- for lines that differ in a name
pub same_mark : (m : Mark) (line next : LineSoFar) → next.json ≡ line.json → next.why ≡ line.why → is_marked m next ≡ is_marked m line
same_mark Json line next j w = j
same_mark Why line next j w = w

-- an option that is present, and another
both_marked : (m k : Mark) (line : LineSoFar) → is_marked k line ≡ true → is_marked k (marked m line) ≡ true
both_marked Json Json line h = refl
both_marked Json Why line h = h
both_marked Why Json line h = h
both_marked Why Why line h = refl

named_stays : (first second : Option (List ℕ)) (line next : LineSoFar) (word : List ℕ) → line.first ≡ first → line.second ≡ second → named first second line word ≡ Some next → StaysGiven line next
named_stays None second line next word f s e = subst (StaysGiven line) (some_is (record line { first = Some word }) next e) (record {
  first = λ h. refl;
  second = λ h. h;
  given = λ v h. ap is_some (same_value v line (record line { first = Some word }) refl refl refl refl) ∙ h;
  marked = λ m h. same_mark m line (record line { first = Some word }) refl refl ∙ h;
})
named_stays (Some x) None line next word f s e = subst (StaysGiven line) (some_is (record line { second = Some word }) next e) (record {
  first = λ h. h;
  second = λ h. refl;
  given = λ v h. ap is_some (same_value v line (record line { second = Some word }) refl refl refl refl) ∙ h;
  marked = λ m h. same_mark m line (record line { second = Some word }) refl refl ∙ h;
})
named_stays (Some x) (Some y) line next word f s e = absurd (none-some next e)

marked_stays : (m : Mark) (line : LineSoFar) → StaysGiven line (marked m line)
marked_stays Json line = record {
  first = λ h. h;
  second = λ h. h;
  given = λ v h. ap is_some (same_value v line (marked Json line) refl refl refl refl) ∙ h;
  marked = λ k h. both_marked Json k line h;
}
marked_stays Why line = record {
  first = λ h. h;
  second = λ h. h;
  given = λ v h. ap is_some (same_value v line (marked Why line) refl refl refl refl) ∙ h;
  marked = λ k h. both_marked Why k line h;
}

stays_one : (line : LineSoFar) (p : Piece) (l : LineSoFar) → added line p ≡ Some l → StaysGiven line l
stays_one line (Named b bs) l e = named_stays line.first line.second line l (b ∷ bs) refl refl e
stays_one line (Given v b bs) l e = subst (StaysGiven line) (sym (gets v line l (b ∷ bs) e).is) (others_stay v line (b ∷ bs))
stays_one line (Marked m) l e = subst (StaysGiven line) (sym (marks m line l e).is) (marked_stays m line)

through : (a b c : LineSoFar) → StaysGiven a b → StaysGiven b c → StaysGiven a c
through a b c f g = record {
  first = λ h. g.first (f.first h);
  second = λ h. g.second (f.second h);
  given = λ v h. g.given v (f.given v h);
  marked = λ m h. g.marked m (f.marked m h);
}

pub stays : (ps : List Piece) (line l : LineSoFar) → all_added (Some line) ps ≡ Some l → StaysGiven line l
stays [] line l e = subst (StaysGiven line) (some_is line l e) (itself line)
stays (p ∷ ps) line l e = by (λ next. stays ps next l) (added line p) refl e where
  by : ((next : LineSoFar) → all_added (Some next) ps ≡ Some l → StaysGiven next l) → (o : Option LineSoFar) → added line p ≡ o → all_added o ps ≡ Some l → StaysGiven line l
  by later None is e = absurd (none-some l e)
  by later (Some next) is e = through line next l (stays_one line p next is) (later next e)
