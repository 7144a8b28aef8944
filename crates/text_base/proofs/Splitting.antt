-- The ends of lines and words.
use Rattle.std.proofs.Common.{ℕ, zero, suc, ◌+◌, ◌-◌, ◌<◌, ◌≡◌, ◌==◌, List, [], ◌∷◌, ◌++◌, length, take, drop, Bool, true, false, refl, sym, ap, ◌∙◌, arith, if◌then◌else◌}
use Rattle.std.proofs.lemmas.Bool.{false_from_ne_true}
use Rattle.std.proofs.lemmas.Bool.Decides.{nat_tests}
use Rattle.std.proofs.lemmas.List.{take_rest}
use Rattle.std.proofs.lemmas.List.Elements.{All-from_recursion}
use Rattle.std.proofs.lemmas.List.Splits.{slice_split_at, slice_split_none, join_with_byte-slice_split}
use Rattle.memchr.specs.Find.{Nowhere, NoneBefore, Passes, is_byte}
use Rattle.text_base.specs.Lines.{TextLine, lines_of, onto_line, words_of, spaced, joined, AreLines, IsEnded, Lacks}

-- the result of a search for a byte: it does not occur, or its first position splits the text
lacks_all : (c : ℕ) (text : List ℕ) → Nowhere (Passes (is_byte c) text) 0 (length text) → Lacks c text
lacks_all c [] h = tt
lacks_all c (b ∷ bs) h = (false_from_ne_true (b == c) (h 0 (omega arith) (omega arith)), lacks_all c bs (λ k low high. h (suc k) (omega arith) (omega arith)))

lacks_before : (c : ℕ) (text : List ℕ) (end : ℕ) → NoneBefore (Passes (is_byte c) text) 0 (length text) end → Lacks c (take end text)
lacks_before c text zero h = tt
lacks_before c [] (suc end) h = tt
lacks_before c (b ∷ bs) (suc end) h = (
  false_from_ne_true (b == c) (h.before 0 (omega arith) (omega arith)),
  lacks_before c bs end (record { low = omega arith; high = omega (arith, h.high); before = λ k low high. h.before (suc k) (omega arith) (omega arith) }),
)

parted_at : (c : ℕ) (text : List ℕ) (end : ℕ) → end < length text → Passes (is_byte c) text end → text ≡ take end text ++ c ∷ drop (suc end) text
parted_at c [] end l is = absurd (omega arith)
parted_at c (b ∷ bs) zero l is = let same : b ≡ c = grind (arith, nat_tests, is) in rw same refl
parted_at c (b ∷ bs) (suc end) l is = ap (λ r. b ∷ r) (parted_at c bs end (omega arith) is)

parted : (c : ℕ) (text : List ℕ) (end : ℕ) → NoneBefore (Passes (is_byte c) text) 0 (length text) end × Passes (is_byte c) text end → text ≡ take end text ++ c ∷ take (length text - (end + 1)) (drop (end + 1) text)
parted c text end first =
    let next : suc end ≡ end + 1 = omega arith in
    let behind : drop (suc end) text ≡ take (length text - (end + 1)) (drop (end + 1) text) = ap (λ (n : ℕ). drop n text) next ∙ sym (take_rest text (end + 1)) in
    parted_at c text end first.0.high first.1 ∙ ap (λ (bs : List ℕ). take end text ++ c ∷ bs) behind

-- a line that ends
pub lines_at : (xs ys : List ℕ) → Lacks 10 xs → lines_of (xs ++ 10 ∷ ys) ≡ record { text = xs; whole = true } ∷ lines_of ys
lines_at [] ys h = refl
lines_at (x ∷ xs) ys h = rw (h.0, lines_at xs ys h.1) refl

-- a last line without a line feed
pub lines_none : (x : ℕ) (xs : List ℕ) → Lacks 10 (x ∷ xs) → lines_of (x ∷ xs) ≡ record { text = x ∷ xs; whole = false } ∷ []
lines_none x [] h = rw h.0 refl
lines_none x (y ∷ ys) h = rw (h.0, lines_none y ys h.1) refl

pub lines_none_of : (xs : List ℕ) → Lacks 10 xs → 0 < length xs → lines_of xs ≡ record { text = xs; whole = false } ∷ []
lines_none_of [] h l = absurd (omega arith)
lines_none_of (x ∷ xs) h l = lines_none x xs h

-- a text split at its first line feed, and one without any
pub lines_cut : (text : List ℕ) (end : ℕ) → NoneBefore (Passes (is_byte 10) text) 0 (length text) end × Passes (is_byte 10) text end
    → lines_of text ≡ record { text = take end text; whole = true } ∷ lines_of (take (length text - (end + 1)) (drop (end + 1) text))
lines_cut text end first = ap lines_of (parted 10 text end first) ∙ lines_at (take end text) _ (lacks_before 10 text end first.0)

pub lines_uncut : (text : List ℕ) → Nowhere (Passes (is_byte 10) text) 0 (length text) → 0 < length text → lines_of text ≡ record { text = text; whole = false } ∷ []
lines_uncut text h l = lines_none_of text (lacks_all 10 text h) l

pub words_at : (xs ys : List ℕ) → Lacks 32 xs → words_of (xs ++ 32 ∷ ys) ≡ xs ∷ words_of ys
words_at xs ys h = slice_split_at _ xs 32 ys (All-from_recursion _ xs h) refl

pub words_none : (xs : List ℕ) → Lacks 32 xs → words_of xs ≡ xs ∷ []
words_none xs h = slice_split_none _ xs (All-from_recursion _ xs h)

-- one more byte in front of the first line is one more in front of the text
pub joined_onto : (b : ℕ) (ls : List TextLine) → joined (onto_line b ls) ≡ b ∷ joined ls
joined_onto b [] = refl
joined_onto b (l ∷ ls) = elim l.whole as (λ w. (if w then (b ∷ l.text) ++ 10 ∷ [] else b ∷ l.text) ++ joined ls ≡ b ∷ ((if w then l.text ++ 10 ∷ [] else l.text) ++ joined ls)) [ true ↦ refl | false ↦ refl ]

joined_by : (t : Bool) (b : ℕ) (bs : List ℕ) → (b == 10) ≡ t → joined (lines_of bs) ≡ bs → joined (if t then record { text = []; whole = true } ∷ lines_of bs else onto_line b (lines_of bs)) ≡ b ∷ bs
joined_by true b bs e ih = let same : b ≡ 10 = grind (arith, nat_tests, e) in rw (same, ih) refl
joined_by false b bs e ih = joined_onto b (lines_of bs) ∙ ap (λ r. b ∷ r) ih

pub joined_lines : (text : List ℕ) → joined (lines_of text) ≡ text
joined_lines [] = refl
joined_lines (b ∷ bs) = joined_by (b == 10) b bs refl (joined_lines bs)

are_onto : (b : ℕ) (ls : List TextLine) → (b == 10) ≡ false → AreLines ls → AreLines (onto_line b ls)
are_onto b [] h a = ((h, tt), (λ _. omega arith), tt)
are_onto b (l ∷ []) h a = ((h, a.0), (λ _. omega arith), tt)
are_onto b (l ∷ m ∷ ms) h a = ((h, a.0), a.1, a.2)

is_ended : (ls : List TextLine) → IsEnded (record { text = []; whole = true }) ls
is_ended [] = λ e. cc
is_ended (m ∷ ms) = refl

are_by : (t : Bool) (b : ℕ) (bs : List ℕ) → (b == 10) ≡ t → AreLines (lines_of bs) → AreLines (if t then record { text = []; whole = true } ∷ lines_of bs else onto_line b (lines_of bs))
are_by true b bs e ih = (tt, is_ended (lines_of bs), ih)
are_by false b bs e ih = are_onto b (lines_of bs) e ih

pub are_lines : (text : List ℕ) → AreLines (lines_of text)
are_lines [] = tt
are_lines (b ∷ bs) = are_by (b == 10) b bs refl (are_lines bs)

pub spaced_words : (line : List ℕ) → spaced (words_of line) ≡ line
spaced_words line = join_with_byte-slice_split 32 line
