-- Words and lines, written one after the other.
use Rattle.std.proofs.Common.{ℕ, ◌+◌, ◌-◌, ◌/◌, ◌%◌, ◌<◌, ◌≤◌, ◌≡◌, List, [], ◌∷◌, ◌++◌, length, take, drop, set, append_assoc, length-append, Bool, true, false, refl, ap, sym, ◌∙◌, arith, suc, append-nil}
use Rattle.std.proofs.lemmas.Bool.{false≢true}
use Rattle.std.proofs.lemmas.List.{drop-set}
use Rattle.std.specs.List.{AllByRecursion}
use Rattle.text_base.specs.Digits.{hex_digit, hex_digits}
use Rattle.text_base.specs.Lines.{TextLine, lines_of, joined, AreLines, IsEnded, size_of, bytes_of, words_of, spaced, line, Lacks}
use Rattle.text_base.specs.Writing.{Written, with_words, with_end}
use Rattle.text_base.proofs.Spelling.{hex_digits_none, hex_digits_more}
use Rattle.text_base.proofs.Splitting.{lines_at, lines_none_of, words_at, words_none}

-- one more digit, from the right
digit_step : (rest a d : ℕ) (glyphs all : List ℕ) → a < d → d ≤ length glyphs
    → hex_digits rest (a + 1) ++ take (d - (a + 1)) (drop (a + 1) glyphs) ≡ all
    → hex_digits (rest / 16) a ++ take (d - a) (drop a (set glyphs a (hex_digit (rest % 16)))) ≡ all
digit_step rest a d glyphs all below room e =
    let here : a < length glyphs = omega arith in
    let next : d - a ≡ suc (d - (a + 1)) = omega arith in
    rw (drop-set glyphs a (hex_digit (rest % 16)) here, next) (sym (append_assoc (hex_digits (rest / 16) a) (hex_digit (rest % 16) ∷ []) (take (d - (a + 1)) (drop (a + 1) glyphs))) ∙ ap (λ (xs : List ℕ). xs ++ take (d - (a + 1)) (drop (a + 1) glyphs)) (sym (hex_digits_more rest a)) ∙ e)

pub digit_next : (rest at a d v : ℕ) (glyphs all : List ℕ) → at ≡ a + 1 → v ≡ hex_digit (rest % 16) → a < d → d ≤ length glyphs
    → hex_digits rest at ++ take (d - at) (drop at glyphs) ≡ all
    → hex_digits (rest / 16) a ++ take (d - a) (drop a (set glyphs a v)) ≡ all
digit_next rest at a d v glyphs all e f below room h = rw f (digit_step rest a d glyphs all below room (rw e at h))

pub digits_all : (rest at d : ℕ) (glyphs all : List ℕ) → at ≡ 0 → hex_digits rest at ++ take (d - at) (drop at glyphs) ≡ all → take d glyphs ≡ all
digits_all rest at d glyphs all e h = let whole : d - 0 ≡ d = omega arith in rw (e, hex_digits_none, whole) at h

pub words_read : (w : List ℕ) (ws : List (List ℕ)) → AllByRecursion (Lacks 32) (w ∷ ws) → words_of (spaced (w ∷ ws)) ≡ w ∷ ws
words_read w [] h = words_none w h.0
words_read w (v ∷ vs) h = words_at w (spaced (v ∷ vs)) h.0 ∙ ap (λ xs. w ∷ xs) (words_read v vs h.1)

lines_first : (text : List ℕ) (whole : Bool) (ls : List TextLine) → Lacks 10 text → (whole ≡ false → (0 < length text) × (ls ≡ [])) → lines_of (joined ls) ≡ ls → lines_of (joined (record { text = text; whole = whole } ∷ ls)) ≡ record { text = text; whole = whole } ∷ ls
lines_first text true ls h e ih = ap lines_of (append_assoc text (10 ∷ []) (joined ls)) ∙ lines_at text (joined ls) h ∙ ap (λ xs. record { text = text; whole = true } ∷ xs) ih
lines_first text false ls h e ih = let none = (e refl).1 in rw (none, append-nil text) (lines_none_of text h (e refl).0)

ended : (l : TextLine) (ls : List TextLine) → IsEnded l ls → l.whole ≡ false → (0 < length l.text) × (ls ≡ [])
ended l [] h e = (h e, refl)
ended l (m ∷ ms) h e = absurd (false≢true (sym e ∙ h))

pub lines_read : (ls : List TextLine) → AreLines ls → lines_of (joined ls) ≡ ls
lines_read [] h = refl
lines_read (l ∷ ls) h = lines_first l.text l.whole ls h.0 (ended l ls h.1) (lines_read ls h.2)

regroup : (a b c : List ℕ) → ((a ++ b) ++ 32 ∷ []) ++ (c ++ 10 ∷ []) ≡ a ++ ((b ++ 32 ∷ c) ++ 10 ∷ [])
regroup a b c = simp append_assoc

size_by : (text : List ℕ) (whole : Bool) → size_of (record { text = text; whole = whole }) ≡ length (bytes_of (record { text = text; whole = whole }))
size_by text true = sym (length-append text (10 ∷ []))
size_by text false = refl

pub sizes_are_lengths : (l : TextLine) → size_of l ≡ length (bytes_of l)
sizes_are_lengths l = size_by l.text l.whole

begun_words : (bytes w : List ℕ) (ws : List (List ℕ)) → with_end (with_words (record { bytes = bytes ++ w; begun = true }) ws) ≡ record { bytes = bytes ++ (spaced (w ∷ ws) ++ 10 ∷ []); begun = false }
begun_words bytes w [] = rw (append_assoc bytes w (10 ∷ [])) refl
begun_words bytes w (v ∷ vs) =
    ap (λ (xs : List ℕ). with_end (with_words (record { bytes = xs; begun = true }) vs)) (sym (append_assoc (bytes ++ w) (32 ∷ []) v))
    ∙ begun_words ((bytes ++ w) ++ 32 ∷ []) v vs
    ∙ ap (λ (xs : List ℕ). record { bytes = xs; begun = false }) (regroup bytes w (spaced (v ∷ vs)))

pub writes_lines : (w : Written) (ws : List (List ℕ)) → w.begun ≡ false → with_end (with_words w ws) ≡ record { bytes = w.bytes ++ line ws; begun = false }
writes_lines w [] h = refl
writes_lines w (v ∷ vs) h = rw h (begun_words w.bytes v vs)
