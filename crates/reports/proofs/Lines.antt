-- Lines that are written one after the other.
use Rattle.std.proofs.Common.{ℕ, ◌+◌, ◌<◌, ◌≡◌, List, [], ◌∷◌, ◌++◌, length, map, take, get_or, slice_get, Option, Some, false, ap, sym, refl, ◌∙◌, append-nil, codes}
use Rattle.std.proofs.lemmas.List.{map-append, take_more}
use Rattle.std.proofs.lemmas.Option.{slice_get_within, get_or_from_slice_get}
use Rattle.std.proofs.lemmas.Grind.{flat_map-append}
use Rattle.std.specs.List.{flat_map}
use Rattle.assumption_files.proofs.AllLaws.{none_begun}
use Rattle.witness_replay.proofs.Parts.{more_text}
use Rattle.text_base.specs.Lines.{line}
use Rattle.text_base.specs.Writing.{Written, with_word, with_words, with_end}
use Rattle.line_reading.specs.Appending.{with_text, AppendingLaws}
use Rattle.avr_model.specs.declared.device.Device.{Device}
use Rattle.certificate.specs.Claims.{Claim}
use Rattle.cert_words.specs.Text.{numbered}
use Rattle.reports.specs.Report.{witness_line, static_line, heading}

-- ---- texts one behind the other

pub texts_next : {A : Type 0} (f : A → List ℕ) (xs : List A) (i : ℕ) (x : A) → i < length xs → flat_map f (take (i + 1) xs) ≡ flat_map f (take i xs) ++ f (get_or xs i x)
texts_next {A} f xs i x lt =
    ap (flat_map f) (take_more xs i x lt)
    ∙ flat_map-append f (take i xs) (get_or xs i x ∷ [])
    ∙ ap (λ (ys : List ℕ). flat_map f (take i xs) ++ ys) (append-nil (f (get_or xs i x)))

pub text_after : {A : Type 0} (f : A → List ℕ) (w v u : Written) (xs : List A) (i : ℕ) (x : A) → slice_get xs i ≡ Some x → v ≡ with_text w (flat_map f (take i xs)) → u ≡ with_text v (f x)
    → u ≡ with_text w (flat_map f (take (i + 1) xs))
text_after {A} f w v u xs i x at e g =
    more_text w v u (flat_map f (take i xs)) (f x) e g
    ∙ ap (λ (y : A). with_text w (flat_map f (take i xs) ++ f y)) (sym (get_or_from_slice_get xs i x x at))
    ∙ ap (with_text w) (sym (texts_next f xs i x (slice_get_within xs i x at)))

-- a line, and what follows it, from the beginning
pub line_and_text : AppendingLaws → (w v u : Written) (a : List (List ℕ)) (more bytes : List ℕ) → w ≡ record { bytes = []; begun = false } → v ≡ with_end (with_words w a) → u ≡ with_text v more → bytes ≡ u.bytes
    → bytes ≡ line a ++ more
line_and_text k w v u a more bytes n e f g =
    let first : v ≡ with_text w (line a) = k.line w v a (ap (λ (x : Written). x.begun) n) e in
    g ∙ (ap (λ (x : Written). x.bytes) (more_text w v u (line a) more first f) ∙ ap (λ (x : Written). x.bytes ++ (line a ++ more)) n)

-- one more word
words_more : (w : Written) (a : List (List ℕ)) (x : List ℕ) → with_words w (a ++ x ∷ []) ≡ with_word (with_words w a) x
words_more w [] x = refl
words_more w (y ∷ a) x = words_more (with_word w y) a x

pub word_next : (f : ℕ → List ℕ) (w v u : Written) (xs : List ℕ) (i : ℕ) → i < length xs → v ≡ with_words w (map f (take i xs)) → u ≡ with_word v (f (get_or xs i 0))
    → u ≡ with_words w (map f (take (i + 1) xs))
word_next f w v u xs i lt e g =
    g
    ∙ ap (λ (y : Written). with_word y (f (get_or xs i 0))) e
    ∙ sym (words_more w (map f (take i xs)) (f (get_or xs i 0)))
    ∙ ap (with_words w) (sym (ap (map f) (take_more xs i 0 lt) ∙ map-append f (take i xs) (get_or xs i 0 ∷ [])))

-- a line for each number
pub numbers_next : (words : ℕ → List (List ℕ)) → AppendingLaws → (w v u : Written) (xs : List ℕ) (i : ℕ) → i < length xs → w.begun ≡ false → v ≡ with_text w (flat_map (λ x. line (words x)) (take i xs))
    → u ≡ with_end (with_words v (words (get_or xs i 0))) → u ≡ with_text w (flat_map (λ x. line (words x)) (take (i + 1) xs))
numbers_next words k w v u xs i lt none e g =
    more_text w v u (flat_map (λ x. line (words x)) (take i xs)) (line (words (get_or xs i 0))) e
    (k.line v u (words (get_or xs i 0)) (none_begun w v (flat_map (λ x. line (words x)) (take i xs)) e) g)
    ∙ ap (with_text w) (sym (texts_next (λ x. line (words x)) xs i 0 lt))

-- ---- lines of items

-- the three lines of a heading
pub heading_written : AppendingLaws → (w a b u : Written) (device : Device) (c : Claim) (o : Option ℕ) → w.begun ≡ false
    → a ≡ with_end (with_words w (numbered (codes "bound") c.bound)) → b ≡ with_end (with_words a (witness_line c.witness)) → u ≡ with_end (with_words b (static_line device c.bound o))
    → u ≡ with_text w (flat_map line (heading device c o))
heading_written k w a b u device c o n e f g =
    let first : a ≡ with_text w (line (numbered (codes "bound") c.bound)) = k.line w a (numbered (codes "bound") c.bound) n e in
    let second : b ≡ with_text a (line (witness_line c.witness)) = k.line a b (witness_line c.witness) (none_begun w a (line (numbered (codes "bound") c.bound)) first) f in
    let third : u ≡ with_text b (line (static_line device c.bound o)) = k.line b u (static_line device c.bound o) (none_begun a b (line (witness_line c.witness)) second) g in
    more_text w a u (line (numbered (codes "bound") c.bound)) (line (witness_line c.witness) ++ (line (static_line device c.bound o) ++ [])) first
    (more_text a b u (line (witness_line c.witness)) (line (static_line device c.bound o) ++ []) second
    (third ∙ ap (with_text b) (sym (append-nil (line (static_line device c.bound o))))))
