-- The output, word by word and line by line.
use Rattle.std.proofs.Common.{ℕ, ◌+◌, ◌<◌, ◌≡◌, List, [], ◌∷◌, ◌++◌, length, take, drop, get_or, Bool, false, refl, inl, inr, ap, sym, ◌∙◌, subst, append_assoc, append-nil}
use Rattle.std.proofs.lemmas.List.{take-append-drop, map-append, take_more}
use Rattle.std.proofs.lemmas.Grind.{flat_map-append}
use Rattle.avr_model.specs.declared.device.Device.{Device}
use Rattle.avr_model.specs.declared.assumption.Entry.{Entry}
use Rattle.text_base.specs.Digits.{hex_digits}
use Rattle.text_base.specs.Writing.{Written, with_word, with_words, with_end}
use Rattle.line_reading.specs.Appending.{with_text, AppendedPart, WroteWords, AppendingLaws}
use Rattle.assumption_files.specs.Spelling.{number_words, entry_words, line_of, text_of}

-- ---- words

pub words_append : (w : Written) (xs ys : List (List ℕ)) → with_words w (xs ++ ys) ≡ with_words (with_words w xs) ys
words_append w [] ys = refl
words_append w (x ∷ xs) ys = words_append (with_word w x) xs ys

-- a prefix of the words was written
wrote_front : (w u : Written) (xs ys : List (List ℕ)) → u ≡ with_words w xs → WroteWords w (xs ++ ys) u
wrote_front w u [] [] e = e
wrote_front w u [] (y ∷ ys) e = inl e
wrote_front w u (x ∷ xs) ys e = inr (wrote_front (with_word w x) u xs ys e)

-- all words were written, and no end of the line
pub all_words : (w v u : Written) (ws : List (List ℕ)) → v ≡ with_words w ws → u ≡ v → WroteWords w ws u
all_words w v u ws e h = let P : List (List ℕ) → Type 0 = λ xs. WroteWords w xs u in subst P (append-nil ws) (wrote_front w u ws [] (h ∙ e))

pub numbers_next : (k : ℕ) (w v u : Written) (ns : List ℕ) (i d : ℕ) → i < length ns → v ≡ with_words w (number_words k (take i ns)) → u ≡ with_word v (hex_digits (get_or ns i d) k)
    → u ≡ with_words w (number_words k (take (i + 1) ns))
numbers_next k w v u ns i d lt e f =
    f ∙ ap (λ (x : Written). with_word x (hex_digits (get_or ns i d) k)) e
    ∙ sym (words_append w (number_words k (take i ns)) (hex_digits (get_or ns i d) k ∷ []))
    ∙ ap (with_words w) (sym (map-append (λ (n : ℕ). hex_digits n k) (take i ns) (get_or ns i d ∷ [])))
    ∙ ap (λ (xs : List ℕ). with_words w (number_words k xs)) (sym (take_more ns i d lt))

pub numbers_part : (k : ℕ) (w v u : Written) (ns : List ℕ) (i : ℕ) → v ≡ with_words w (number_words k (take i ns)) → u ≡ v → WroteWords w (number_words k ns) u
numbers_part k w v u ns i e f =
    let P : List (List ℕ) → Type 0 = λ xs. WroteWords w xs u in
    subst P (sym (map-append (λ (n : ℕ). hex_digits n k) (take i ns) (drop i ns)) ∙ ap (number_words k) (take-append-drop i ns))
    (wrote_front w u (number_words k (take i ns)) (number_words k (drop i ns)) (f ∙ e))

-- ---- lines

text_next : (d : Device) (es : List Entry) (i : ℕ) (e : Entry) → i < length es → text_of d (take (i + 1) es) ≡ text_of d (take i es) ++ line_of d (get_or es i e)
text_next d es i e lt =
    ap (text_of d) (take_more es i e lt)
    ∙ flat_map-append (line_of d) (take i es) (get_or es i e ∷ [])
    ∙ ap (λ (xs : List ℕ). text_of d (take i es) ++ xs) (append-nil (line_of d (get_or es i e)))

text_split : (d : Device) (es : List Entry) (i : ℕ) → text_of d es ≡ text_of d (take i es) ++ text_of d (drop i es)
text_split d es i = ap (text_of d) (sym (take-append-drop i es)) ∙ flat_map-append (line_of d) (take i es) (drop i es)

pub none_begun : (w v : Written) (a : List ℕ) → v ≡ with_text w a → v.begun ≡ false
none_begun w v a e = ap (λ (x : Written). x.begun) e

part_behind : AppendingLaws → (w v : Written) (a b after : List ℕ) → v ≡ with_text w a → AppendedPart v.bytes b after → AppendedPart w.bytes (a ++ b) after
part_behind k w v a b after e h =
    let P : List ℕ → Type 0 = λ xs. AppendedPart xs b after in
    k.behind w.bytes a b after (subst P (ap (λ (x : Written). x.bytes) e) h)

pub no_lines : (w : Written) → w.begun ≡ false → w ≡ with_text w []
no_lines w e = ap (λ (b : Bool). record { bytes = w.bytes; begun = b }) e ∙ ap (λ (xs : List ℕ). record { bytes = xs; begun = false }) (sym (append-nil w.bytes))

pub lines_next : (d : Device) → AppendingLaws → (w v u : Written) (es : List Entry) (i : ℕ) (e : Entry) → i < length es → e ≡ get_or es i e → v ≡ with_text w (text_of d (take i es)) → u ≡ with_end (with_words v (entry_words d e))
    → u ≡ with_text w (text_of d (take (i + 1) es))
lines_next d k w v u es i e lt is before f =
    k.line v u (entry_words d e) (none_begun w v (text_of d (take i es)) before) f
    ∙ ap (λ (x : Entry). with_text v (line_of d x)) is
    ∙ ap (λ (x : Written). with_text x (line_of d (get_or es i e))) before
    ∙ ap (λ (xs : List ℕ). record { bytes = xs; begun = false }) (append_assoc w.bytes (text_of d (take i es)) (line_of d (get_or es i e)))
    ∙ ap (with_text w) (sym (text_next d es i e lt))

pub lines_part : (d : Device) → AppendingLaws → (w v u : Written) (es : List Entry) (i : ℕ) (e : Entry) → i < length es → e ≡ get_or es i e → v ≡ with_text w (text_of d (take i es)) → WroteWords v (entry_words d e) u
    → AppendedPart w.bytes (text_of d es) u.bytes
lines_part d k w v u es i e lt is before h =
    let here = k.part v u (entry_words d e) (none_begun w v (text_of d (take i es)) before) h in
    let behind = part_behind k w v (text_of d (take i es)) (line_of d e) u.bytes before here in
    let longer = k.longer w.bytes (text_of d (take i es) ++ line_of d e) (text_of d (drop (i + 1) es)) u.bytes behind in
    let next = text_next d es i e lt ∙ ap (λ (x : Entry). text_of d (take i es) ++ line_of d x) (sym is) in
    let all = text_split d es (i + 1) ∙ ap (λ (xs : List ℕ). xs ++ text_of d (drop (i + 1) es)) next in
    let P : List ℕ → Type 0 = λ xs. AppendedPart w.bytes xs u.bytes in
    subst P (sym all) longer
