-- A text that says its device is that of certificates for one device.
use Rattle.std.proofs.Common.{ℕ, zero, suc, ◌≤◌, ◌<◌, ◌≡◌, ◌==◌, ◌&&◌, ◌||◌, ◌⊎◌, inl, inr, not, Option, None, Some, List, [], ◌∷◌, ◌++◌, length, map, codes, Bool, true, false, refl, ap, sym, ◌∙◌, arith, nat_le}
use Rattle.std.specs.Prelude.{slice_index_or}
use Rattle.std.specs.List.{position_from}
use Rattle.std.specs.Str.{bytes_eq}
use Rattle.std.proofs.lemmas.Bool.{and_parts, false≢true}
use Rattle.std.proofs.lemmas.Bool.Decides.{nat_tests}
use Rattle.std.proofs.lemmas.List.{get_or_past}
use Rattle.std.proofs.lemmas.Option.{same_Some}
use Rattle.avr_model.specs.declared.device.Device.{Device}
use Rattle.avr_model.specs.declared.rows.Row.{Row}
use Rattle.avr_model.specs.declared.device_table.TheConstants.{CLASSES, LAST_CLASS, ROWS, LAST}
use Rattle.avr_model.specs.Devices.{device_row}
use Rattle.avr_model.specs.Names.{trimmed, class_of}
use Rattle.text_base.specs.Lines.{TextLine, spaced, words_of}
use Rattle.line_reading.specs.Words.{WordLaws, whole}
use Rattle.certificate.specs.declared.version.Version.{Version}
use Rattle.certificate.specs.declared.version.Version.TheVariants.{One, Two, Three}
use Rattle.certificate.specs.Versions.{says_device}
use Rattle.cert_words.specs.Text.{device_line, device_lines}
use Rattle.cert_words.proofs.AllLaws.{class_word}
use Rattle.cert_format.proofs.Parts.{first_line, name_words, decided}

-- ---- names

-- the first index of the name
abbrev index_of : List ℕ → Option ℕ
index_of name = position_from (λ class. bytes_eq (trimmed class) name) 0 CLASSES

abbrev is_at : ℕ → Option ℕ → Bool
is_at k None = false
is_at k (Some n) = n == k

at_is : (k : ℕ) (o : Option ℕ) → is_at k o ≡ true → o ≡ Some k
at_is k None e = absurd (false≢true e)
at_is k (Some n) e = ap (λ (m : ℕ). Some m) (grind (arith, nat_tests, e))

-- the device's text doesn't say it, or no device before it has its name
abbrev is_first_named : ℕ → Bool
is_first_named k = not (slice_index_or ROWS k LAST).reads_masks || is_at k (index_of (trimmed (slice_index_or CLASSES k LAST_CLASS)))

abbrev each_below : ℕ → (ℕ → Bool) → Bool
each_below zero p = true
each_below (suc n) p = p n && each_below n p

last_or_less : (k n : ℕ) → k < suc n → (k ≡ n) ⊎ (k < n)
last_or_less k n less = elim (decided (k == n)) [
  | inl h ↦ inl (grind (arith, nat_tests, h))
  | inr h ↦ inr (grind (arith, nat_tests, h, less))
]

inside_or_behind : (k n : ℕ) → (k < n) ⊎ (n ≤ k)
inside_or_behind k n = elim (decided (nat_le n k)) [
  | inl h ↦ inr (grind (arith, nat_tests, h))
  | inr h ↦ inl (grind (arith, nat_tests, h))
]

one_below : (n : ℕ) (p : ℕ → Bool) (k : ℕ) → each_below n p ≡ true → k < n → p k ≡ true
one_below zero p k e less = absurd (omega (arith, less))
one_below (suc n) p k e less =
    let t = and_parts (p n) (each_below n p) e in
    elim (last_or_less k n less) [
      | inl h ↦ ap p h ∙ t.0
      | inr h ↦ one_below n p k t.1 h
    ]

-- an index behind the table stands for a device whose text doesn't say it
last_silent : LAST.reads_masks ≡ false
last_silent = refl

told_inside : (device : Device) → says_device device ≡ true → device.index < length ROWS
unfolding device_row
told_inside device h = elim (inside_or_behind device.index (length ROWS)) [
  | inl less ↦ less
  | inr most ↦ absurd (false≢true (sym last_silent ∙ ap (λ (r : Row). r.reads_masks) (sym (get_or_past ROWS device.index LAST most)) ∙ h))
]

all_first : each_below (length ROWS) is_first_named ≡ true
unfolding trimmed
all_first = refl

first_named : (device : Device) → says_device device ≡ true → index_of (class_of device) ≡ Some device.index
unfolding class_of device_row
first_named device h =
    let name = trimmed (slice_index_or CLASSES device.index LAST_CLASS) in
    let either = one_below (length ROWS) is_first_named device.index all_first (told_inside device h) in
    at_is device.index (index_of name) (ap (λ (b : Bool). not b || is_at device.index (index_of name)) (sym h) ∙ either)

abbrev at_index : ℕ → Device
at_index k = record { index = k }

-- devices that their texts say have names of their own
pub class_apart : (a b : Device) → says_device a ≡ true → says_device b ≡ true → class_of a ≡ class_of b → a ≡ b
class_apart a b h g e = ap at_index (same_Some a.index b.index (sym (first_named a h) ∙ ap index_of e ∙ first_named b g))

-- ---- first lines

-- whether a text with this first line says its device
abbrev tells : List ℕ → Bool
tells text = bytes_eq text (spaced (codes "stackcert" ∷ codes "4" ∷ [])) || bytes_eq text (spaced (codes "stackcert" ∷ codes "5" ∷ []))

tell : (says banked : Bool) (version : Version) → tells (spaced (first_line says banked version)) ≡ says
tell true true version = refl
tell true false version = refl
tell false banked One = refl
tell false banked Two = refl
tell false banked Three = refl

-- a first line, the line of the device, and the others
abbrev pub opened : Bool → Bool → Device → Version → List (List (List ℕ)) → List (List (List ℕ)) → List (List (List ℕ))
opened says banked device version second later = (first_line says banked version ∷ (device_lines says device ++ second)) ++ later

-- the text of the first line, of the second line, and the second word of a line
abbrev first_of : List TextLine → List ℕ
first_of [] = []
first_of (l ∷ ls) = l.text

abbrev second_of : List TextLine → List ℕ
second_of [] = []
second_of (l ∷ ls) = first_of ls

abbrev word_of : List (List ℕ) → List ℕ
word_of [] = []
word_of (w ∷ []) = w
word_of (w ∷ v ∷ ws) = v

name_line : WordLaws → (a b : Device) → spaced (device_line (class_of a)) ≡ spaced (device_line (class_of b)) → device_line (class_of a) ≡ device_line (class_of b)
name_line k a b e =
    sym (k.words_stand (codes "device") (class_of a ∷ []) (name_words (class_of a) (class_word a))) ∙ ap words_of e ∙ k.words_stand (codes "device") (class_of b ∷ []) (name_words (class_of b) (class_word b))

-- Texts with equal lines are for one device, if those that don't say it are.
pub one_device : WordLaws → (a b : Device) (s t : Bool) → says_device a ≡ s → says_device b ≡ t → (m n : Bool) (v w : Version) (xs ys zs us : List (List (List ℕ))) (p q : List TextLine)
    → map whole (opened s m a v xs ys) ++ p ≡ map whole (opened t n b w zs us) ++ q → (s ≡ false → t ≡ false → a ≡ b) → a ≡ b
one_device k a b true true h g m n v w xs ys zs us p q e same = class_apart a b h g (ap word_of (name_line k a b (ap second_of e)))
one_device k a b false false h g m n v w xs ys zs us p q e same = same refl refl
one_device k a b true false h g m n v w xs ys zs us p q e same = absurd (false≢true (sym (tell false n w) ∙ ap tells (sym (ap first_of e)) ∙ tell true m v))
one_device k a b false true h g m n v w xs ys zs us p q e same = absurd (false≢true (sym (tell false m v) ∙ ap tells (ap first_of e) ∙ tell true n w))
