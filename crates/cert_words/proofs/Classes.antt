-- The names of devices in texts.
use Rattle.std.proofs.Common.{ℕ, zero, suc, ◌+◌, ◌-◌, ◌≤◌, ◌≡◌, ◌==◌, ◌&&◌, inl, inr, not, List, [], ◌∷◌, length, Bool, true, Some, refl, ap, sym, ◌∙◌, arith, nat_le}
use Rattle.std.specs.Prelude.{slice_index_or}
use Rattle.std.specs.List.{list_all, position_from}
use Rattle.std.specs.Str.{bytes_eq}
use Rattle.std.proofs.lemmas.Bool.{and_parts, not-true}
use Rattle.std.proofs.lemmas.Bool.Decides.{nat_tests}
use Rattle.avr_model.specs.declared.device.Device.{Device}
use Rattle.avr_model.specs.declared.device_table.TheConstants.{CLASSES, LAST_CLASS}
use Rattle.avr_model.specs.Names.{trimmed, class_of, device_of_class}
use Rattle.basics.specs.Lists.{chosen}
use Rattle.std.proofs.lemmas.Option.{none-some, same_Some}
use Rattle.std.proofs.lemmas.Slice.Eq.{bytes_eq-Decides}
use Rattle.line_reading.proofs.AllLaws.{map_some}
use Rattle.text_base.specs.Lines.{Lacks}
use Rattle.line_reading.specs.Words.{IsWord}

abbrev lacks : ℕ → List ℕ → Bool
lacks c bs = list_all (λ b. not (b == c)) bs

-- one word, of at most 14 bytes
abbrev is_class : List ℕ → Bool
is_class bs = (lacks 32 bs && lacks 10 bs) && nat_le (length bs) 14

abbrev passes : List ℕ → Bool
passes text = is_class (trimmed text)

all_pass : list_all passes CLASSES ≡ true
unfolding trimmed
all_pass = refl

last_passes : passes LAST_CLASS ≡ true
unfolding trimmed
last_passes = refl

one_of : {A : Type 0} (p : A → Bool) (xs : List A) (k : ℕ) (d : A) → list_all p xs ≡ true → p d ≡ true → p (slice_index_or xs k d) ≡ true
one_of p [] k d all one = one
one_of p (x ∷ xs) zero d all one = (and_parts (p x) (list_all p xs) all).0
one_of p (x ∷ xs) (suc k) d all one = one_of p xs k d (and_parts (p x) (list_all p xs) all).1 one

class_passes : (device : Device) → is_class (class_of device) ≡ true
unfolding class_of
class_passes device = one_of passes CLASSES device.index LAST_CLASS all_pass last_passes

lacks_by : (c : ℕ) (bs : List ℕ) → lacks c bs ≡ true → Lacks c bs
lacks_by c [] e = tt
lacks_by c (b ∷ bs) e = let t = and_parts (not (b == c)) (lacks c bs) e in (not-true (b == c) t.0, lacks_by c bs t.1)

-- the name is one word
pub class_word : (device : Device) → IsWord (class_of device)
class_word device =
    let name = class_of device in
    let t = and_parts (lacks 32 name && lacks 10 name) (nat_le (length name) 14) (class_passes device) in
    let w = and_parts (lacks 32 name) (lacks 10 name) t.0 in
    (lacks_by 32 name w.0, lacks_by 10 name w.1)

pub class_short : (device : Device) → length (class_of device) ≤ 14
class_short device =
    let name = class_of device in
    let t = and_parts (lacks 32 name && lacks 10 name) (nat_le (length name) 14) (class_passes device) in
    grind (arith, nat_tests, t.1)

at_first : (p : List ℕ → Bool) (k : ℕ) (xs : List (List ℕ)) (index : ℕ) (d : List ℕ) → position_from p k xs ≡ Some index → (k ≤ index) × (p (slice_index_or xs (index - k) d) ≡ true)
at_first p k [] index d e = absurd (none-some index e)
at_first p k (x ∷ xs) index d e = elim (chosen (p x) _ _ (Some index) e) [
  | inl h ↦
      let same : k ≡ index = same_Some k index h.1 in
      let none : index - k ≡ 0 = omega (arith, same) in
      (omega (arith, same), ap (λ (n : ℕ). p (slice_index_or (x ∷ xs) n d)) none ∙ h.0)
  | inr h ↦
      let t = at_first p (k + 1) xs index d h.1 in
      let more : index - k ≡ suc (index - (k + 1)) = omega (arith, t.0) in
      (omega (arith, t.0), ap (λ (n : ℕ). p (slice_index_or (x ∷ xs) n d)) more ∙ t.1)
]

-- the name that means a device in texts is its name
pub class_named : (device : Device) (name : List ℕ) → device_of_class name ≡ Some device → class_of device ≡ name
unfolding device_of_class class_of
class_named device name e =
    let at : ℕ → Device = λ index. record { index = index } in
    let t = map_some (position_from (λ class. bytes_eq (trimmed class) name) 0 CLASSES) at device e in
    let s = at_first (λ class. bytes_eq (trimmed class) name) 0 CLASSES t.0 LAST_CLASS t.1 in
    let same : t.0 - 0 ≡ device.index = omega (arith, ap (λ (d : Device). d.index) t.2) in
    ap (λ (n : ℕ). trimmed (slice_index_or CLASSES n LAST_CLASS)) (sym same) ∙ (bytes_eq-Decides (trimmed (slice_index_or CLASSES (t.0 - 0) LAST_CLASS)) name).0 s.1
