-- The stack pointer, and the bytes of a word there.
use Rattle.std.proofs.Common.{◌≡◌, ◌∙◌, sym, ap, subst, ℕ, ◌+◌, ◌-◌, ◌*◌, ◌/◌, ◌%◌, ◌^◌, ◌<◌, ◌≤◌, Bool, true, false, if◌then◌else◌, List, [], ◌∷◌, take, ◌⊎◌, inl, inr, arith}
use Rattle.std.specs.Int.Bits.{bit_and}
use Rattle.std.proofs.lemmas.Nat.{and_mask}
use Rattle.avr_model.specs.declared.device.Device.{Device}
use Rattle.avr_model.specs.declared.effect.Write.{Write}
use Rattle.avr_model.specs.Devices.{io_base, back_of, has_sph, sp_count, wrapped}
use Rattle.avr_model.specs.State.{State, plus_sp, minus_sp, read}
use Rattle.avr_model.specs.Effects.{back_bytes, pushed_from, way_back, popped_from, popped_word, going_to, returning}
use Rattle.avr_model.specs.Step.{after}
use Rattle.avr_model.proofs.AllLaws.{devices_are_alike}

pub most_base : (d : Device) (base : ℕ) → base ≡ io_base d → base ≤ 0x20
most_base d base is = let most = devices_are_alike.most_base d in omega (arith, is, most)

pub least_back : (d : Device) (back : ℕ) → back ≡ back_of d → 2 ≤ back
least_back d back is = let least = devices_are_alike.least_back d in omega (arith, is, least)

pub most_back : (d : Device) (back : ℕ) → back ≡ back_of d → back ≤ 3
most_back d back is = let most = devices_are_alike.most_back d in omega (arith, is, most)

-- ---- a mask of stack pointers

masked_by : (high : Bool) (a top : ℕ) → top + 1 ≡ (if high then 65536 else 256) → bit_and (a % 65536) top ≡ a % (if high then 65536 else 256)
masked_by true a top is = let t : top ≡ 2 ^ 16 - 1 = omega (arith, is) in ap (bit_and (a % 65536)) t ∙ and_mask (a % 65536) 16 ∙ omega arith
masked_by false a top is = let t : top ≡ 2 ^ 8 - 1 = omega (arith, is) in ap (bit_and (a % 65536)) t ∙ and_mask (a % 65536) 8 ∙ omega arith

pub up : (d : Device) (sp count top : ℕ) → top + 1 ≡ sp_count d → bit_and ((sp + count) % 65536) top ≡ plus_sp d sp count
up d sp count top is = masked_by (has_sph d) (sp + count) top is

less_by : (high : Bool) (sp count : ℕ) → count < 256
    → (sp + (65536 - count)) % (if high then 65536 else 256) ≡ (sp + ((if high then 65536 else 256) - count % (if high then 65536 else 256))) % (if high then 65536 else 256)
less_by true sp count few = omega (arith, few)
less_by false sp count few = omega (arith, few)

pub down : (d : Device) (sp count top : ℕ) → top + 1 ≡ sp_count d → count < 256 → bit_and ((sp + (65536 - count)) % 65536) top ≡ minus_sp d sp count
down d sp count top is few = masked_by (has_sph d) (sp + (65536 - count)) top is ∙ less_by (has_sph d) sp count few

-- ---- the pushes of a word

two_or_three : (d : Device) → (back_of d ≡ 2) ⊎ (back_of d ≡ 3)
two_or_three d = by (back_of d) (devices_are_alike.least_back d) (devices_are_alike.most_back d)
  where
    by : (n : ℕ) → 2 ≤ n → n ≤ 3 → (n ≡ 2) ⊎ (n ≡ 3)
    by n least most = grind arith

pub pushed : (d : Device) (sp word middle high : ℕ) → middle ≡ minus_sp d sp 1 → high ≡ minus_sp d middle 1
    → take (back_of d) (record { address = sp; byte = word % 256 } ∷ record { address = middle; byte = word / 256 % 256 } ∷ record { address = high; byte = word / 65536 % 256 } ∷ []) ≡ way_back d sp word
pushed d sp word middle high m h =
    let third : word / 65536 % 256 ≡ word / 256 / 256 % 256 = omega arith in
    let three : List Write = record { address = sp; byte = word % 256 } ∷ record { address = middle; byte = word / 256 % 256 } ∷ record { address = high; byte = word / 65536 % 256 } ∷ [] in
    elim (two_or_three d) [
      | inl e ↦
          ap (λ (n : ℕ). take n three) e
          ∙ (λ i. record { address = sp; byte = word % 256 } ∷ record { address = m i; byte = word / 256 % 256 } ∷ [])
          ∙ sym (ap (λ (n : ℕ). pushed_from d sp (back_bytes n word)) e)
      | inr e ↦
          ap (λ (n : ℕ). take n three) e
          ∙ (λ i. record { address = sp; byte = word % 256 } ∷ record { address = m i; byte = word / 256 % 256 } ∷ record { address = (h ∙ ap (λ (a : ℕ). minus_sp d a 1) m) i; byte = third i } ∷ [])
          ∙ sym (ap (λ (n : ℕ). pushed_from d sp (back_bytes n word)) e)
    ]

-- ---- the popped word

module _ (still : Bool) (m : State) (b1 b2 : ℕ) where
  pub popped_two : (high word : ℕ) → back_of m.device ≡ 2 → high ≡ 256 * 0 + read still m (plus_sp m.device m.sp 1) b1
      → word ≡ 256 * high + read still m (plus_sp m.device m.sp 2) b2 → wrapped m.device word ≡ wrapped m.device (popped_word still m b1 b2)
  popped_two high word two h w =
      let x = read still m (plus_sp m.device m.sp 1) b1 in
      let y = read still m (plus_sp m.device m.sp 2) b2 in
      let is : word ≡ 256 * (256 * 0 + x) + y = omega (arith, h, w) in
      ap (wrapped m.device) is
      ∙ ap (λ (n : ℕ). wrapped m.device (popped_from still m n 1 0 b1 b2)) (sym two)

  pub popped_three : (high middle word : ℕ) → back_of m.device ≡ 3 → high ≡ 256 * 0 + read still m (plus_sp m.device m.sp 1) b1
      → middle ≡ 256 * high + read still m (plus_sp m.device m.sp 2) b2
      → word ≡ 256 * middle + read still m (plus_sp m.device m.sp 3) b2 → wrapped m.device word ≡ wrapped m.device (popped_word still m b1 b2)
  popped_three high middle word three h g w =
      let x = read still m (plus_sp m.device m.sp 1) b1 in
      let y = read still m (plus_sp m.device m.sp 2) b2 in
      let z = read still m (plus_sp m.device m.sp 3) b2 in
      let is : word ≡ 256 * (256 * (256 * 0 + x) + y) + z = omega (arith, h, g, w) in
      ap (wrapped m.device) is
      ∙ ap (λ (n : ℕ). wrapped m.device (popped_from still m n 1 0 b1 b2)) (sym three)

-- the state behind a return
returned_there : (still : Bool) (m : State) (b1 b2 sp word : ℕ) → sp ≡ plus_sp m.device m.sp (back_of m.device) → wrapped m.device word ≡ wrapped m.device (popped_word still m b1 b2)
    → after (record m { sp = sp; is_open = false }) false (going_to (record m { sp = sp; is_open = false }) word) ≡ after m false (returning still m b1 b2)
returned_there still m b1 b2 sp word up pc =
    λ i. after (record m { sp = up i; is_open = false }) false (record (going_to (record m { sp = up i; is_open = false }) 0) { pc = pc i })

pub returned : (still : Bool) (m old : State) (b1 b2 sp word back : ℕ) → m ≡ old → back ≡ back_of m.device → sp ≡ plus_sp m.device m.sp back
    → wrapped old.device word ≡ wrapped old.device (popped_word still old b1 b2)
    → after (record m { sp = sp; is_open = false }) false (going_to (record m { sp = sp; is_open = false }) word) ≡ after old false (returning still old b1 b2)
returned still m old b1 b2 sp word back same b up pc =
    returned_there still m b1 b2 sp word (up ∙ ap (plus_sp m.device m.sp) b)
    (subst (λ (x : State). wrapped x.device word ≡ wrapped x.device (popped_word still x b1 b2)) (sym same) pc)
    ∙ ap (λ (x : State). after x false (returning still x b1 b2)) same
