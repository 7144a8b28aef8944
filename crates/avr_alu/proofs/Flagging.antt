-- Six flags written one after another.
use Rattle.std.proofs.Common.{◌≡◌, refl, ℕ, ◌-◌, ◌<◌, Bool, true, cond, eqb}
use Rattle.std.proofs.lemmas.Bool.{eqb-true}
use Rattle.std.specs.Int.RustNames.{bit_and, bit_or}
use Rattle.avr_model.specs.Sreg.{with_flags, with_carry_and_zero, xor}
use Rattle.avr_alu.proofs.Table.{all_below, all_below_at, all_bools, all_bools_at}

-- the register with the bits of m set or cleared
abbrev pub put : ℕ → Bool → ℕ → ℕ
put m b s = cond b (bit_or s m) (bit_and s (255 - m))

abbrev pub put_all : Bool → Bool → Bool → Bool → Bool → ℕ → ℕ
put_all c z n v h s = put 32 h (put 16 (xor n v) (put 8 v (put 4 n (put 2 z (put 1 c s)))))

abbrev pub test : Bool → Bool → Bool → Bool → Bool → ℕ → Bool
test c z n v h s = eqb (put_all c z n v h s) (with_flags c z n v h s)

computed : all_bools (λ c. all_bools (λ z. all_bools (λ n. all_bools (λ v. all_bools (λ h. all_below 256 (test c z n v h)))))) ≡ true
computed = refl

pub put_all-with_flags : (c z n v h : Bool) (s : ℕ) → s < 256 → put_all c z n v h s ≡ with_flags c z n v h s
put_all-with_flags c z n v h s lt =
    let at_c = all_bools_at (λ c. all_bools (λ z. all_bools (λ n. all_bools (λ v. all_bools (λ h. all_below 256 (test c z n v h)))))) c computed in
    let at_z = all_bools_at (λ z. all_bools (λ n. all_bools (λ v. all_bools (λ h. all_below 256 (test c z n v h))))) z at_c in
    let at_n = all_bools_at (λ n. all_bools (λ v. all_bools (λ h. all_below 256 (test c z n v h)))) n at_z in
    let at_v = all_bools_at (λ v. all_bools (λ h. all_below 256 (test c z n v h))) v at_n in
    let at_h = all_bools_at (λ h. all_below 256 (test c z n v h)) h at_v in
    eqb-true (put_all c z n v h s) (with_flags c z n v h s) (all_below_at (test c z n v h) 256 s at_h lt)

abbrev pub test_two : Bool → Bool → ℕ → Bool
test_two c z s = eqb (put 2 z (put 1 c s)) (with_carry_and_zero c z s)

computed_two : all_bools (λ c. all_bools (λ z. all_below 256 (test_two c z))) ≡ true
computed_two = refl

pub put_carry_and_zero : (c z : Bool) (s : ℕ) → s < 256 → put 2 z (put 1 c s) ≡ with_carry_and_zero c z s
put_carry_and_zero c z s lt =
    let at_c = all_bools_at (λ c. all_bools (λ z. all_below 256 (test_two c z))) c computed_two in
    let at_z = all_bools_at (λ z. all_below 256 (test_two c z)) z at_c in
    eqb-true (put 2 z (put 1 c s)) (with_carry_and_zero c z s) (all_below_at (test_two c z) 256 s at_z lt)
