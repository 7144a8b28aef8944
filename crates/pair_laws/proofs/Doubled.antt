-- The sum of a byte, itself and a carry.
use Rattle.std.proofs.Common.{◌≡◌, refl, sym, ◌∙◌, subst, ℕ, zero, suc, ◌+◌, ◌-◌, ◌*◌, ◌/◌, ◌%◌, ◌<◌, ◌==◌, ◌⊎◌, inl, inr, Bool, true, false, if◌then◌else◌, arith}
use Rattle.std.proofs.lemmas.Bool.{cases_eq, eqb-true, eq-eqb, ne_eqb, false≢true}
use Rattle.std.specs.Int.{bit_at}
use Rattle.bit_domain.specs.declared.bits.Tri.{Tri}
use Rattle.bit_domain.specs.declared.bytes.TriByte.{TriByte}
use Rattle.bit_domain.specs.Tri.{Permits, IsTriWithin}
use Rattle.bit_domain.specs.TriByte.{Has, IsWithin, tri_at}
use Rattle.bit_domain.proofs.AllLaws.{bytes_are_sets, bytes_are_their_bits, sums_cover}
use Rattle.sp_domain.specs.declared.tags.Tag.TheVariants as tag
use Rattle.abs_alu.specs.Sums.{abs_add}
use Rattle.abs_state.specs.Values.{untagged, with_bits}
use Rattle.abs_state.specs.Order.{IsByteWithin}
use Rattle.abs_state.proofs.AllLaws.{bits_make_values}
use Rattle.pair_rules.specs.Values.{doubled}

-- bit k + 1 is the old bit k, and bit 0 the carry
up_bit : (x c k : ℕ) → x < 256 → c < 2 → k < 7 → bit_at ((x + x + c) % 256) (k + 1) ≡ bit_at x k
up_bit x c zero small lt inside = omega arith
up_bit x c (suc zero) small lt inside = omega arith
up_bit x c (suc (suc zero)) small lt inside = omega arith
up_bit x c (suc (suc (suc zero))) small lt inside = omega arith
up_bit x c (suc (suc (suc (suc zero)))) small lt inside = omega arith
up_bit x c (suc (suc (suc (suc (suc zero))))) small lt inside = omega arith
up_bit x c (suc (suc (suc (suc (suc (suc zero)))))) small lt inside = omega arith
up_bit x c (suc (suc (suc (suc (suc (suc (suc k))))))) small lt inside = absurd (omega arith)

low_bit : (x c : ℕ) → c < 2 → bit_at ((x + x + c) % 256) 0 ≡ c
low_bit x c lt = omega arith

after_zero : (k : ℕ) → (k == 0) ≡ false → k - 1 + 1 ≡ k
after_zero k e = by (cases_eq k 0)
  where
    by : (k ≡ 0) ⊎ (k ≡ 0 → ⊥) → k - 1 + 1 ≡ k
    by (inl zero_is) = absurd (false≢true (sym e ∙ eq-eqb k 0 zero_is))
    by (inr other) = omega arith

-- if the new lowest bit and the old bits below bit 7 are permitted, all are
each_bit : (b : TriByte) (low : Tri) (y : ℕ) → Permits low (bit_at y 0) → ((k : ℕ) → k < 7 → Permits (tri_at b k) (bit_at y (k + 1)))
    → (k : ℕ) → k < 8 → Permits (if k == 0 then low else tri_at b (k - 1)) (bit_at y k)
each_bit b low y first rest k lt = by (k == 0) refl
  where
    by : (lowest : Bool) → (k == 0) ≡ lowest → Permits (if lowest then low else tri_at b (k - 1)) (bit_at y k)
    by true e = subst (λ (n : ℕ). Permits low (bit_at y n)) (sym (eqb-true k 0 e)) first
    by false e =
        let next : k - 1 + 1 ≡ k = after_zero k e in
        subst (λ (n : ℕ). Permits (tri_at b (k - 1)) (bit_at y n)) next (rest (k - 1) (omega (arith, lt)))

pub has_doubled : (b : TriByte) (low : Tri) (x c : ℕ) → x < 256 → c < 2 → Has b x → Permits low c → Has (doubled b low) ((x + x + c) % 256)
has_doubled b low x c small lt has may =
    bytes_are_sets.built (λ k. if k == 0 then low else tri_at b (k - 1)) ((x + x + c) % 256)
    (each_bit b low ((x + x + c) % 256) (subst (Permits low) (sym (low_bit x c lt)) may)
    (λ k inside. subst (Permits (tri_at b k)) (sym (up_bit x c k small lt inside)) (has k (omega arith))))

within_by : (b b' : TriByte) (low low' : Tri) → IsWithin b b' → IsTriWithin low low' → (k : ℕ) → k < 8
    → IsTriWithin (if k == 0 then low else tri_at b (k - 1)) (if k == 0 then low' else tri_at b' (k - 1))
within_by b b' low low' le first k lt = by (k == 0)
  where
    by : (lowest : Bool) → IsTriWithin (if lowest then low else tri_at b (k - 1)) (if lowest then low' else tri_at b' (k - 1))
    by true = first
    by false = (bytes_are_sets.within b b').0 le (k - 1) (omega (arith, lt))

pub doubled_more : (b b' : TriByte) (low low' : Tri) → IsWithin b b' → IsTriWithin low low' → IsWithin (doubled b low) (doubled b' low')
doubled_more b b' low low' le first =
    bytes_are_sets.built_within (λ k. if k == 0 then low else tri_at b (k - 1)) (λ k. if k == 0 then low' else tri_at b' (k - 1)) (within_by b b' low low' le first)

-- ---- the plain sum is above it

-- the byte of the bits of x above bit 0, with bit 7 of n on top
abbrev halved : ℕ → ℕ → ℕ
halved x n = x / 2 + 128 * (n / 128 % 2)

halved_bit : (x n k : ℕ) → x < 256 → k < 7 → bit_at x (k + 1) ≡ bit_at (halved x n) k
halved_bit x n zero small inside = omega arith
halved_bit x n (suc zero) small inside = omega arith
halved_bit x n (suc (suc zero)) small inside = omega arith
halved_bit x n (suc (suc (suc zero))) small inside = omega arith
halved_bit x n (suc (suc (suc (suc zero)))) small inside = omega arith
halved_bit x n (suc (suc (suc (suc (suc zero))))) small inside = omega arith
halved_bit x n (suc (suc (suc (suc (suc (suc zero)))))) small inside = omega arith
halved_bit x n (suc (suc (suc (suc (suc (suc (suc k))))))) small inside = absurd (omega arith)

halved_top : (x n : ℕ) → x < 256 → bit_at n 7 ≡ bit_at (halved x n) 7
halved_top x n small = omega arith

-- a doubled byte: its lowest bit, and the bits of its half
bits_of : (b : TriByte) (low : Tri) (x k : ℕ) → k < 8 → Has (doubled b low) x → Permits (if k == 0 then low else tri_at b (k - 1)) (bit_at x k)
bits_of b low x k lt has =
    subst (λ (t : Tri). Permits t (bit_at x k)) (bytes_are_their_bits.has_bits (λ j. if j == 0 then low else tri_at b (j - 1)) k lt) (has k lt)

has_halved : (b : TriByte) (low : Tri) (x : ℕ) → x < 256 → Has (doubled b low) x → Has b (halved x b.value)
has_halved b low x small has k lt = by k lt
  where
    below : (j : ℕ) → j < 7 → Permits (tri_at b j) (bit_at (halved x b.value) j)
    below j inside =
        let next : (j + 1 == 0) ≡ false = ne_eqb (j + 1) 0 (λ e. omega arith) in
        let all : Permits (tri_at b (j + 1 - 1)) (bit_at x (j + 1)) =
        subst (λ (lowest : Bool). Permits (if lowest then low else tri_at b (j + 1 - 1)) (bit_at x (j + 1))) next (bits_of b low x (j + 1) (omega arith) has) in
        let d : j + 1 - 1 ≡ j = omega arith in
        subst (Permits (tri_at b j)) (halved_bit x b.value j small inside) (subst (λ (n : ℕ). Permits (tri_at b n) (bit_at x (j + 1))) d all)

    by : (j : ℕ) → j < 8 → Permits (tri_at b j) (bit_at (halved x b.value) j)
    by zero inside = below zero (omega arith)
    by (suc zero) inside = below (suc zero) (omega arith)
    by (suc (suc zero)) inside = below (suc (suc zero)) (omega arith)
    by (suc (suc (suc zero))) inside = below (suc (suc (suc zero))) (omega arith)
    by (suc (suc (suc (suc zero)))) inside = below (suc (suc (suc (suc zero)))) (omega arith)
    by (suc (suc (suc (suc (suc zero))))) inside = below (suc (suc (suc (suc (suc zero))))) (omega arith)
    by (suc (suc (suc (suc (suc (suc zero)))))) inside = below (suc (suc (suc (suc (suc (suc zero)))))) (omega arith)
    by (suc (suc (suc (suc (suc (suc (suc zero))))))) inside = subst (Permits (tri_at b 7)) (halved_top x b.value small) ((bytes_are_sets.member b).1 7 (omega arith))
    by (suc (suc (suc (suc (suc (suc (suc (suc j)))))))) inside = absurd (omega arith)

pub doubled_within : (b : TriByte) (low : Tri) (flags : TriByte) → IsWithin (doubled b low) (abs_add b b low flags).0
doubled_within b low flags x small has =
    let y = halved x b.value in
    let c = x % 2 in
    let y_small : y < 256 = omega arith in
    let lowest : bit_at x 0 ≡ c = omega arith in
    let may : Permits low c = subst (Permits low) lowest (bits_of b low x 0 (omega arith) has) in
    let half = has_halved b low x small has in
    let sum = sums_cover.sums b b low y y c y_small y_small (omega arith) half half may in
    let same : (y + y + c) % 256 ≡ x = omega arith in
    subst (Has (abs_add b b low flags).0) same sum.bits

pub doubled_is_covered : (b flags : TriByte) (low : Tri) → IsByteWithin (untagged (doubled b low)) (with_bits tag.None (abs_add b b low flags).0)
doubled_is_covered b flags low = bits_make_values.within tag.None tag.None (doubled b low) (abs_add b b low flags).0 tt (doubled_within b low flags)
