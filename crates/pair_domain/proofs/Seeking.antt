-- Invariants of the loops that search a member.
use Rattle.std.proofs.Common.{◌≡◌, ◌≢◌, refl, sym, ◌∙◌, ap, ℕ, suc, ◌+◌, ◌-◌, ◌/◌, ◌^◌, ◌<◌, ◌≤◌, inl, inr, Bool, true, false, Some, None, arith}
use Rattle.std.specs.Prelude.{◌==◌, if◌then◌else◌}
use Rattle.std.specs.Int.{bit_at}
use Rattle.std.proofs.lemmas.Bool.{eq-eqb, ne_eqb, false≢true, cases_eq}
use Rattle.bit_domain.specs.declared.bits.Tri.{Tri}
use Rattle.bit_domain.specs.declared.bits.Tri.TheVariants.{Any}
use Rattle.bit_domain.specs.declared.bytes.TriByte.{TriByte}
use Rattle.bit_domain.specs.Tri.{tri_bit}
use Rattle.bit_domain.specs.TriByte.{tri_at, Has, has, byte_with}
use Rattle.bit_domain.proofs.AllLaws.{bytes_are_their_bits, tests_tell_members}
use Rattle.pair_domain.specs.Narrow.{shared_bit, least_from, greatest_from}

-- ---- shared bits

pub shared_there : (low high i : ℕ) → low / 2 ^ i ≡ high / 2 ^ i → shared_bit low high i ≡ tri_bit (bit_at low i)
shared_there low high i e = ap (λ (b : Bool). if b then tri_bit (bit_at low i) else Any) (eq-eqb (low / 2 ^ i) (high / 2 ^ i) e)

pub not_shared : (low high i : ℕ) → low / 2 ^ i ≢ high / 2 ^ i → shared_bit low high i ≡ Any
not_shared low high i e = ap (λ (b : Bool). if b then tri_bit (bit_at low i) else Any) (ne_eqb (low / 2 ^ i) (high / 2 ^ i) e)

chosen : (b : Bool) (t u : Tri) → b ≡ true → (if b then t else u) ≡ t
chosen true t u e = refl
chosen false t u e = absurd (false≢true e)

passed : (b : Bool) (t u : Tri) → b ≡ false → (if b then t else u) ≡ u
passed true t u e = absurd (false≢true (sym e))
passed false t u e = refl

-- one more bit is written
pub with_more : (t : TriByte) (f : ℕ → Tri) (i : ℕ) → i < 8 → ((k : ℕ) → k < i → tri_at t k ≡ f k) → (k : ℕ) → k < i + 1 → tri_at (byte_with t i (f i)) k ≡ f k
with_more t f i small done k h =
    bytes_are_their_bits.has_bits (λ j. if j == i then f i else tri_at t j) k (omega arith)
    ∙ elim (cases_eq k i) [
      | inl same ↦ chosen (k == i) (f i) (tri_at t k) (eq-eqb k i same) ∙ ap f (sym same)
      | inr other ↦ passed (k == i) (f i) (tri_at t k) (ne_eqb k i other) ∙ done k (omega arith)
    ]

-- ---- members

not_in : (bits : TriByte) (x : ℕ) → (Has bits x → ⊥) → has bits x ≡ false
not_in bits x none = by (has bits x) refl
  where
    by : (b : Bool) → has bits x ≡ b → b ≡ false
    by true e = absurd (none ((tests_tell_members.bytes bits x).0 e))
    by false e = refl

least_step : (bits : TriByte) (x n : ℕ) (b : Bool) → has bits x ≡ b → least_from bits x (suc n) ≡ (if b then Some x else least_from bits (suc x) n)
unfolding least_from
least_step bits x n b e = ap (λ (c : Bool). if c then Some x else least_from bits (suc x) n) e

greatest_step : (bits : TriByte) (x n : ℕ) (b : Bool) → has bits (x + n) ≡ b → greatest_from bits x (suc n) ≡ (if b then Some (x + n) else greatest_from bits x n)
unfolding greatest_from
greatest_step bits x n b e = ap (λ (c : Bool). if c then Some (x + n) else greatest_from bits x n) e

pub least_here : (bits : TriByte) (high x : ℕ) → x < high + 1 → Has bits x → least_from bits x (high + 1 - x) ≡ Some x
least_here bits high x lt h =
    let e : high + 1 - x ≡ suc (high - x) = omega arith in
    ap (least_from bits x) e ∙ least_step bits x (high - x) true ((tests_tell_members.bytes bits x).1 h)

pub least_next : (bits : TriByte) (high x : ℕ) → x < high + 1 → (Has bits x → ⊥) → least_from bits x (high + 1 - x) ≡ least_from bits (x + 1) (high + 1 - (x + 1))
least_next bits high x lt none =
    let e : high + 1 - x ≡ suc (high - x) = omega arith in
    let d : suc x ≡ x + 1 = omega arith in
    let g : high - x ≡ high + 1 - (x + 1) = omega arith in
    ap (least_from bits x) e ∙ least_step bits x (high - x) false (not_in bits x none) ∙ (λ i. least_from bits (d i) (g i))

pub least_end : (bits : TriByte) (high x : ℕ) → high + 1 ≤ x → least_from bits x (high + 1 - x) ≡ None
unfolding least_from
least_end bits high x over = let e : high + 1 - x ≡ 0 = omega arith in ap (least_from bits x) e

pub greatest_here : (bits : TriByte) (low end : ℕ) → low < end → Has bits (end - 1) → greatest_from bits low (end - low) ≡ Some (end - 1)
greatest_here bits low end lt h =
    let e : end - low ≡ suc (end - 1 - low) = omega arith in
    let d : low + (end - 1 - low) ≡ end - 1 = omega arith in
    ap (greatest_from bits low) e
    ∙ greatest_step bits low (end - 1 - low) true (ap (has bits) d ∙ (tests_tell_members.bytes bits (end - 1)).1 h)
    ∙ ap (λ (n : ℕ). Some n) d

pub greatest_next : (bits : TriByte) (low end : ℕ) → low < end → (Has bits (end - 1) → ⊥) → greatest_from bits low (end - low) ≡ greatest_from bits low (end - 1 - low)
greatest_next bits low end lt none =
    let e : end - low ≡ suc (end - 1 - low) = omega arith in
    let d : low + (end - 1 - low) ≡ end - 1 = omega arith in
    ap (greatest_from bits low) e ∙ greatest_step bits low (end - 1 - low) false (ap (has bits) d ∙ not_in bits (end - 1) none)

pub greatest_end : (bits : TriByte) (low end : ℕ) → end ≤ low → greatest_from bits low (end - low) ≡ None
unfolding greatest_from
greatest_end bits low end over = let e : end - low ≡ 0 = omega arith in ap (greatest_from bits low) e
