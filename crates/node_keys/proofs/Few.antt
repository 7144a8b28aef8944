-- At most eight vectors are enabled at one address, since a bit enables one.
use Rattle.std.proofs.Common.{◌≡◌, ◌∙◌, sym, ap, refl, inl, inr, ◌⊎◌, ℕ, zero, suc, ◌+◌, ◌^◌, ◌<◌, ◌≤◌, ◌==◌, ◌&&◌, arith, Bool, true, false, cond, eqb, nat_lt, length, Option, Some, None}
use Rattle.std.specs.Int.{from_bool, bit_at}
use Rattle.std.proofs.lemmas.Bool.{cases_Bool, cases_eq}
use Rattle.std.proofs.lemmas.Bool.Decides.{nat_tests}
use Rattle.std.proofs.lemmas.Nat.{pow_below}
use Rattle.avr_model.specs.declared.device.Device.{Device}
use Rattle.avr_model.specs.declared.rows.EnablePlace.{EnablePlace}
use Rattle.avr_model.specs.Vectors.{enable_count, is_sticky, enable_place_at, enable_of}
use Rattle.bit_domain.specs.declared.bits.Tri.{Tri}
use Rattle.bit_domain.specs.declared.bits.Tri.TheVariants.{Zero, One, Any}
use Rattle.bit_domain.specs.declared.bytes.TriByte.{TriByte}
use Rattle.bit_domain.specs.Numbers.{one_if_any, count_unknown}
use Rattle.bit_domain.proofs.AllLaws.{numbers_are_permitted}
use Rattle.vector_table.proofs.AllLaws.{enables_are_vectors}
use Rattle.node_keys.specs.Splits.{is_any, common_tri, enable_in, enable_tri, splits}
use Rattle.node_keys.proofs.Commons.{some_one, some_any, by_tests, any_there}

-- ---- how many of the first bits of an address enable one of the vectors 2 to n + 1

one_before : Option ℕ → ℕ → ℕ
one_before None n = 0
one_before (Some v) n = from_bool (nat_lt v (n + 2))

tally : ℕ → (ℕ → Option ℕ) → ℕ → ℕ
tally zero o n = 0
tally (suc j) o n = one_before (o j) n + tally j o n

test_le : (v n : ℕ) → from_bool (nat_lt v (n + 2)) ≤ from_bool (nat_lt v (suc n + 2))
test_le v n = grind (arith, nat_tests)

before_le : (o : Option ℕ) (n : ℕ) → one_before o n ≤ one_before o (suc n)
unfolding one_before
before_le None n = omega arith
before_le (Some v) n = test_le v n

before_one : (o : Option ℕ) (n : ℕ) → one_before o n ≤ 1
unfolding one_before
before_one None n = omega arith
before_one (Some v) n = elim (cases_Bool (nat_lt v (n + 2))) [
  | inl here ↦ rw here (omega arith)
  | inr other ↦ rw other (omega arith)
]

here_more : (n : ℕ) → from_bool (nat_lt (n + 2) (n + 2)) + 1 ≤ from_bool (nat_lt (n + 2) (suc n + 2))
here_more n = grind (arith, nat_tests)

before_more : (o : Option ℕ) (n : ℕ) → o ≡ Some (n + 2) → one_before o n + 1 ≤ one_before o (suc n)
unfolding one_before
before_more o n e = rw e (here_more n)

tally_le : (j : ℕ) (o : ℕ → Option ℕ) (n : ℕ) → tally j o n ≤ tally j o (suc n)
unfolding tally
tally_le zero o n = omega arith
tally_le (suc j) o n = omega (arith, before_le (o j) n, tally_le j o n)

tally_more : (j : ℕ) (o : ℕ → Option ℕ) (n i : ℕ) → i < j → o i ≡ Some (n + 2) → tally j o n + 1 ≤ tally j o (suc n)
unfolding tally
tally_more zero o n i lt e = absurd (omega arith)
tally_more (suc j) o n i lt e = elim (cases_eq i j) [
  | inl same ↦ omega (arith, before_more (o j) n (ap o (sym same) ∙ e), tally_le j o n)
  | inr other ↦ omega (arith, before_le (o j) n, tally_more j o n i (omega arith) e)
]

tally_few : (j : ℕ) (o : ℕ → Option ℕ) (n : ℕ) → tally j o n ≤ j
unfolding tally
tally_few zero o n = omega arith
tally_few (suc j) o n = omega (arith, before_one (o j) n, tally_few j o n)

-- ---- unknown enable bits

pub one_any : (t : Tri) → (t ≡ Any) ⊎ (is_any t ≡ false)
one_any Zero = inr refl
one_any One = inr refl
one_any Any = inl refl

no_any : (t : Tri) → is_any t ≡ false → one_if_any t ≡ 0
no_any Zero h = refl
no_any One h = refl
no_any Any h = absurd (cc)

bit_known : (b : Bool) → cond b Zero One ≡ Any → ⊥
bit_known true e = absurd (cc)
bit_known false e = absurd (cc)

by_common : (s : Bool) (t : Tri) → cond s One t ≡ Any → t ≡ Any
by_common true t e = absurd (cc)
by_common false t e = e

by_any : (a b : Bool) → cond a One (cond b Any Zero) ≡ Any → b ≡ true
by_any true b e = absurd (cc)
by_any false true e = refl
by_any false false e = absurd (cc)

-- an unknown enable bit is that of one of the address's bits
unknown_bit : (d : Device) (address : ℕ) (value : TriByte) (k old : ℕ) (o : Option EnablePlace) → enable_place_at d (k + 2) address ≡ o → enable_in o value old ≡ Any
    → (j : ℕ) × ((j < 8) × (enable_of d address j ≡ Some (k + 2)))
unknown_bit d address value k old None at e = absurd (bit_known (eqb old 0) e)
unknown_bit d address value k old (Some p) at e =
    let common = by_common (is_sticky p.enable && (old == 1)) (common_tri value p.mask) e in
    let any = by_any (some_one value p.mask) (some_any value p.mask) (sym (by_tests value p.mask (some_one value p.mask) (some_any value p.mask) refl refl) ∙ common) in
    let f = any_there value p.mask any in
    (f.0, (f.1.0, enables_are_vectors.enabled d (k + 2) address f.0 p f.1.0 at f.1.1.1))

unknown_tally : (d : Device) (m address : ℕ) (value : TriByte) (n : ℕ) → count_unknown (enable_tri d m address value) n ≤ tally 8 (enable_of d address) n
unfolding count_unknown enable_tri
unknown_tally d m address value zero = omega arith
unknown_tally d m address value (suc n) =
    let rest = unknown_tally d m address value n in
    elim (one_any (enable_in (enable_place_at d (n + 2) address) value (bit_at m n))) [
      | inl any ↦
          let f = unknown_bit d address value n (bit_at m n) (enable_place_at d (n + 2) address) refl any in
          omega (arith, tally_more 8 (enable_of d address) n f.0 f.1.0 f.1.1, ap one_if_any any)
      | inr known ↦ omega (arith, tally_le 8 (enable_of d address) n, no_any (enable_in (enable_place_at d (n + 2) address) value (bit_at m n)) known)
    ]

pub few_unknown : (d : Device) (m address : ℕ) (value : TriByte) (n : ℕ) → count_unknown (enable_tri d m address value) n ≤ 8
few_unknown d m address value n = omega (arith, unknown_tally d m address value n, tally_few 8 (enable_of d address) n)

power_le : (n m : ℕ) → n ≤ m → 2 ^ n ≤ 2 ^ m
power_le n m h = elim (cases_eq n m) [
  | inl same ↦ omega (arith, ap (λ (k : ℕ). 2 ^ k) same)
  | inr other ↦ omega (arith, pow_below n m (omega arith))
]

pub few_splits : (d : Device) (m address : ℕ) (value : TriByte) → length (splits d m address value) ≤ 256
few_splits d m address value =
    let is = numbers_are_permitted.count (enable_tri d m address value) (enable_count d) in
    let le = power_le (count_unknown (enable_tri d m address value) (enable_count d)) 8 (few_unknown d m address value (enable_count d)) in
    omega arith
