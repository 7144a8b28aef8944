-- Products with their flags cover the machine's.
use Rattle.std.proofs.Common.{◌≡◌, ◌∙◌, subst, sym, ap, refl, ℕ, zero, suc, ◌+◌, ◌*◌, ◌/◌, ◌%◌, ◌<◌, ◌≢◌, arith, Bool, true, false, eqb, leb, cond, Option, Some, None, inl, inr}
use Rattle.std.proofs.lemmas.Bool.{cases_eq, eq-eqb, ne_eqb, cond-true, cond-false}
use Rattle.std.proofs.lemmas.Nat.Bits.{bit_at-suc, bit_at_lowest}
use Rattle.std.specs.Int.{bit_at, from_bool, cast_unsigned, cast_signed, w8, w16}
use Rattle.std.specs.Prelude.{ℤ, pos, ◌*ℤ◌, FitsSigned}
use Rattle.std.proofs.lemmas.Int.{ints, fits_signed_mul}
use Rattle.basics.specs.Numbers.{product_of_bytes}
use Rattle.avr_alu.proofs.Products.{abs_signed}
use Rattle.avr_model.specs.declared.operation.Mul.{Mul}
use Rattle.avr_model.specs.declared.operation.Mul.TheVariants.{Mul as Mul', Muls, Mulsu, Fmul, Fmuls, Fmulsu}
use Rattle.avr_model.specs.Sreg.{with_carry_and_zero}
use Rattle.avr_model.specs.Product.{word_of, result_of, is_fractional, flags_of_product}
use Rattle.bit_domain.specs.declared.bits.Tri.{Tri}
use Rattle.bit_domain.specs.declared.bits.Tri.TheVariants.{Any}
use Rattle.bit_domain.specs.declared.bytes.TriByte.{TriByte}
use Rattle.bit_domain.specs.Tri.{Permits, IsTriWithin, tri_bit}
use Rattle.bit_domain.specs.TriByte.{Has, IsWithin, byte_any, byte_constant, byte_with}
use Rattle.bit_domain.proofs.AllLaws.{bytes_are_sets, writes_cover, bytes_are_their_bits}
use Rattle.abs_alu.specs.Flags.{carry_and_zero}
use Rattle.abs_alu.specs.Product.{product_of_constants, abs_mul}
use Rattle.abs_alu.specs.Laws.{CoversWord, ProductsCover, IsAnswerWithin}
use Rattle.abs_alu.proofs.FlagCover.{below_two, has_known}

-- the two flags that a product changes
pub carry_bit_is : (c z : Bool) (w : ℕ) → bit_at (with_carry_and_zero c z w) 0 ≡ from_bool c
carry_bit_is c z w = omega (arith, below_two c, below_two z)

pub zero_bit_is : (c z : Bool) (w : ℕ) → bit_at (with_carry_and_zero c z w) 1 ≡ from_bool z
zero_bit_is c z w = omega (arith, below_two c, below_two z)

bit_permits : (b : Bool) → Permits (tri_bit (from_bool b)) (from_bool b)
bit_permits true = refl
bit_permits false = refl

-- numbers that agree except in bit 0, or except in bit 1
but_lowest : (n m : ℕ) → n / 2 ≡ m / 2 → (j : ℕ) → j ≢ 0 → bit_at n j ≡ bit_at m j
but_lowest n m e zero other = absurd (other refl)
but_lowest n m e (suc j) other = bit_at-suc n j ∙ ap (λ (k : ℕ). bit_at k j) e ∙ sym (bit_at-suc m j)

but_second : (n m : ℕ) → n % 2 ≡ m % 2 → n / 4 ≡ m / 4 → (j : ℕ) → j ≢ 1 → bit_at n j ≡ bit_at m j
but_second n m e f zero other = bit_at_lowest n ∙ e ∙ sym (bit_at_lowest m)
but_second n m e f (suc zero) other = absurd (other refl)
but_second n m e f (suc (suc j)) other =
    let p : n / 2 / 2 ≡ m / 2 / 2 = omega arith in
    bit_at-suc n (suc j) ∙ bit_at-suc (n / 2) j ∙ ap (λ (k : ℕ). bit_at k j) p ∙ sym (bit_at-suc (m / 2) j) ∙ sym (bit_at-suc m (suc j))

written_has : (s : TriByte) (tc tz : Tri) (c z : Bool) (w : ℕ) → Permits tc (from_bool c) → Permits tz (from_bool z) → Has s w
    → Has (carry_and_zero tc tz s) (with_carry_and_zero c z w)
written_has s tc tz c z w pc pz has =
    let first = from_bool c + 2 * (w / 2) in
    let lc = below_two c in
    let lz = below_two z in
    let after = with_carry_and_zero c z w in
    let e0 : bit_at first 0 ≡ from_bool c = omega arith in
    let same_tail : first / 2 ≡ w / 2 = omega arith in
    let same_lowest : after % 2 ≡ first % 2 = omega arith in
    let same_rest : after / 4 ≡ first / 4 = omega arith in
    writes_cover.members (byte_with s 0 tc) 1 tz first after
    (writes_cover.members s 0 tc w first has (subst (Permits tc) (sym e0) pc) (λ j h other. but_lowest first w same_tail j other))
    (subst (Permits tz) (sym (zero_bit_is c z w)) pz)
    (λ j h other. but_second after first same_lowest same_rest j other)

pub carry_and_zero_within : (c z c' z' : Tri) (s s' : TriByte) → IsTriWithin c c' → IsTriWithin z z' → IsWithin s s'
    → IsWithin (carry_and_zero c z s) (carry_and_zero c' z' s')
carry_and_zero_within c z c' z' s s' wc wz ws =
    writes_cover.more (byte_with s 0 c) (byte_with s' 0 c') 1 z z' (writes_cover.more s s' 0 c c' ws wc) wz

pub any_has : (x : ℕ) → Has byte_any x
any_has x = bytes_are_sets.built (λ _. Any) x (λ i h. tt)

-- if a byte is constant, its only member is the constant
abbrev inner : Option ℕ → ℕ
inner (Some x) = x
inner None = 0

abbrev count : Option ℕ → ℕ
count (Some x) = 1
count None = 0

pub known_constant : (t : TriByte) (x : ℕ) → byte_constant t ≡ Some x → (t.known ≡ 255) × (t.value ≡ x)
known_constant t x h = elim (cases_eq t.known 255) [
  | inl all ↦ (all, ap inner (sym (cond-true (eqb t.known 255) (Some t.value) None (eq-eqb t.known 255 all)) ∙ h))
  | inr open_bits ↦
      let p : count None ≡ count (Some x) = ap count (sym (cond-false (eqb t.known 255) (Some t.value) None (ne_eqb t.known 255 open_bits)) ∙ h) in
      absurd (omega arith)
]

pub constant_member : (t : TriByte) (n x : ℕ) → x < 256 → byte_constant t ≡ Some n → Has t x → x ≡ n
constant_member t n x small h has =
    let k = known_constant t n h in
    (bytes_are_sets.known t.value x (bytes_are_sets.member t).0 small).0 (subst (λ (u : TriByte). Has u x) (bytes_are_sets.constant t k.0) has) ∙ k.1

-- a byte within a constant is the constant
pub constant_within : (t u : TriByte) (n : ℕ) → IsWithin t u → byte_constant u ≡ Some n → byte_constant t ≡ Some n
constant_within t u n w h =
    let m = bytes_are_sets.member t in
    let first : t.value ≡ n = constant_member u n t.value m.0 h (w t.value m.0 m.1) in
    let same : t ≡ u = bytes_are_their_bits.from_sets t u w (λ x small has.
    subst (Has t) (first ∙ sym (constant_member u n x small h has)) m.1) in
    ap byte_constant same ∙ h

pub fits_small : (z : ℤ) → FitsSigned w16 z → cast_unsigned w16 z < 65536
fits_small z h = grind (arith, ints)

pub signed_small : (x y : ℕ) → x < 256 → y < 256 → cast_unsigned w16 (cast_signed w8 x *ℤ cast_signed w8 y) < 65536
signed_small x y hx hy =
    fits_small (cast_signed w8 x *ℤ cast_signed w8 y) (fits_signed_mul w16 (cast_signed w8 x) (cast_signed w8 y) 128 128 (abs_signed x hx) (abs_signed y hy) (omega arith))

pub mixed_small : (x y : ℕ) → x < 256 → y < 256 → cast_unsigned w16 (cast_signed w8 x *ℤ pos y) < 65536
mixed_small x y hx hy =
    fits_small (cast_signed w8 x *ℤ pos y) (fits_signed_mul w16 (cast_signed w8 x) (pos y) 128 255 (abs_signed x hx) (omega arith) (omega arith))

pub word_small : (op : Mul) (x y : ℕ) → x < 256 → y < 256 → word_of op x y < 65536
word_small Mul' x y hx hy = product_of_bytes x y hx hy
word_small Muls x y hx hy = signed_small x y hx hy
word_small Mulsu x y hx hy = mixed_small x y hx hy
word_small Fmul x y hx hy = product_of_bytes x y hx hy
word_small Fmuls x y hx hy = signed_small x y hx hy
word_small Fmulsu x y hx hy = mixed_small x y hx hy

pub result_small : (op : Mul) (x y : ℕ) → x < 256 → y < 256 → result_of op x y < 65536
result_small op x y hx hy = go (is_fractional op) where
  go : (doubled : Bool) → cond doubled (2 * word_of op x y % 65536) (word_of op x y) < 65536
  go true = omega arith
  go false = word_small op x y hx hy

constants_cover : (op : Mul) (s : TriByte) (x y w : ℕ) → x < 256 → y < 256 → Has s w
    → CoversWord (product_of_constants op (Some x) (Some y) s) (result_of op x y) (flags_of_product op x y w)
constants_cover op s x y w hx hy hs =
    let r = result_of op x y in
    let small = result_small op x y hx hy in
    let carry = leb 32768 (word_of op x y) in
    let none = eqb r 0 in (
      has_known (r % 256) (omega arith),
      has_known (r / 256) (omega arith),
      written_has s (tri_bit (from_bool carry)) (tri_bit (from_bool none)) carry none w (bit_permits carry) (bit_permits none) hs,
    )

unknown_covers : (op : Mul) (s : TriByte) (x y w : ℕ) → Has s w
    → CoversWord ((byte_any, byte_any), carry_and_zero Any Any s) (result_of op x y) (flags_of_product op x y w)
unknown_covers op s x y w hs =
    let r = result_of op x y in
    (any_has (r % 256), any_has (r / 256), written_has s Any Any (leb 32768 (word_of op x y)) (eqb r 0) w tt tt hs)

operands_cover : (op : Mul) (a b : Option ℕ) (s : TriByte) (x y w : ℕ) → x < 256 → y < 256 → ((n : ℕ) → a ≡ Some n → x ≡ n) → ((n : ℕ) → b ≡ Some n → y ≡ n) → Has s w
    → CoversWord (product_of_constants op a b s) (result_of op x y) (flags_of_product op x y w)
operands_cover op (Some m) (Some n) s x y w hx hy ha hb hs =
    subst (λ (k : ℕ). CoversWord (product_of_constants op (Some k) (Some n) s) (result_of op x y) (flags_of_product op x y w)) (ha m refl)
    (subst (λ (k : ℕ). CoversWord (product_of_constants op (Some x) (Some k) s) (result_of op x y) (flags_of_product op x y w)) (hb n refl)
    (constants_cover op s x y w hx hy hs))
operands_cover op (Some m) None s x y w hx hy ha hb hs = unknown_covers op s x y w hs
operands_cover op None b s x y w hx hy ha hb hs = unknown_covers op s x y w hs

pub all_products_cover : ProductsCover
all_products_cover = record {
  products = λ op a b s x y w hx hy ha hb hs.
      operands_cover op (byte_constant a) (byte_constant b) s x y w hx hy (λ n h. constant_member a n x hx h ha) (λ n h. constant_member b n y hy h hb) hs;
}

-- if the greater operands are constant, the others are equal; else all is unknown
unknown_within : (op : Mul) (a b : Option ℕ) (s s' : TriByte) → IsWithin s s'
    → IsAnswerWithin (product_of_constants op a b s) ((byte_any, byte_any), carry_and_zero Any Any s')
unknown_within op (Some x) (Some y) s s' ws = (
  ((λ k h p. any_has k), (λ k h p. any_has k)),
  carry_and_zero_within (tri_bit (from_bool (leb 32768 (word_of op x y)))) (tri_bit (from_bool (eqb (result_of op x y) 0))) Any Any s s' (λ n p. tt) (λ n p. tt) ws,
)
unknown_within op (Some x) None s s' ws = (((λ k h p. p), (λ k h p. p)), carry_and_zero_within Any Any Any Any s s' (λ n p. tt) (λ n p. tt) ws)
unknown_within op None b s s' ws = (((λ k h p. p), (λ k h p. p)), carry_and_zero_within Any Any Any Any s s' (λ n p. tt) (λ n p. tt) ws)

constants_within : (op : Mul) (x y : ℕ) (s s' : TriByte) → IsWithin s s'
    → IsAnswerWithin (product_of_constants op (Some x) (Some y) s) (product_of_constants op (Some x) (Some y) s')
constants_within op x y s s' ws =
    let c = tri_bit (from_bool (leb 32768 (word_of op x y))) in
    let z = tri_bit (from_bool (eqb (result_of op x y) 0)) in
    (((λ k h p. p), (λ k h p. p)), carry_and_zero_within c z c z s s' (λ n p. p) (λ n p. p) ws)

operands_within : (op : Mul) (a b a' b' : Option ℕ) (s s' : TriByte) → ((n : ℕ) → a' ≡ Some n → a ≡ Some n) → ((n : ℕ) → b' ≡ Some n → b ≡ Some n) → IsWithin s s'
    → IsAnswerWithin (product_of_constants op a b s) (product_of_constants op a' b' s')
operands_within op a b (Some m) (Some n) s s' ha hb ws =
    subst (λ (k : Option ℕ). IsAnswerWithin (product_of_constants op k b s) (product_of_constants op (Some m) (Some n) s')) (sym (ha m refl))
    (subst (λ (k : Option ℕ). IsAnswerWithin (product_of_constants op (Some m) k s) (product_of_constants op (Some m) (Some n) s')) (sym (hb n refl))
    (constants_within op m n s s' ws))
operands_within op a b (Some m) None s s' ha hb ws = unknown_within op a b s s' ws
operands_within op a b None b' s s' ha hb ws = unknown_within op a b s s' ws

pub products_within : (op : Mul) (a b s a' b' s' : TriByte) → IsWithin a a' → IsWithin b b' → IsWithin s s'
    → IsAnswerWithin (abs_mul op a b s) (abs_mul op a' b' s')
products_within op a b s a' b' s' wa wb ws =
    operands_within op (byte_constant a) (byte_constant b) (byte_constant a') (byte_constant b') s s'
    (λ n h. constant_within a a' n wa h) (λ n h. constant_within b b' n wb h) ws
