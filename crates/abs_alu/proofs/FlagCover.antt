-- The flags of a result cover the machine's.
use Rattle.std.proofs.Common.{◌≡◌, refl, subst, ℕ, zero, suc, ◌+◌, ◌%◌, ◌<◌, arith, min, Bool, true, false, eqb, leb, ◌&&◌}
use Rattle.std.proofs.lemmas.Nat.Bits.{bit_at-lt}
use Rattle.std.specs.Int.{bit_at, from_bool}
use Rattle.avr_alu.proofs.SumFlags.{top}
use Rattle.bit_domain.proofs.Members.{bits_within}
use Rattle.avr_model.specs.Sreg.{with_flags, flag, xor}
use Rattle.avr_model.specs.Bitwise.{flags_of_result}
use Rattle.bit_domain.specs.declared.bits.Tri.{Tri}
use Rattle.bit_domain.specs.declared.bytes.TriByte.{TriByte}
use Rattle.bit_domain.specs.Tri.{Permits, IsTriWithin, tri_xor}
use Rattle.bit_domain.specs.TriByte.{tri_at, Has, IsWithin, byte_known}
use Rattle.bit_domain.proofs.AllLaws.{bits_cover, bytes_are_sets, logic_covers, logic_is_monotone}
use Rattle.abs_alu.specs.Flags.{flag_bit, tri_flags, tri_zero, result_flags}

pub below_two : (b : Bool) → from_bool b < 2
below_two true = omega arith
below_two false = omega arith

pub xor_is : (a b : Bool) → (from_bool a + from_bool b) % 2 ≡ from_bool (xor a b)
xor_is true true = refl
xor_is true false = refl
xor_is false true = refl
xor_is false false = refl

pub both_is : (a b : Bool) → min (from_bool a) (from_bool b) ≡ from_bool (a && b)
both_is true true = refl
both_is true false = refl
both_is false true = refl
both_is false false = refl

-- a flag is its bit
pub bit_is : (n : ℕ) → n < 2 → n ≡ from_bool (eqb n 1)
bit_is zero h = refl
bit_is (suc zero) h = refl
bit_is (suc (suc n)) h = absurd (omega arith)

pub flag_is : (w i : ℕ) → bit_at w i ≡ from_bool (flag w i)
flag_is w i = bit_is (bit_at w i) (bit_at-lt w i)

-- what holds of each number below 8
pub below_eight : (P : ℕ → Type 0) → P 0 → P 1 → P 2 → P 3 → P 4 → P 5 → P 6 → P 7 → (i : ℕ) → i < 8 → P i
below_eight P a b c d e f g h zero lt = a
below_eight P a b c d e f g h (suc zero) lt = b
below_eight P a b c d e f g h (suc (suc zero)) lt = c
below_eight P a b c d e f g h (suc (suc (suc zero))) lt = d
below_eight P a b c d e f g h (suc (suc (suc (suc zero)))) lt = e
below_eight P a b c d e f g h (suc (suc (suc (suc (suc zero))))) lt = f
below_eight P a b c d e f g h (suc (suc (suc (suc (suc (suc zero)))))) lt = g
below_eight P a b c d e f g h (suc (suc (suc (suc (suc (suc (suc zero))))))) lt = h
below_eight P a b c d e f g h (suc (suc (suc (suc (suc (suc (suc (suc i)))))))) lt = absurd (omega arith)

pub flags_cover : (c z n v h : Tri) (s : TriByte) (bc bz bn bv bh : Bool) (w : ℕ)
    → Permits c (from_bool bc) → Permits z (from_bool bz) → Permits n (from_bool bn) → Permits v (from_bool bv) → Permits h (from_bool bh)
    → Has s w → Has (tri_flags c z n v h s) (with_flags bc bz bn bv bh w)
flags_cover c z n v h s bc bz bn bv bh w pc pz pn pv ph has =
    let word = with_flags bc bz bn bv bh w in
    let lc = below_two bc in
    let lz = below_two bz in
    let ln = below_two bn in
    let lv = below_two bv in
    let ls = below_two (xor bn bv) in
    let lh = below_two bh in
    let e0 : from_bool bc ≡ bit_at word 0 = omega arith in
    let e1 : from_bool bz ≡ bit_at word 1 = omega arith in
    let e2 : from_bool bn ≡ bit_at word 2 = omega arith in
    let e3 : from_bool bv ≡ bit_at word 3 = omega arith in
    let e4 : from_bool (xor bn bv) ≡ bit_at word 4 = omega arith in
    let e5 : from_bool bh ≡ bit_at word 5 = omega arith in
    let e6 : bit_at w 6 ≡ bit_at word 6 = omega arith in
    let e7 : bit_at w 7 ≡ bit_at word 7 = omega arith in
    let sign : Permits (tri_xor n v) (from_bool (xor bn bv)) =
    subst (Permits (tri_xor n v)) (xor_is bn bv) (bits_cover.xors n v (from_bool bn) (from_bool bv) ln lv pn pv) in
    bytes_are_sets.built (flag_bit c z n v h s) word (below_eight (λ i. Permits (flag_bit c z n v h s i) (bit_at word i))
    (subst (Permits c) e0 pc)
    (subst (Permits z) e1 pz)
    (subst (Permits n) e2 pn)
    (subst (Permits v) e3 pv)
    (subst (Permits (tri_xor n v)) e4 sign)
    (subst (Permits h) e5 ph)
    (subst (Permits (tri_at s 6)) e6 (has 6 (omega arith)))
    (subst (Permits (tri_at s 7)) e7 (has 7 (omega arith))))

pub flags_within : (c z n v h c' z' n' v' h' : Tri) (s s' : TriByte)
    → IsTriWithin c c' → IsTriWithin z z' → IsTriWithin n n' → IsTriWithin v v' → IsTriWithin h h' → IsWithin s s'
    → IsWithin (tri_flags c z n v h s) (tri_flags c' z' n' v' h' s')
flags_within c z n v h c' z' n' v' h' s s' wc wz wn wv wh ws =
    bytes_are_sets.built_within (flag_bit c z n v h s) (flag_bit c' z' n' v' h' s')
    (below_eight (λ i. IsTriWithin (flag_bit c z n v h s i) (flag_bit c' z' n' v' h' s' i)) wc wz wn wv
    (bits_cover.xors_within n v n' v' wn wv) wh (bits_within s s' ws 6 (omega arith)) (bits_within s s' ws 7 (omega arith)))

-- a known byte
pub has_known : (n : ℕ) → n < 256 → Has (byte_known n) n
has_known n h = (bytes_are_sets.known n n h h).1 refl

pub same_within : (t : TriByte) → IsWithin t t
same_within t x small has = has

pub zero_covers : (r : TriByte) (x : ℕ) → x < 256 → Has r x → Permits (tri_zero r) (from_bool (eqb x 0))
zero_covers r x small has = logic_covers.tests r (byte_known 0) x 0 small (omega arith) has (has_known 0 (omega arith))

pub zero_within : (r r' : TriByte) → IsWithin r r' → IsTriWithin (tri_zero r) (tri_zero r')
zero_within r r' w = logic_is_monotone.tests r (byte_known 0) r' (byte_known 0) w (same_within (byte_known 0))

pub top_covers : (r : TriByte) (x : ℕ) → x < 256 → Has r x → Permits (tri_at r 7) (from_bool (leb 128 x))
top_covers r x small has = subst (Permits (tri_at r 7)) (top x small) (has 7 (omega arith))

pub kept_covers : (s : TriByte) (w i : ℕ) → i < 8 → Has s w → Permits (tri_at s i) (from_bool (flag w i))
kept_covers s w i h has = subst (Permits (tri_at s i)) (flag_is w i) (has i h)

pub result_covers : (c v : Tri) (r s : TriByte) (bc bv : Bool) (x w : ℕ) → x < 256 → Permits c (from_bool bc) → Permits v (from_bool bv)
    → Has r x → Has s w → Has (result_flags c v r s) (flags_of_result bc bv x w)
result_covers c v r s bc bv x w small pc pv hr hs =
    flags_cover c (tri_zero r) (tri_at r 7) v (tri_at s 5) s bc (eqb x 0) (leb 128 x) bv (flag w 5) w
    pc (zero_covers r x small hr) (top_covers r x small hr) pv (kept_covers s w 5 (omega arith) hs) hs

pub result_within : (c v c' v' : Tri) (r s r' s' : TriByte) → IsTriWithin c c' → IsTriWithin v v' → IsWithin r r' → IsWithin s s'
    → IsWithin (result_flags c v r s) (result_flags c' v' r' s')
result_within c v c' v' r s r' s' wc wv wr ws =
    flags_within c (tri_zero r) (tri_at r 7) v (tri_at s 5) c' (tri_zero r') (tri_at r' 7) v' (tri_at s' 5) s s'
    wc (zero_within r r' wr) (bits_within r r' wr 7 (omega arith)) wv (bits_within s s' ws 5 (omega arith)) ws
