-- Bit operations, steps and shifts with their flags cover the machine's.
use Rattle.std.proofs.Common.{◌≡◌, ◌∙◌, subst, refl, ℕ, ◌+◌, ◌-◌, ◌*◌, ◌/◌, ◌%◌, ◌<◌, arith, Bool, true, false, eqb, leb, cond}
use Rattle.std.proofs.lemmas.Nat.{and_le_l, or_lt, xor_lt}
use Rattle.std.specs.Int.{bit_at, from_bool}
use Rattle.avr_model.specs.declared.operation.Logic.{Logic}
use Rattle.avr_model.specs.declared.operation.Logic.TheVariants.{And, Or, Eor}
use Rattle.avr_model.specs.declared.operation.Shift.{Shift}
use Rattle.avr_model.specs.declared.operation.Shift.TheVariants.{Lsr, Ror, Asr}
use Rattle.avr_model.specs.Sreg.{flag, xor}
use Rattle.avr_model.specs.Bitwise.{logic_of, step_of, step_overflows, top_of, shift_of}
use Rattle.bit_domain.specs.declared.bits.Tri.{Tri}
use Rattle.bit_domain.specs.declared.bits.Tri.TheVariants.{Zero, One}
use Rattle.bit_domain.specs.declared.bytes.TriByte.{TriByte}
use Rattle.bit_domain.specs.Tri.{Permits, tri_xor}
use Rattle.bit_domain.specs.TriByte.{tri_at, Has, byte_known}
use Rattle.bit_domain.specs.Logic.{byte_not, byte_equal}
use Rattle.bit_domain.proofs.AllLaws.{bits_cover, bytes_are_sets, logic_covers, sums_cover}
use Rattle.abs_alu.specs.Bitwise.{logic_bits, step_bits, step_limit, top_bit, shift_bits}
use Rattle.abs_alu.specs.Laws.{BitwiseCovers}
use Rattle.abs_alu.proofs.FlagCover.{below_eight, below_two, xor_is, bit_is, has_known, kept_covers, top_covers, result_covers}

pub logic_small : (op : Logic) (x y : ℕ) → x < 256 → y < 256 → logic_of op x y < 256
logic_small And x y hx hy = omega (arith, and_le_l x y)
logic_small Or x y hx hy = or_lt 8 x y hx hy
logic_small Eor x y hx hy = xor_lt 8 x y hx hy

logic_has : (op : Logic) (a b : TriByte) (x y : ℕ) → Has a x → Has b y → Has (logic_bits op a b) (logic_of op x y)
logic_has And a b x y ha hb = logic_covers.ands a b x y ha hb
logic_has Or a b x y ha hb = logic_covers.ors a b x y ha hb
logic_has Eor a b x y ha hb = logic_covers.eors a b x y ha hb

step_has : (up : Bool) (a : TriByte) (x : ℕ) → x < 256 → Has a x → Has (step_bits up a) (step_of up x)
step_has true a x small has =
    let e : (x + 1 + 0) % 256 ≡ (x + 1) % 256 = omega arith in
    subst (Has (step_bits true a)) e (sums_cover.sums a (byte_known 1) Zero x 1 0 small (omega arith) (omega arith) has (has_known 1 (omega arith)) refl).bits
step_has false a x small has =
    let e : (256 + x - (1 + 0)) % 256 ≡ (x + 255) % 256 = omega arith in
    subst (Has (step_bits false a)) e (sums_cover.differences a (byte_known 1) Zero x 1 0 small (omega arith) (omega arith) has (has_known 1 (omega arith)) refl).bits

pub step_small : (up : Bool) (x : ℕ) → step_of up x < 256
step_small true x = omega arith
step_small false x = omega arith

limit_covers : (up : Bool) (r : TriByte) (x : ℕ) → x < 256 → Has r x → Permits (byte_equal r (byte_known (step_limit up))) (from_bool (step_overflows up x))
limit_covers true r x small has = logic_covers.tests r (byte_known 0x80) x 0x80 small (omega arith) has (has_known 0x80 (omega arith))
limit_covers false r x small has = logic_covers.tests r (byte_known 0x7F) x 0x7F small (omega arith) has (has_known 0x7F (omega arith))

pub top_small : (op : Shift) (x w : ℕ) → x < 256 → top_of op x w < 2
top_small Lsr x w h = omega arith
top_small Ror x w h = below_two (flag w 0)
top_small Asr x w h = omega arith

top_has : (op : Shift) (a s : TriByte) (x w : ℕ) → x < 256 → Has a x → Has s w → Permits (top_bit op a s) (top_of op x w)
top_has Lsr a s x w small ha hs = refl
top_has Ror a s x w small ha hs = kept_covers s w 0 (omega arith) hs
top_has Asr a s x w small ha hs =
    let e : bit_at x 7 ≡ x / 128 = omega arith in
    subst (Permits (tri_at a 7)) e (ha 7 (omega arith))

shift_has : (a : TriByte) (top : Tri) (x t : ℕ) → x < 256 → t < 2 → Has a x → Permits top t → Has (shift_bits a top) (x / 2 + 128 * t)
shift_has a top x t small ht has p =
    let r = x / 2 + 128 * t in
    let e0 : bit_at x 1 ≡ bit_at r 0 = omega arith in
    let e1 : bit_at x 2 ≡ bit_at r 1 = omega arith in
    let e2 : bit_at x 3 ≡ bit_at r 2 = omega arith in
    let e3 : bit_at x 4 ≡ bit_at r 3 = omega arith in
    let e4 : bit_at x 5 ≡ bit_at r 4 = omega arith in
    let e5 : bit_at x 6 ≡ bit_at r 5 = omega arith in
    let e6 : bit_at x 7 ≡ bit_at r 6 = omega arith in
    let e7 : t ≡ bit_at r 7 = omega arith in
    let f : ℕ → Tri = λ i. cond (eqb i 7) top (tri_at a (i + 1)) in
    bytes_are_sets.built f r (below_eight (λ i. Permits (f i) (bit_at r i))
    (subst (Permits (tri_at a 1)) e0 (has 1 (omega arith)))
    (subst (Permits (tri_at a 2)) e1 (has 2 (omega arith)))
    (subst (Permits (tri_at a 3)) e2 (has 3 (omega arith)))
    (subst (Permits (tri_at a 4)) e3 (has 4 (omega arith)))
    (subst (Permits (tri_at a 5)) e4 (has 5 (omega arith)))
    (subst (Permits (tri_at a 6)) e5 (has 6 (omega arith)))
    (subst (Permits (tri_at a 7)) e6 (has 7 (omega arith)))
    (subst (Permits top) e7 p))

pub all_bitwise_cover : BitwiseCovers
all_bitwise_cover = record {
  logics = λ op a b s x y w hx hy ha hb hs.
      let r = logic_has op a b x y ha hb in (
        r,
        result_covers (tri_at s 0) Zero (logic_bits op a b) s (flag w 0) false (logic_of op x y) w (logic_small op x y hx hy)
            (kept_covers s w 0 (omega arith) hs) refl r hs,
      );
  coms = λ a s x w hx ha hs.
      let r = logic_covers.nots a x hx ha in
      (r, result_covers One Zero (byte_not a) s true false (255 - x) w (omega arith) refl refl r hs);
  steps = λ up a s x w hx ha hs.
      let r = step_has up a x hx ha in
      let small = step_small up x in (
        r,
        result_covers (tri_at s 0) (byte_equal (step_bits up a) (byte_known (step_limit up))) (step_bits up a) s (flag w 0) (step_overflows up (step_of up x)) (step_of up x) w small
            (kept_covers s w 0 (omega arith) hs) (limit_covers up (step_bits up a) (step_of up x) small r) r hs,
      );
  shifts = λ op a s x w hx ha hs.
      let ht = top_small op x w hx in
      let r = shift_has a (top_bit op a s) x (top_of op x w) hx ht ha (top_has op a s x w hx ha hs) in
      let res = shift_of op x w in
      let small : res < 256 = omega arith in
      let carry = eqb (x % 2) 1 in
      let lowest : bit_at x 0 ≡ x % 2 = omega arith in
      let is_carry : bit_at x 0 ≡ from_bool carry = lowest ∙ bit_is (x % 2) (omega arith) in
      let pc = subst (Permits (tri_at a 0)) is_carry (ha 0 (omega arith)) in
      let bits = shift_bits a (top_bit op a s) in
      let pv = subst (Permits (tri_xor (tri_at bits 7) (tri_at a 0))) (xor_is (leb 128 res) carry)
      (bits_cover.xors (tri_at bits 7) (tri_at a 0) (from_bool (leb 128 res)) (from_bool carry) (below_two (leb 128 res)) (below_two carry) (top_covers bits res small r) pc) in
      (r, result_covers (tri_at a 0) (tri_xor (tri_at bits 7) (tri_at a 0)) bits s carry (xor (leb 128 res) carry) res w small pc pv r hs);
}
