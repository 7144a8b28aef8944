-- The operations are monotone.
use Rattle.std.proofs.Common.{ℕ, ◌+◌, arith, Bool, true, false, eqb, cond}
use Rattle.bit_domain.proofs.Members.{bits_within}
use Rattle.avr_model.specs.declared.operation.Logic.{Logic}
use Rattle.avr_model.specs.declared.operation.Logic.TheVariants.{And, Or, Eor}
use Rattle.avr_model.specs.declared.operation.Shift.{Shift}
use Rattle.avr_model.specs.declared.operation.Shift.TheVariants.{Lsr, Ror, Asr}
use Rattle.bit_domain.specs.declared.bits.Tri.{Tri}
use Rattle.bit_domain.specs.declared.bits.Tri.TheVariants.{Zero, One}
use Rattle.bit_domain.specs.declared.bytes.TriByte.{TriByte}
use Rattle.bit_domain.specs.declared.sums.Sum.{Sum}
use Rattle.bit_domain.specs.Tri.{IsTriWithin, tri_and, tri_xor}
use Rattle.bit_domain.specs.TriByte.{tri_at, IsWithin, byte_known}
use Rattle.bit_domain.specs.Logic.{byte_not, byte_equal}
use Rattle.bit_domain.specs.Sums.{byte_sum, byte_difference, IsSumWithin}
use Rattle.bit_domain.proofs.AllLaws.{bits_cover, bytes_are_sets, sums_are_monotone, logic_is_monotone}
use Rattle.abs_alu.specs.Flags.{tri_zero}
use Rattle.abs_alu.specs.Sums.{sum_flags, zero_after}
use Rattle.abs_alu.specs.Bitwise.{logic_bits, step_bits, step_limit, top_bit, shift_bits}
use Rattle.abs_alu.specs.Words.{word_answer, abs_wide}
use Rattle.abs_alu.specs.Laws.{OperationsAreMonotone, AreBothWithin, IsAnswerWithin}
use Rattle.abs_alu.proofs.FlagCover.{below_eight, flags_within, result_within, zero_within, same_within}
use Rattle.abs_alu.proofs.ProductCover.{products_within}

sum_flags_within : (m n : Sum) (z z' : Tri) (s s' : TriByte) → IsSumWithin m n → IsTriWithin z z' → IsWithin s s'
    → IsWithin (sum_flags m z s) (sum_flags n z' s')
sum_flags_within m n z z' s s' w wz ws =
    flags_within m.out z (tri_at m.bits 7) (tri_xor m.into_top m.out) m.half n.out z' (tri_at n.bits 7) (tri_xor n.into_top n.out) n.half s s'
    w.out wz (bits_within m.bits n.bits w.bits 7 (omega arith)) (bits_cover.xors_within m.into_top m.out n.into_top n.out w.into_top w.out) w.half ws

zero_after_within : (keep_zero : Bool) (r r' s s' : TriByte) → IsWithin r r' → IsWithin s s' → IsTriWithin (zero_after keep_zero r s) (zero_after keep_zero r' s')
zero_after_within true r r' s s' wr ws =
    bits_cover.ands_within (tri_zero r) (tri_at s 1) (tri_zero r') (tri_at s' 1) (zero_within r r' wr) (bits_within s s' ws 1 (omega arith))
zero_after_within false r r' s s' wr ws = zero_within r r' wr

logic_within : (op : Logic) (a b a' b' : TriByte) → IsWithin a a' → IsWithin b b' → IsWithin (logic_bits op a b) (logic_bits op a' b')
logic_within And a b a' b' wa wb = logic_is_monotone.ands a b a' b' wa wb
logic_within Or a b a' b' wa wb = logic_is_monotone.ors a b a' b' wa wb
logic_within Eor a b a' b' wa wb = logic_is_monotone.eors a b a' b' wa wb

known_within : (n : ℕ) → IsWithin (byte_known n) (byte_known n)
known_within n = same_within (byte_known n)

step_within : (up : Bool) (a a' : TriByte) → IsWithin a a' → IsWithin (step_bits up a) (step_bits up a')
step_within true a a' w = (sums_are_monotone.sums a (byte_known 1) a' (byte_known 1) Zero Zero w (known_within 1) (λ n p. p)).bits
step_within false a a' w = (sums_are_monotone.differences a (byte_known 1) a' (byte_known 1) Zero Zero w (known_within 1) (λ n p. p)).bits

top_within : (op : Shift) (a s a' s' : TriByte) → IsWithin a a' → IsWithin s s' → IsTriWithin (top_bit op a s) (top_bit op a' s')
top_within Lsr a s a' s' wa ws = λ n p. p
top_within Ror a s a' s' wa ws = bits_within s s' ws 0 (omega arith)
top_within Asr a s a' s' wa ws = bits_within a a' wa 7 (omega arith)

shift_within : (a a' : TriByte) (top top' : Tri) → IsWithin a a' → IsTriWithin top top' → IsWithin (shift_bits a top) (shift_bits a' top')
shift_within a a' top top' wa wt =
    let f : ℕ → Tri = λ i. cond (eqb i 7) top (tri_at a (i + 1)) in
    let g : ℕ → Tri = λ i. cond (eqb i 7) top' (tri_at a' (i + 1)) in
    bytes_are_sets.built_within f g (below_eight (λ i. IsTriWithin (f i) (g i))
    (bits_within a a' wa 1 (omega arith)) (bits_within a a' wa 2 (omega arith)) (bits_within a a' wa 3 (omega arith)) (bits_within a a' wa 4 (omega arith))
    (bits_within a a' wa 5 (omega arith)) (bits_within a a' wa 6 (omega arith)) (bits_within a a' wa 7 (omega arith)) wt)

word_within : (low high low' high' : Sum) (s s' : TriByte) → IsSumWithin low low' → IsSumWithin high high' → IsWithin s s'
    → IsAnswerWithin (word_answer low high s) (word_answer low' high' s')
word_within low high low' high' s s' wl wh ws = (
  (wl.bits, wh.bits),
  flags_within high.out (tri_and (tri_zero low.bits) (tri_zero high.bits)) (tri_at high.bits 7) (tri_xor high.into_top high.out) (tri_at s 5)
      high'.out (tri_and (tri_zero low'.bits) (tri_zero high'.bits)) (tri_at high'.bits 7) (tri_xor high'.into_top high'.out) (tri_at s' 5) s s'
      wh.out
      (bits_cover.ands_within (tri_zero low.bits) (tri_zero high.bits) (tri_zero low'.bits) (tri_zero high'.bits) (zero_within low.bits low'.bits wl.bits) (zero_within high.bits high'.bits wh.bits))
      (bits_within high.bits high'.bits wh.bits 7 (omega arith))
      (bits_cover.xors_within high.into_top high.out high'.into_top high'.out wh.into_top wh.out)
      (bits_within s s' ws 5 (omega arith)) ws,
)

wide_within : (up : Bool) (a a' : TriByte × TriByte) (k : ℕ) (s s' : TriByte) → AreBothWithin a a' → IsWithin s s'
    → IsAnswerWithin (abs_wide up a k s) (abs_wide up a' k s')
wide_within true a a' k s s' wa ws =
    let low = byte_sum a.0 (byte_known k) Zero in
    let low' = byte_sum a'.0 (byte_known k) Zero in
    let first = sums_are_monotone.sums a.0 (byte_known k) a'.0 (byte_known k) Zero Zero wa.0 (known_within k) (λ n p. p) in
    let second = sums_are_monotone.sums a.1 (byte_known 0) a'.1 (byte_known 0) low.out low'.out wa.1 (known_within 0) first.out in
    word_within low (byte_sum a.1 (byte_known 0) low.out) low' (byte_sum a'.1 (byte_known 0) low'.out) s s' first second ws
wide_within false a a' k s s' wa ws =
    let low = byte_difference a.0 (byte_known k) Zero in
    let low' = byte_difference a'.0 (byte_known k) Zero in
    let first = sums_are_monotone.differences a.0 (byte_known k) a'.0 (byte_known k) Zero Zero wa.0 (known_within k) (λ n p. p) in
    let second = sums_are_monotone.differences a.1 (byte_known 0) a'.1 (byte_known 0) low.out low'.out wa.1 (known_within 0) first.out in
    word_within low (byte_difference a.1 (byte_known 0) low.out) low' (byte_difference a'.1 (byte_known 0) low'.out) s s' first second ws

pub all_are_monotone : OperationsAreMonotone
all_are_monotone = record {
  sums = λ a b s a' b' s' carry carry' wa wb ws wc.
      let m = byte_sum a b carry in
      let n = byte_sum a' b' carry' in
      let w = sums_are_monotone.sums a b a' b' carry carry' wa wb wc in
      (w.bits, sum_flags_within m n (tri_zero m.bits) (tri_zero n.bits) s s' w (zero_within m.bits n.bits w.bits) ws);
  differences = λ a b s a' b' s' borrow borrow' keep_zero wa wb ws wc.
      let m = byte_difference a b borrow in
      let n = byte_difference a' b' borrow' in
      let w = sums_are_monotone.differences a b a' b' borrow borrow' wa wb wc in
      (w.bits, sum_flags_within m n (zero_after keep_zero m.bits s) (zero_after keep_zero n.bits s') s s' w (zero_after_within keep_zero m.bits n.bits s s' w.bits ws) ws);
  logics = λ op a b s a' b' s' wa wb ws.
      let r = logic_within op a b a' b' wa wb in
      (r, result_within (tri_at s 0) Zero (tri_at s' 0) Zero (logic_bits op a b) s (logic_bits op a' b') s' (bits_within s s' ws 0 (omega arith)) (λ n p. p) r ws);
  coms = λ a s a' s' wa ws.
      let r = logic_is_monotone.nots a a' wa in
      (r, result_within One Zero One Zero (byte_not a) s (byte_not a') s' (λ n p. p) (λ n p. p) r ws);
  steps = λ up a s a' s' wa ws.
      let r = step_within up a a' wa in
      let limit = byte_known (step_limit up) in (
        r,
        result_within (tri_at s 0) (byte_equal (step_bits up a) limit) (tri_at s' 0) (byte_equal (step_bits up a') limit) (step_bits up a) s (step_bits up a') s'
            (bits_within s s' ws 0 (omega arith)) (logic_is_monotone.tests (step_bits up a) limit (step_bits up a') limit r (same_within limit)) r ws,
      );
  shifts = λ op a s a' s' wa ws.
      let bits = shift_bits a (top_bit op a s) in
      let bits' = shift_bits a' (top_bit op a' s') in
      let r = shift_within a a' (top_bit op a s) (top_bit op a' s') wa (top_within op a s a' s' wa ws) in
      let carry = bits_within a a' wa 0 (omega arith) in (
        r,
        result_within (tri_at a 0) (tri_xor (tri_at bits 7) (tri_at a 0)) (tri_at a' 0) (tri_xor (tri_at bits' 7) (tri_at a' 0)) bits s bits' s'
            carry (bits_cover.xors_within (tri_at bits 7) (tri_at a 0) (tri_at bits' 7) (tri_at a' 0) (bits_within bits bits' r 7 (omega arith)) carry) r ws,
      );
  products = products_within;
  words = wide_within;
}
