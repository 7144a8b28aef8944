-- Sums and differences with their flags cover the machine's.
use Rattle.std.proofs.Common.{◌≡◌, subst, sym, ℕ, ◌+◌, ◌/◌, ◌%◌, ◌<◌, arith, Bool, true, false, eqb, leb, ltb, ◌&&◌, ◌||◌, not}
use Rattle.std.proofs.Math.Bool.{and-true}
use Rattle.std.proofs.lemmas.Int.{ints}
use Rattle.std.specs.Int.{from_bool}
use Rattle.avr_model.specs.Sreg.{flag}
use Rattle.avr_model.specs.Sums.{sum_of, signed_sum_of, overflows, flags_of_sum, difference_of, signed_difference_of, flags_of_difference}
use Rattle.bit_domain.specs.declared.bytes.TriByte.{TriByte}
use Rattle.bit_domain.specs.declared.sums.Sum.{Sum}
use Rattle.bit_domain.specs.Tri.{Permits, tri_xor, tri_and}
use Rattle.bit_domain.specs.TriByte.{tri_at, Has}
use Rattle.bit_domain.specs.Sums.{byte_sum, byte_difference, CoversSum, CoversDifference}
use Rattle.bit_domain.proofs.AllLaws.{bits_cover}
use Rattle.bit_domain.proofs.AllLaws.{sums_cover as byte_sums_cover}
use Rattle.abs_alu.specs.Flags.{tri_zero}
use Rattle.abs_alu.specs.Sums.{sum_flags, zero_after}
use Rattle.abs_alu.specs.Laws.{SumsCover}
use Rattle.abs_alu.proofs.FlagCover.{flags_cover, below_two, both_is, zero_covers, top_covers, kept_covers}

carry_is : (x y : ℕ) (c : Bool) → x < 256 → y < 256 → (x + y + from_bool c) / 256 ≡ from_bool (leb 256 (sum_of x y c))
carry_is x y c hx hy = grind arith

half_is : (x y : ℕ) (c : Bool) → (x % 16 + y % 16 + from_bool c) / 16 ≡ from_bool (leb 16 (sum_of (x % 16) (y % 16) c))
half_is x y c = grind arith

overflow_is : (x y : ℕ) (c : Bool) → x < 256 → y < 256
    → ((x % 128 + y % 128 + from_bool c) / 128 + (x + y + from_bool c) / 256) % 2 ≡ from_bool (overflows (signed_sum_of x y c))
overflow_is x y c hx hy = grind (arith, ints)

difference_overflow_is : (x y : ℕ) (c : Bool) → x < 256 → y < 256
    → (from_bool (ltb (x % 128) (y % 128 + from_bool c)) + from_bool (ltb x (y + from_bool c))) % 2 ≡ from_bool (overflows (signed_difference_of x y c))
difference_overflow_is x y true hx hy = grind (arith, ints)
difference_overflow_is x y false hx hy = grind (arith, ints)

sum_flags_cover : (m : Sum) (s : TriByte) (x y w : ℕ) (c : Bool) → x < 256 → y < 256 → CoversSum m x y (from_bool c) → Has s w
    → Has (sum_flags m (tri_zero m.bits) s) (flags_of_sum x y c w)
sum_flags_cover m s x y w c hx hy covers has =
    let r = sum_of x y c % 256 in
    let small : r < 256 = omega arith in
    let lc = below_two c in
    flags_cover m.out (tri_zero m.bits) (tri_at m.bits 7) (tri_xor m.into_top m.out) m.half s
    (leb 256 (sum_of x y c)) (eqb r 0) (leb 128 r) (overflows (signed_sum_of x y c)) (leb 16 (sum_of (x % 16) (y % 16) c)) w
    (subst (Permits m.out) (carry_is x y c hx hy) covers.out)
    (zero_covers m.bits r small covers.bits)
    (top_covers m.bits r small covers.bits)
    (subst (Permits (tri_xor m.into_top m.out)) (overflow_is x y c hx hy)
    (bits_cover.xors m.into_top m.out ((x % 128 + y % 128 + from_bool c) / 128) ((x + y + from_bool c) / 256) (omega arith) (omega arith) covers.into_top covers.out))
    (subst (Permits m.half) (half_is x y c) covers.half)
    has

-- Z of a difference, kept or not
zero_after_covers : (keep_zero : Bool) (r s : TriByte) (x w : ℕ) → x < 256 → Has r x → Has s w
    → Permits (zero_after keep_zero r s) (from_bool (eqb x 0 && (not keep_zero || flag w 1)))
zero_after_covers true r s x w small hr hs =
    subst (Permits (tri_and (tri_zero r) (tri_at s 1))) (both_is (eqb x 0) (flag w 1))
    (bits_cover.ands (tri_zero r) (tri_at s 1) (from_bool (eqb x 0)) (from_bool (flag w 1)) (below_two (eqb x 0)) (below_two (flag w 1))
    (zero_covers r x small hr) (kept_covers s w 1 (omega arith) hs))
zero_after_covers false r s x w small hr hs =
    subst (λ (b : Bool). Permits (tri_zero r) (from_bool b)) (sym (and-true (eqb x 0))) (zero_covers r x small hr)

difference_flags_cover : (m : Sum) (s : TriByte) (keep_zero : Bool) (x y w : ℕ) (c : Bool) → x < 256 → y < 256 → CoversDifference m x y (from_bool c) → Has s w
    → Has (sum_flags m (zero_after keep_zero m.bits s) s) (flags_of_difference x y c keep_zero w)
difference_flags_cover m s keep_zero x y w c hx hy covers has =
    let r = difference_of x y c in
    let small : r < 256 = omega arith in
    let top = ltb (x % 128) (y % 128 + from_bool c) in
    let out = ltb x (y + from_bool c) in
    flags_cover m.out (zero_after keep_zero m.bits s) (tri_at m.bits 7) (tri_xor m.into_top m.out) m.half s
    out (eqb r 0 && (not keep_zero || flag w 1)) (leb 128 r) (overflows (signed_difference_of x y c)) (ltb (x % 16) (y % 16 + from_bool c)) w
    covers.out
    (zero_after_covers keep_zero m.bits s r w small covers.bits has)
    (top_covers m.bits r small covers.bits)
    (subst (Permits (tri_xor m.into_top m.out)) (difference_overflow_is x y c hx hy)
    (bits_cover.xors m.into_top m.out (from_bool top) (from_bool out) (below_two top) (below_two out) covers.into_top covers.out))
    covers.half
    has

pub all_sums_cover : SumsCover
all_sums_cover = record {
  sums = λ a b s carry x y w c hx hy ha hb hs hc.
      let covers = byte_sums_cover.sums a b carry x y (from_bool c) hx hy (below_two c) ha hb hc in
      (covers.bits, sum_flags_cover (byte_sum a b carry) s x y w c hx hy covers hs);
  differences = λ a b s borrow keep_zero x y w c hx hy ha hb hs hc.
      let covers = byte_sums_cover.differences a b borrow x y (from_bool c) hx hy (below_two c) ha hb hc in
      (covers.bits, difference_flags_cover (byte_difference a b borrow) s keep_zero x y w c hx hy covers hs);
}
