-- Sums and differences of a word with their flags cover the machine's.
use Rattle.std.proofs.Common.{◌≡◌, subst, refl, ℕ, ◌+◌, ◌-◌, ◌*◌, ◌/◌, ◌%◌, ◌<◌, min, arith, Bool, true, false, eqb, leb, ltb}
use Rattle.std.proofs.lemmas.Int.{ints}
use Rattle.std.specs.Prelude.{pos, ◌+ℤ◌, ◌-ℤ◌}
use Rattle.std.specs.Int.{bit_at, from_bool, cast_signed, w16}
use Rattle.avr_model.specs.Sreg.{with_flags, flag}
use Rattle.avr_model.specs.Wide.{overflows_word, flags_of_word_sum, flags_of_word_difference, word_difference_of, wide_of, flags_of_wide}
use Rattle.bit_domain.specs.declared.bits.Tri.TheVariants.{Zero}
use Rattle.bit_domain.specs.declared.bytes.TriByte.{TriByte}
use Rattle.bit_domain.specs.declared.sums.Sum.{Sum}
use Rattle.bit_domain.specs.Tri.{Permits, tri_and, tri_xor}
use Rattle.bit_domain.specs.TriByte.{tri_at, Has, byte_known}
use Rattle.bit_domain.specs.Sums.{byte_sum, byte_difference}
use Rattle.bit_domain.proofs.AllLaws.{bits_cover, sums_cover}
use Rattle.abs_alu.specs.Flags.{tri_zero}
use Rattle.abs_alu.specs.Words.{word_answer, word_sum, word_difference, abs_wide}
use Rattle.abs_alu.specs.Laws.{CoversWord, WordsCover}
use Rattle.abs_alu.proofs.FlagCover.{flags_cover, below_two, has_known, zero_covers, kept_covers}

-- a word of two bytes, with the machine's flags by its halves
word_covers : (low high : Sum) (s : TriByte) (r w h o : ℕ) (out over : Bool) → r < 65536 → h < 2 → o < 2
    → Has low.bits (r % 256) → Has high.bits (r / 256) → Permits high.into_top h → Permits high.out o → Has s w
    → o ≡ from_bool out → (h + o) % 2 ≡ from_bool over
    → CoversWord (word_answer low high s) r (with_flags out (eqb r 0) (leb 32768 r) over (flag w 5) w)
word_covers low high s r w h o out over small hh ho pl ph pt po hs is_out is_over =
    let zero_is : min (from_bool (eqb (r % 256) 0)) (from_bool (eqb (r / 256) 0)) ≡ from_bool (eqb r 0) = grind arith in
    let top : bit_at (r / 256) 7 ≡ from_bool (leb 32768 r) = grind arith in
    let low_small : r % 256 < 256 = omega arith in
    let high_small : r / 256 < 256 = omega arith in (
      pl,
      ph,
      flags_cover high.out (tri_and (tri_zero low.bits) (tri_zero high.bits)) (tri_at high.bits 7) (tri_xor high.into_top high.out) (tri_at s 5) s
          out (eqb r 0) (leb 32768 r) over (flag w 5) w
          (subst (Permits high.out) is_out po)
          (subst (Permits (tri_and (tri_zero low.bits) (tri_zero high.bits))) zero_is
          (bits_cover.ands (tri_zero low.bits) (tri_zero high.bits) (from_bool (eqb (r % 256) 0)) (from_bool (eqb (r / 256) 0))
          (below_two (eqb (r % 256) 0)) (below_two (eqb (r / 256) 0)) (zero_covers low.bits (r % 256) low_small pl) (zero_covers high.bits (r / 256) high_small ph)))
          (subst (Permits (tri_at high.bits 7)) top (ph 7 (omega arith)))
          (subst (Permits (tri_xor high.into_top high.out)) is_over (bits_cover.xors high.into_top high.out h o hh ho pt po))
          (kept_covers s w 5 (omega arith) hs)
          hs,
    )

-- V of a word is that of its high byte, with the carry or borrow c of the low byte
sum_overflow_is : (u v k c : ℕ) → u < 256 → v < 256 → k < 256 → c ≡ (u + k + 0) / 256
    → ((v % 128 + 0 % 128 + c) / 128 + (v + 0 + c) / 256) % 2 ≡ from_bool (overflows_word (cast_signed w16 (u + 256 * v) +ℤ pos k))
sum_overflow_is u v k c hu hv hk e = grind (arith, ints)

difference_overflow_is : (u v k c : ℕ) → u < 256 → v < 256 → k < 256 → c ≡ from_bool (ltb u (k + 0))
    → (from_bool (ltb (v % 128) (0 % 128 + c)) + from_bool (ltb v (0 + c))) % 2 ≡ from_bool (overflows_word (cast_signed w16 (u + 256 * v) -ℤ pos k))
difference_overflow_is u v k c hu hv hk e = grind (arith, ints)

sum_out_is : (u v k : ℕ) → u < 256 → v < 256 → k < 256 → (v + 0 + (u + k + 0) / 256) / 256 ≡ from_bool (leb 65536 (u + 256 * v + k))
sum_out_is u v k hu hv hk = grind arith

difference_out_is : (u v k : ℕ) → u < 256 → v < 256 → k < 256 → from_bool (ltb v (0 + from_bool (ltb u (k + 0)))) ≡ from_bool (ltb (u + 256 * v) k)
difference_out_is u v k hu hv hk = grind arith

difference_high_is : (u v k : ℕ) → u < 256 → v < 256 → k < 256
    → (256 + v - (0 + from_bool (ltb u (k + 0)))) % 256 ≡ (65536 + (u + 256 * v) - k) % 65536 / 256
difference_high_is u v k hu hv hk = grind arith

sum_word_covers : (a : TriByte × TriByte) (s : TriByte) (u v k w : ℕ) → u < 256 → v < 256 → k < 256 → Has a.0 u → Has a.1 v → Has s w
    → CoversWord (word_sum a k s) ((u + 256 * v + k) % 65536) (flags_of_word_sum (u + 256 * v) k w)
sum_word_covers a s u v k w hu hv hk ha hb hs =
    let x = u + 256 * v in
    let r = (x + k) % 65536 in
    let c = (u + k + 0) / 256 in
    let low = byte_sum a.0 (byte_known k) Zero in
    let high = byte_sum a.1 (byte_known 0) low.out in
    let first = sums_cover.sums a.0 (byte_known k) Zero u k 0 hu hk (omega arith) ha (has_known k hk) refl in
    let second = sums_cover.sums a.1 (byte_known 0) low.out v 0 c hv (omega arith) (omega arith) hb (has_known 0 (omega arith)) first.out in
    let e : (u + k + 0) % 256 ≡ r % 256 = omega arith in
    let f : (v + 0 + c) % 256 ≡ r / 256 = omega arith in
    word_covers low high s r w ((v % 128 + 0 % 128 + c) / 128) ((v + 0 + c) / 256) (leb 65536 (x + k)) (overflows_word (cast_signed w16 x +ℤ pos k))
    (omega arith) (omega arith) (omega arith) (subst (Has low.bits) e first.bits) (subst (Has high.bits) f second.bits) second.into_top second.out hs
    (sum_out_is u v k hu hv hk) (sum_overflow_is u v k c hu hv hk refl)

difference_word_covers : (a : TriByte × TriByte) (s : TriByte) (u v k w : ℕ) → u < 256 → v < 256 → k < 256 → Has a.0 u → Has a.1 v → Has s w
    → CoversWord (word_difference a k s) (word_difference_of (u + 256 * v) k) (flags_of_word_difference (u + 256 * v) k w)
difference_word_covers a s u v k w hu hv hk ha hb hs =
    let x = u + 256 * v in
    let r = word_difference_of x k in
    let borrow = ltb u (k + 0) in
    let c = from_bool borrow in
    let low = byte_difference a.0 (byte_known k) Zero in
    let high = byte_difference a.1 (byte_known 0) low.out in
    let first = sums_cover.differences a.0 (byte_known k) Zero u k 0 hu hk (omega arith) ha (has_known k hk) refl in
    let second = sums_cover.differences a.1 (byte_known 0) low.out v 0 c hv (omega arith) (below_two borrow) hb (has_known 0 (omega arith)) first.out in
    let e : (256 + u - (k + 0)) % 256 ≡ r % 256 = omega arith in
    let top = ltb (v % 128) (0 % 128 + c) in
    let out = ltb v (0 + c) in
    word_covers low high s r w (from_bool top) (from_bool out) (ltb x k) (overflows_word (cast_signed w16 x -ℤ pos k))
    (omega arith) (below_two top) (below_two out) (subst (Has low.bits) e first.bits) (subst (Has high.bits) (difference_high_is u v k hu hv hk) second.bits) second.into_top second.out hs
    (difference_out_is u v k hu hv hk) (difference_overflow_is u v k c hu hv hk refl)

words_cover : (up : Bool) (a : TriByte × TriByte) (s : TriByte) (u v k w : ℕ) → u < 256 → v < 256 → k < 256 → Has a.0 u → Has a.1 v → Has s w
    → CoversWord (abs_wide up a k s) (wide_of up (u + 256 * v) k) (flags_of_wide up (u + 256 * v) k w)
words_cover true a s u v k w hu hv hk ha hb hs = sum_word_covers a s u v k w hu hv hk ha hb hs
words_cover false a s u v k w hu hv hk ha hb hs = difference_word_covers a s u v k w hu hv hk ha hb hs

pub all_words_cover : WordsCover
all_words_cover = record {
  words = λ up a s x k w hx hk ha hb hs.
      let e : x % 256 + 256 * (x / 256) ≡ x = omega arith in
      subst (λ (n : ℕ). CoversWord (abs_wide up a k s) (wide_of up n k) (flags_of_wide up n k w)) e
      (words_cover up a s (x % 256) (x / 256) k w (omega arith) (omega arith) hk ha hb hs);
}
