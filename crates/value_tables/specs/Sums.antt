-- A sum by the definition, bit by bit, which the code must compute from whole words: of a byte whose low half is unknown and of a known
-- one.
use Rattle.std.specs.Prelude.{◌≡◌, refl, nat_lt, if◌then◌else◌}
use Rattle.std.specs.Int.{bit_at}
use Rattle.bit_domain.specs.declared.bits.Tri.TheVariants.{Zero, Any}
use Rattle.bit_domain.specs.declared.sums.Sum.{Sum}
use Rattle.bit_domain.specs.Tri.{tri_bit}
use Rattle.bit_domain.specs.Packed.{packed}
use Rattle.bit_domain.specs.TriByte.{byte_of, byte_known}
use Rattle.bit_domain.specs.Sums.{byte_sum, carry_into}

-- 0x10 to 0x1F, and 0x0F, without a carry
abbrev the_sum : Sum
the_sum = byte_sum (byte_of (λ i. if nat_lt i 4 then Any else tri_bit (bit_at 0x10 i))) (byte_known 0x0F) Zero

known_are_the_top_two : the_sum.bits.known ≡ 0xC0
unfolding packed carry_into
known_are_the_top_two = refl

both_are_0 : the_sum.bits.value ≡ 0
unfolding packed carry_into
both_are_0 = refl

half_is_unknown : the_sum.half ≡ Any
unfolding packed carry_into
half_is_unknown = refl

none_into_the_top : the_sum.into_top ≡ Zero
unfolding packed carry_into
none_into_the_top = refl

none_out : the_sum.out ≡ Zero
unfolding packed carry_into
none_out = refl
