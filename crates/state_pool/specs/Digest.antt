-- A digest of a state. Different states rarely share one.
use Rattle.std.specs.Prelude.{ℕ, suc, ◌≡◌, ◌<◌, ◌+◌, ◌*◌, ◌/◌, ◌%◌, ◌^◌, cond, List, [], ◌∷◌, length, fold, Option, Some, None}
use Rattle.std.specs.Hash as fed
use Rattle.sp_domain.specs.declared.slots.Slot.{Slot}
use Rattle.sp_domain.specs.declared.slots.Slot.TheVariants.{Free, Guarded}
use Rattle.sp_domain.specs.declared.tags.Tag.{Tag}
use Rattle.sp_domain.specs.declared.tags.Tag.TheVariants as tag
use Rattle.sp_domain.specs.declared.tags.CarryTag.{CarryTag}
use Rattle.sp_domain.specs.declared.tags.CarryTag.TheVariants as carry
use Rattle.sp_domain.specs.Slots.{slot_at}
use Rattle.pair_domain.specs.declared.intervals.Interval.{Interval}
use Rattle.pair_domain.specs.declared.tags.Side.{Side}
use Rattle.pair_domain.specs.declared.tags.Side.TheVariants as side
use Rattle.pair_domain.specs.declared.tags.SumTag.{SumTag}
use Rattle.pair_domain.specs.declared.tags.SumTag.TheVariants as sum
use Rattle.pair_domain.specs.declared.tags.CompareTag.{CompareTag}
use Rattle.pair_domain.specs.declared.tags.CompareTag.TheVariants as compare
use Rattle.pair_domain.specs.declared.tags.ZeroTag.{ZeroTag}
use Rattle.pair_domain.specs.declared.tags.ZeroTag.TheVariants as zero
use Rattle.pair_domain.specs.declared.facts.PairFacts.{PairFacts}
use Rattle.abs_state.specs.declared.values.AbsByte.{AbsByte}
use Rattle.abs_state.specs.declared.values.AbsFlags.{AbsFlags}
use Rattle.abs_state.specs.declared.state.AbsState.{AbsState}

-- Adds the upper half of 64 bits to the number. Sums and products carry upwards alone: this takes differences down again.
abbrev pub folded : ℕ → ℕ
folded n = (n + n / 2 ^ 32) % 2 ^ 64

-- feeds a number to a 64-bit digest
abbrev pub mix : ℕ → ℕ → ℕ
mix digest number = folded ((digest * 6364136223846793005 % 2 ^ 64 + number) % 2 ^ 64)

-- the kind of a tag and its number
abbrev pub tag_number : Tag → ℕ
tag_number tag.None = 0
tag_number (tag.Entry r) = 1 + 8 * r
tag_number tag.EntryFlags = 2
tag_number (tag.SpLo j) = 3 + 8 * j
tag_number (tag.SpHi k) = 4 + 8 * k

-- the kind of a carry tag and its numbers
abbrev pub carry_number : CarryTag → ℕ
carry_number carry.None = 0
carry_number (carry.Borrow j l) = 1 + 4 * (j + 256 * l)
carry_number (carry.Sum j l) = 2 + 4 * (j + 256 * l)
carry_number (carry.Less r k) = 3 + 4 * (r + 256 * k)

-- the tag, range and bits of a value
abbrev pub value_number : AbsByte → ℕ
value_number v = tag_number v.tag + 2 ^ 19 * (v.low + 256 * v.high + 2 ^ 16 * (v.bits.known + 256 * v.bits.value))

-- the fields of the flags
abbrev pub flags_number : AbsFlags → ℕ
flags_number f = f.bits.known + 256 * f.bits.value + 2 ^ 16 * (cond f.entry 1 0 + 2 * carry_number f.carry)

abbrev pub mix_value : ℕ → AbsByte → ℕ
mix_value digest v = mix digest (value_number v)

-- a guarded slot by its place and value; a free one leaves the digest
abbrev pub mix_slot : ℕ → ℕ → Slot AbsByte → ℕ
mix_slot digest d Free = digest
mix_slot digest d (Guarded v) = mix ((digest + d) % 2 ^ 64) (value_number v)

-- the slots from this place on
abbrev pub mix_slots : ℕ → ℕ → List (Slot AbsByte) → ℕ
mix_slots digest d [] = digest
mix_slots digest d (s ∷ ss) = mix_slots (mix_slot digest d s) (suc d) ss

-- this many slots from a place on are free
abbrev pub AreFree : List (Slot AbsByte) → ℕ → ℕ → Type 0
AreFree slots at n = (e : ℕ) → e < n → slot_at slots (at + e) ≡ Free

-- the intervals of pairs, if pairs are followed
abbrev pub mix_interval : ℕ → Interval → ℕ
mix_interval digest i = mix digest (i.low + 2 ^ 16 * i.high)

-- the kind of a sum tag, its pair and ends
abbrev pub mix_sum : ℕ → SumTag → ℕ
mix_sum digest sum.None = mix digest 0
mix_sum digest (sum.Up r a b) = mix (mix digest (1 + 4 * (r + 256 * a))) b
mix_sum digest (sum.Down r a b) = mix (mix digest (2 + 4 * (r + 256 * a))) b

-- the kind of a side and its number
abbrev pub side_number : Side → ℕ
side_number (side.Byte b) = 2 * b
side_number (side.Register r) = 1 + 2 * r

-- the kind of a compare tag and its numbers
abbrev pub compare_number : CompareTag → ℕ
compare_number compare.None = 0
compare_number (compare.Byte r s) = 1 + 4 * (r + 2 ^ 16 * side_number s)
compare_number (compare.Pair r s h) = 2 + 4 * (r + 256 * h + 2 ^ 16 * side_number s)

-- the kind of a zero tag and its number
abbrev pub zero_number : ZeroTag → ℕ
zero_number zero.None = 0
zero_number (zero.Byte r) = 1 + 4 * r
zero_number (zero.Pair r) = 2 + 4 * r

-- the facts on pairs: intervals and tags
abbrev pub mix_pairs : ℕ → PairFacts → ℕ
mix_pairs digest f = mix (mix_sum (fold mix_interval digest f.intervals) f.sum) (compare_number f.compare + 2 ^ 32 * zero_number f.zero)

-- the facts on pairs, if pairs are followed
abbrev pub mix_facts : ℕ → Option PairFacts → ℕ
mix_facts digest None = digest
mix_facts digest (Some f) = mix_pairs digest f

-- the digest of a state: the flags, the facts on pairs, the registers, the number of slots, and the slots
abbrev pub digest_of : AbsState → ℕ
digest_of s = mix_slots (mix (fold mix_value (mix_facts (flags_number s.flags) s.facts) s.registers) (length s.slots)) 0 s.slots

-- what a state feeds to a hasher
abbrev pub state_hash : AbsState → List (List ℕ)
state_hash s = fed.u64 (digest_of s)
