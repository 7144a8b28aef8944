-- Cut states keep their slots.
use Rattle.std.specs.Prelude.{⊤, ◌*◌, ◌/◌}
use Rattle.std.specs.Int.{from_bool}
use Rattle.std.proofs.Common.{◌≡◌, refl, sym, subst, ℕ, ◌==◌, Bool, true, false, if◌then◌else◌, List, Option, Some, None}
use Rattle.avr_model.specs.declared.instruction.Instr.{Instr}
use Rattle.avr_model.specs.declared.instruction.Instr.TheVariants as i
use Rattle.avr_model.specs.declared.instruction.BinaryOp.{BinaryOp}
use Rattle.avr_model.specs.declared.instruction.BinaryOp.TheVariants as binary
use Rattle.avr_model.specs.Written.{written}
use Rattle.avr_model.specs.Devices.{Image}
use Rattle.bit_domain.specs.Tri.{permits}
use Rattle.bit_domain.specs.TriByte.{byte_constant}
use Rattle.bit_domain.specs.Logic.{byte_equal}
use Rattle.pair_domain.specs.Narrow.{narrow}
use Rattle.abs_state.specs.Values.{value_at}
use Rattle.bit_domain.specs.declared.bytes.TriByte.{TriByte}
use Rattle.sp_domain.specs.declared.slots.Slot.{Slot}
use Rattle.sp_domain.specs.declared.tags.CarryTag.{CarryTag}
use Rattle.sp_domain.specs.declared.tags.CarryTag.TheVariants as carry
use Rattle.pair_domain.specs.declared.facts.PairFacts.{PairFacts}
use Rattle.pair_domain.specs.declared.intervals.Interval.{Interval}
use Rattle.pair_domain.specs.declared.tags.CompareTag.{CompareTag}
use Rattle.pair_domain.specs.declared.tags.CompareTag.TheVariants as compare
use Rattle.pair_domain.specs.declared.tags.ZeroTag.{ZeroTag}
use Rattle.pair_domain.specs.declared.tags.ZeroTag.TheVariants as zero
use Rattle.pair_domain.specs.PairSets.{PairSet}
use Rattle.pair_domain.specs.Marks.{outward}
use Rattle.pair_domain.specs.PairSets as sets
use Rattle.abs_state.specs.declared.values.AbsByte.{AbsByte}
use Rattle.abs_state.specs.declared.state.AbsState.{AbsState}
use Rattle.abs_state.specs.Cuts.{with_pair, cut_known, cut_state, pair_of}
use Rattle.abs_state.specs.PairBytes.{left_in}
use Rattle.pair_rules.specs.declared.told.Told.{Told}
use Rattle.pair_rules.specs.declared.told.Told.TheVariants as told
use Rattle.pair_rules.specs.Told.{told_by}
use Rattle.pair_rules.specs.Flash.{pair_permits, few_in_flash, flash_joined}
use Rattle.pair_rules.specs.Values.{doubled_by, with_joined, flash_read, extended_read, rampz_of, z_of, retold}
use Rattle.pair_rules.specs.Refined.{meet_pair, cut_told, with_hulls, tags_then, told_then, refined_known, refined}
use Rattle.pair_cuts.specs.declared.places.CutPlace.{CutPlace}
use Rattle.pair_cuts.specs.declared.places.CutPlace.TheVariants as place
use Rattle.pair_cuts.specs.declared.outcomes.Outcome.{Outcome}
use Rattle.pair_cuts.specs.Places.{after, narrow_at, narrow_to, on_byte, known_or_nothing, range_of, interval_of, range_at}
use Rattle.pair_cuts.specs.Cuts.{side_place, side_range, pair_place, pair_range, with_bit, equal_part, less_by, less_cut, below_part, zero_by, zero_cut, narrow_both, compare_by, compare_told, compare_cut, flags_known, bit_known, flag_by, equal_by, with_index, pick_cut}
use Rattle.pair_cuts.specs.Outcomes.{outcome_of, left_part, right_part}
use Rattle.abs_step.specs.declared.pairs.PairTest.{PairTest}
use Rattle.abs_step.specs.declared.pairs.PairTest.TheVariants.{Flag, Bit, Equal}
use Rattle.abs_step.specs.Conditions.{cut_by}

-- if anything is left, it has these slots
abbrev KeepsSlots : List (Slot AbsByte) → Option AbsState → Type 0
KeepsSlots slots None = ⊤
KeepsSlots slots (Some t) = t.slots ≡ slots

kept_after : (slots : List (Slot AbsByte)) (o : Option AbsState) (cut : AbsState → Option AbsState) → KeepsSlots slots o
    → ((t : AbsState) → t.slots ≡ slots → KeepsSlots slots (cut t)) → KeepsSlots slots (after o cut)
kept_after slots None cut h more = tt
kept_after slots (Some t) cut h more = more t h

kept_where : (b : Bool) (slots : List (Slot AbsByte)) (o p : Option AbsState) → KeepsSlots slots o → KeepsSlots slots p → KeepsSlots slots (if b then o else p)
kept_where true slots o p h k = h
kept_where false slots o p h k = k

with_pair_keeps : (s : AbsState) (f : PairFacts) (n : ℕ) (o : Option PairSet) → KeepsSlots s.slots (with_pair s f n o)
with_pair_keeps s f n None = tt
with_pair_keeps s f n (Some p) = refl

known_keeps : (cut : PairSet → Option PairSet) (s : AbsState) (n : ℕ) (x : Option PairFacts) → KeepsSlots s.slots (cut_known cut s n x)
known_keeps cut s n None = refl
known_keeps cut s n (Some f) = with_pair_keeps s f n (cut (pair_of s.registers f.intervals n))

cut_keeps : (cut : PairSet → Option PairSet) (s : AbsState) (n : ℕ) → KeepsSlots s.slots (cut_state cut s n)
cut_keeps cut s n = known_keeps cut s n s.facts

-- ---- what an instruction tells

read_keeps : (t : AbsState) (d : ℕ) (o : Option AbsByte) → KeepsSlots t.slots (with_joined t d o)
read_keeps t d None = tt
read_keeps t d (Some v) = refl

flash_keeps : (image : Image) (from : ℕ) (t : AbsState) (d : ℕ) (permits : ℕ → Bool) → KeepsSlots t.slots (flash_read image from t d permits)
flash_keeps image from t d permits =
    kept_where (few_in_flash image from permits) t.slots (with_joined t d (flash_joined image from permits)) (Some t)
    (read_keeps t d (flash_joined image from permits)) refl

extended_keeps : (image : Image) (bank : Option ℕ) (t : AbsState) (d : ℕ) (permits : ℕ → Bool) → KeepsSlots t.slots (extended_read image bank t d permits)
extended_keeps image None t d permits = refl
extended_keeps image (Some bank) t d permits = flash_keeps image (65536 * bank) t d permits

doubled_keeps : (b : Bool) (s : AbsState) (op : BinaryOp) (d : ℕ) (t : AbsState) → (if b then doubled_by s op d t else t).slots ≡ t.slots
doubled_keeps true s binary.Add d t = refl
doubled_keeps true s binary.Adc d t = refl
doubled_keeps true s _ d t = refl
doubled_keeps false s op d t = refl

retold_keeps : (image : Image) (s : AbsState) (f : PairFacts) (instr : Instr) (t : AbsState) → KeepsSlots t.slots (retold image s f instr t)
retold_keeps image s f (i.Binary op d r) t = doubled_keeps (d == r) s op d t
retold_keeps image s f (i.LpmZ d) t = flash_keeps image 0 t d (pair_permits (z_of s f))
retold_keeps image s f (i.LpmZPlus d) t = flash_keeps image 0 t d (pair_permits (z_of s f))
retold_keeps image s f i.Lpm t = flash_keeps image 0 t 0 (pair_permits (z_of s f))
retold_keeps image s f (i.ElpmZ d) t = extended_keeps image (rampz_of s) t d (pair_permits (z_of s f))
retold_keeps image s f (i.ElpmZPlus d) t = extended_keeps image (rampz_of s) t d (pair_permits (z_of s f))
retold_keeps image s f i.Elpm t = extended_keeps image (rampz_of s) t 0 (pair_permits (z_of s f))
retold_keeps image s f _ t = refl

told_keeps : (ms : List ℕ) (x : Told) (t : AbsState) → KeepsSlots t.slots (cut_told ms x t)
told_keeps ms told.Nothing t = refl
told_keeps ms (told.Kept n j) t = cut_keeps (λ p. meet_pair p j) t n
told_keeps ms (told.Computed n j) t = cut_keeps (λ p. sets.narrow_pair p (outward ms j)) t n

tags_keep : (slots : List (Slot AbsByte)) (s : AbsState) (f : PairFacts) (instr : Instr) (o : Option AbsState) → KeepsSlots slots o → KeepsSlots slots (tags_then s f instr o)
tags_keep slots s f instr None h = tt
tags_keep slots s f instr (Some t) h = h

then_keeps : (slots : List (Slot AbsByte)) (ms : List ℕ) (s : AbsState) (f : PairFacts) (instr : Instr) (o : Option AbsState) → KeepsSlots slots o
    → KeepsSlots slots (told_then ms s f instr o)
then_keeps slots ms s f instr None h = tt
then_keeps slots ms s f instr (Some t) h =
    tags_keep slots s f instr (cut_told ms (told_by s.registers f instr) (with_hulls (written instr) t))
    (subst (λ (x : List (Slot AbsByte)). KeepsSlots x (cut_told ms (told_by s.registers f instr) (with_hulls (written instr) t))) h
    (told_keeps ms (told_by s.registers f instr) (with_hulls (written instr) t)))

refined_keeps : (ms : List ℕ) (image : Image) (instr : Instr) (s t : AbsState) (x : Option PairFacts) → KeepsSlots t.slots (refined_known ms image instr s t x)
refined_keeps ms image instr s t None = refl
refined_keeps ms image instr s t (Some f) = then_keeps t.slots ms s f instr (retold image s f instr t) (retold_keeps image s f instr t)

-- ---- what tests tell

at_keeps : (p : CutPlace) (i : Interval) (s : AbsState) → KeepsSlots s.slots (narrow_at p i s)
at_keeps place.Neither i s = refl
at_keeps (place.Byte r) i s = cut_keeps (on_byte r (λ b. narrow b i.low i.high)) s (r / 2)
at_keeps (place.Pair r) i s = cut_keeps (λ p. sets.narrow_pair p i) s (r / 2)

to_keeps : (p : CutPlace) (o : Option Interval) (s : AbsState) → KeepsSlots s.slots (narrow_to p o s)
to_keeps p None s = tt
to_keeps p (Some i) s = at_keeps p i s

less_keeps : (c : CarryTag) (b : Bool) (s : AbsState) → KeepsSlots s.slots (less_by c b s)
less_keeps carry.None b s = refl
less_keeps (carry.Borrow j l) b s = refl
less_keeps (carry.Sum j l) b s = refl
less_keeps (carry.Less r k) b s = to_keeps (place.Byte r) (below_part b k) s

zero_keeps : (z : ZeroTag) (b : Bool) (s : AbsState) → KeepsSlots s.slots (zero_by z b s)
zero_keeps zero.None b s = refl
zero_keeps (zero.Byte x) b s = to_keeps (place.Byte x) (equal_part b 0 (range_at s (place.Byte x))) s
zero_keeps (zero.Pair r) b s = to_keeps (place.Pair r) (equal_part b 0 (range_at s (place.Pair r))) s

both_keep : (left right : CutPlace) (i j : Option Interval) (s : AbsState) → KeepsSlots s.slots (narrow_both left right i j s)
both_keep left right None j s = tt
both_keep left right (Some i) None s = tt
both_keep left right (Some i) (Some j) s =
    kept_after s.slots (narrow_at left i s) (narrow_at right j) (at_keeps left i s)
    (λ t e. subst (λ (x : List (Slot AbsByte)). KeepsSlots x (narrow_at right j t)) e (at_keeps right j t))

compare_keeps : (c : CompareTag) (o : Outcome) (s : AbsState) → KeepsSlots s.slots (compare_by c o s)
compare_keeps compare.None o s = refl
compare_keeps (compare.Byte x y) o s =
    both_keep (place.Byte x) (side_place y) (left_part o 128 (range_of s.registers x) (side_range s.registers y)) (right_part o (range_of s.registers x) (side_range s.registers y)) s
compare_keeps (compare.Pair r y p) o s =
    both_keep (place.Pair r) (pair_place y p) (left_part o 32768 (interval_of s.facts r) (pair_range s (pair_place y p) y p)) (right_part o (interval_of s.facts r) (pair_range s (pair_place y p) y p)) s

told_too : (o : Option Outcome) (s : AbsState) → KeepsSlots s.slots (compare_told o s)
told_too None s = refl
told_too (Some o) s = compare_keeps (known_or_nothing s.facts).compare o s

flag_keeps : (n : ℕ) (b : Bool) (o : Option TriByte) (s : AbsState) → KeepsSlots s.slots (flag_by n b o s)
flag_keeps n b None s = tt
flag_keeps n b (Some bits) s =
    kept_after s.slots (after (after (less_cut n b s) (zero_cut n b)) (compare_cut n b)) (flags_known bits)
    (kept_after s.slots (after (less_cut n b s) (zero_cut n b)) (compare_cut n b)
    (kept_after s.slots (less_cut n b s) (zero_cut n b) (kept_where (n == 0) s.slots (less_by s.flags.carry b s) (Some s) (less_keeps s.flags.carry b s) refl)
    (λ t e. subst (λ (x : List (Slot AbsByte)). KeepsSlots x (zero_cut n b t)) e
    (kept_where (n == 1) t.slots (zero_by (known_or_nothing t.facts).zero b t) (Some t) (zero_keeps (known_or_nothing t.facts).zero b t) refl)))
    (λ t e. subst (λ (x : List (Slot AbsByte)). KeepsSlots x (compare_cut n b t)) e (told_too (outcome_of n b) t)))
    (λ t e. e)

equal_keeps : (d r : ℕ) (b : Bool) (x y : Option ℕ) (s : AbsState) → KeepsSlots s.slots (equal_by d r b x y s)
equal_keeps d r b (Some k) y s = to_keeps (place.Byte d) (equal_part b k (range_at s (place.Byte d))) s
equal_keeps d r b None (Some k) s = to_keeps (place.Byte r) (equal_part b k (range_at s (place.Byte r))) s
equal_keeps d r b None None s = refl

test_keeps : (test : PairTest) (on : Bool) (s : AbsState) → KeepsSlots s.slots (cut_by test on s)
test_keeps (Flag n) on s = flag_keeps n on (bit_known s.flags.bits n on) s
test_keeps (Bit r b) on s = cut_keeps (on_byte r (with_bit b on)) s (r / 2)
test_keeps (Equal d r) on s =
    kept_where (permits (byte_equal (value_at s.registers d).bits (value_at s.registers r).bits) (from_bool on)) s.slots
    (equal_by d r on (byte_constant (value_at s.registers r).bits) (byte_constant (value_at s.registers d).bits) s) None
    (equal_keeps d r on (byte_constant (value_at s.registers r).bits) (byte_constant (value_at s.registers d).bits) s) tt

-- ---- by what the code gives

left_keeps_in : (b : Bool) (slots : List (Slot AbsByte)) (t : AbsState) → b ≡ true → KeepsSlots slots (left_in b t) → t.slots ≡ slots
left_keeps_in true slots t e h = h
left_keeps_in false slots t e h = cc

pub told_slots : (b : Bool) (ms : List ℕ) (image : Image) (instr : Instr) (s u t : AbsState) → left_in b t ≡ refined ms image instr s u → b ≡ true → t.slots ≡ u.slots
told_slots b ms image instr s u t e is = left_keeps_in b u.slots t is (subst (KeepsSlots u.slots) (sym e) (refined_keeps ms image instr s u s.facts))

pub cut_slots : (b : Bool) (test : PairTest) (on : Bool) (s t : AbsState) → left_in b t ≡ cut_by test on s → b ≡ true → t.slots ≡ s.slots
cut_slots b test on s t e is = left_keeps_in b s.slots t is (subst (KeepsSlots s.slots) (sym e) (test_keeps test on s))

pub pick_slots : (b : Bool) (byte : ℕ) (s t : AbsState) → left_in b t ≡ pick_cut byte s → b ≡ true → t.slots ≡ s.slots
pick_slots b byte s t e is = left_keeps_in b s.slots t is (subst (KeepsSlots s.slots) (sym e) (cut_keeps sets.cut_pair (with_index byte s) 15))
