-- Values of a lesser and of a greater state, both of nodes of the analysis.
use Rattle.std.proofs.Common.{◌≡◌, ◌≢◌, refl, sym, ap, ◌∙◌, subst, subst₂, ℕ, ◌^◌, ◌<◌, ◌≤◌, ◌==◌, ⊎_elim, Bool, true, false, List, Option, Some, None, length, slice_set, if◌then◌else◌, arith, length-set}
use Rattle.std.specs.Prelude.{⊤}
use Rattle.std.specs.Int.{bit_at}
use Rattle.std.proofs.lemmas.Nat.Bits.{bit_at_above}
use Rattle.std.proofs.lemmas.Bool.{cases_lt, cases_eq}
use Rattle.std.proofs.lemmas.Bool.Decides.{nat_tests}
use Rattle.std.proofs.lemmas.Grind.{elements}
use Rattle.std.proofs.lemmas.List.{get_or_past}
use Rattle.abs_alu.proofs.AllLaws.{same_within}
use Rattle.bit_domain.specs.declared.bits.Tri.TheVariants.{Any}
use Rattle.bit_domain.specs.declared.bytes.TriByte.{TriByte}
use Rattle.bit_domain.specs.Tri.{IsTriWithin}
use Rattle.bit_domain.specs.TriByte.{tri_of, tri_at, Has, IsWithin, byte_any, byte_known, byte_constant}
use Rattle.bit_domain.proofs.AllLaws.{bytes_are_their_bits, bytes_are_sets, ranges_hold}
use Rattle.sp_domain.specs.declared.tags.Tag.{Tag}
use Rattle.sp_domain.specs.declared.tags.Tag.TheVariants as tag
use Rattle.sp_domain.specs.declared.slots.Slot.{Slot}
use Rattle.sp_domain.specs.declared.slots.Slot.TheVariants.{Free, Guarded}
use Rattle.sp_domain.specs.Slots.{slot_at}
use Rattle.sp_domain.specs.Tags.{HasByteNumbers, IsTagWithin}
use Rattle.pair_domain.specs.declared.facts.PairFacts.{PairFacts}
use Rattle.pair_domain.specs.Facts.{IsKnownWithin, HasSixteen}
use Rattle.pair_domain.proofs.AllLaws.{known_is_ordered}
use Rattle.pair_domain.specs.Rank.{KnownFits}
use Rattle.abs_state.specs.Ended.{is_one_of, ended}
use Rattle.abs_state.proofs.AllLaws.{writes_end_facts}
use Rattle.abs_state.specs.declared.values.AbsByte.{AbsByte}
use Rattle.abs_state.specs.declared.values.AbsFlags.{AbsFlags}
use Rattle.abs_state.specs.declared.state.AbsState.{AbsState}
use Rattle.abs_state.specs.Values.{value_at, with_bits, untagged, unknown, known, valued, set_of}
use Rattle.abs_state.proofs.AllLaws.{bits_make_values, values_are_ordered}
use Rattle.abs_state.specs.Order.{IsByteWithin, IsFlagsWithin, IsSlotWithin, IsStateWithin}
use Rattle.abs_state.specs.Formed.{NamesRegister, CarryNamesRegister, SlotNamesRegister, ByteFits, SlotByteFits, CarryIsUntagged, SlotIsUntagged, IsFormed, IsUntagged, TagFits, SlotFits, TagsFit}
use Rattle.node_keys.specs.declared.keys.NodeKey.{NodeKey}
use Rattle.node_keys.specs.declared.keys.Kind.{Kind}
use Rattle.node_keys.specs.declared.keys.Kind.TheVariants.{Root}
use Rattle.node_keys.specs.Keys.{offset_of, PickFits}
use Rattle.avr_model.specs.declared.device.Device.{Device}
use Rattle.avr_model.specs.Devices.{limit_of, depth_of}
use Rattle.avr_model.specs.State.{REGISTERS}
use Rattle.avr_model.specs.Vectors.{enable_count}
use Rattle.local_rules.specs.Registers.{forgetting}
use Rattle.local_rules.specs.Cover.{FormFits}
use Rattle.local_laws.proofs.Bare.{IsBare}
use Rattle.local_laws.proofs.Less.{forgotten_is, forgotten_more}

-- ---- definitions

-- the tag names a register, its number is in range, and in the root there is none
pub record IsTagOf (kind : Kind) (t : Tag) : Type 0 where
  pub names : NamesRegister t
  pub fits : TagFits t
  pub none : kind ≡ Root → t ≡ tag.None

-- the second value is above the first
pub record IsLess (kind : Kind) (v w : AbsByte) : Type 0 where
  pub within : IsByteWithin v w
  pub good : IsTagOf kind v.tag
  pub ranged : ByteFits v

pub record AreFlagsLess (kind : Kind) (f g : AbsFlags) : Type 0 where
  pub within : IsFlagsWithin f g
  pub bit_7 : tri_at f.bits 7 ≡ Any
  pub bytes : HasByteNumbers f.carry
  pub no_entry : kind ≡ Root → f.entry ≡ false
  pub names : CarryNamesRegister f.carry
  pub no_carry : kind ≡ Root → CarryIsUntagged f.carry

pub record AreRegistersLess (kind : Kind) (vs ws : List AbsByte) : Type 0 where
  pub count : length vs ≡ REGISTERS
  pub others : length ws ≡ REGISTERS
  pub each : (r : ℕ) → IsLess kind (value_at vs r) (value_at ws r)

abbrev pub IsSlotOf : Kind → Slot AbsByte → Type 0
IsSlotOf kind Free = ⊤
IsSlotOf kind (Guarded v) = IsTagOf kind v.tag × ByteFits v

pub record IsSlotLess (kind : Kind) (x y : Slot AbsByte) : Type 0 where
  pub within : IsSlotWithin x y
  pub good : IsSlotOf kind x

pub record AreSlotsLess (kind : Kind) (offset : ℕ) (xs ys : List (Slot AbsByte)) : Type 0 where
  pub count : length xs ≡ offset
  pub others : length ys ≡ offset
  pub each : (d : ℕ) → IsSlotLess kind (slot_at xs d) (slot_at ys d)

-- the facts on pairs of the first are within those of the second, and fit
pub record AreFactsLess (x y : Option PairFacts) : Type 0 where
  pub within : IsKnownWithin x y
  pub fits : KnownFits x
  pub others : HasSixteen y

pub record IsStateLess (kind : Kind) (offset : ℕ) (s t : AbsState) : Type 0 where
  pub registers : AreRegistersLess kind s.registers t.registers
  pub flags : AreFlagsLess kind s.flags t.flags
  pub slots : AreSlotsLess kind offset s.slots t.slots
  pub facts : AreFactsLess s.facts t.facts

-- if the second is given, the first is equal to it
abbrev pub IsSameWhere : {A : Type 0} → Option A → Option A → Type 0
IsSameWhere f g = (x : _) → g ≡ Some x → f ≡ Some x

-- a function of an optional value preserves this order
pub tells_by : {A B : Type 0} (f : Option A → Option B) → f None ≡ None → (x y : Option A) → IsSameWhere x y → IsSameWhere (f x) (f y)
tells_by f none x None h b e = cc
tells_by f none x (Some a) h b e = ap f (h a refl) ∙ e

-- ---- tags

-- so does a function of tags
pub tag_tells : {B : Type 0} (f : Tag → Option B) → f tag.None ≡ None → (t u : Tag) → IsTagWithin t u → IsSameWhere (f t) (f u)
tag_tells f none t tag.None le b e = cc
tag_tells f none t (tag.Entry r) le b e = ap f le ∙ e
tag_tells f none t tag.EntryFlags le b e = ap f le ∙ e
tag_tells f none t (tag.SpLo j) le b e = ap f le ∙ e
tag_tells f none t (tag.SpHi k) le b e = ap f le ∙ e

pub none_of : (kind : Kind) → IsTagOf kind tag.None
none_of kind = record { names = tt; fits = tt; none = λ root. refl }

pub if_tag_of : (kind : Kind) (b : Bool) (t u : Tag) → IsTagOf kind t → IsTagOf kind u → IsTagOf kind (if b then t else u)
if_tag_of kind true t u h k = h
if_tag_of kind false t u h k = k

-- ---- bits

pub below_any : (b : TriByte) → IsWithin b byte_any
below_any b = λ x small has. bytes_are_sets.built (λ _. Any) x (λ i lt. tt)

pub bit_within : (b c : TriByte) (i : ℕ) → i < 8 → IsWithin b c → IsTriWithin (tri_at b i) (tri_at c i)
bit_within b c i lt le = (bytes_are_sets.within b c).0 le i lt

-- bits from 8 on are unknown
bit_past : (b : TriByte) (i : ℕ) → 8 ≤ i → tri_at b i ≡ Any
bit_past b i over =
    let small : b.known < 2 ^ 8 = omega (arith, b.small) in
    ap (λ (n : ℕ). tri_of n (bit_at b.value i)) (bit_at_above b.known 8 i small over)

pub any_bit_within : (b c : TriByte) (i : ℕ) → IsWithin b c → IsTriWithin (tri_at b i) (tri_at c i)
any_bit_within b c i le = ⊎_elim (λ lt. bit_within b c i lt le) (λ over. subst (IsTriWithin (tri_at b i)) (sym (bit_past c i over)) (λ n p. tt)) (cases_lt i 8)

-- a byte that is known is also the lesser's only member
known_is : (b c : TriByte) (n : ℕ) → n < 256 → c ≡ byte_known n → IsWithin b c → b ≡ byte_known n
known_is b c n small e le =
    let one = bytes_are_sets.member b in
    let only : (x : ℕ) → x < 256 → Has b x → x ≡ n = λ x lt has. (bytes_are_sets.known n x small lt).0 (subst (λ (t : TriByte). Has t x) e (le x lt has)) in
    bytes_are_their_bits.from_sets b (byte_known n)
    (λ x lt has. (bytes_are_sets.known n x small lt).1 (only x lt has))
    (λ x lt has. subst (Has b) (only b.value one.0 one.1 ∙ sym ((bytes_are_sets.known n x small lt).0 has)) one.1)

constant_of : (t : TriByte) (b : Bool) (n : ℕ) → (b ≡ true → t.known ≡ 255) → (if b then Some t.value else None) ≡ Some n → (t ≡ byte_known n) × (n < 256)
constant_of t true n full e =
    let is : t.value ≡ n = cc in
    (bytes_are_sets.constant t (full refl) ∙ ap byte_known is, subst (λ (k : ℕ). k < 256) is (bytes_are_sets.member t).0)
constant_of t false n full e = cc

pub constant_is : (t : TriByte) (n : ℕ) → byte_constant t ≡ Some n → (t ≡ byte_known n) × (n < 256)
constant_is t n e = constant_of t (t.known == 255) n (λ h. grind (arith, nat_tests)) e

pub constant_tells : (b c : TriByte) → IsWithin b c → IsSameWhere (byte_constant b) (byte_constant c)
constant_tells b c le n e =
    let at = constant_is c n e in
    ap byte_constant (known_is b c n at.1 at.0 le ∙ sym at.0) ∙ e

-- ---- values

pub value_same : (kind : Kind) (v : AbsByte) → IsTagOf kind v.tag → ByteFits v → IsLess kind v v
value_same kind v h fit = record { within = values_are_ordered.same v; good = h; ranged = fit }

pub bits_less : (kind : Kind) (t u : Tag) (b c : TriByte) → IsTagOf kind t → IsTagWithin t u → IsWithin b c → IsLess kind (with_bits t b) (with_bits u c)
bits_less kind t u b c good tags le = record { within = bits_make_values.within t u b c tags le; good = good; ranged = bits_make_values.fits t b }

pub untagged_less : (kind : Kind) (b c : TriByte) → IsWithin b c → IsLess kind (untagged b) (untagged c)
untagged_less kind b c le = bits_less kind tag.None tag.None b c (none_of kind) tt le

pub unknown_same : (kind : Kind) → IsLess kind unknown unknown
unknown_same kind = untagged_less kind byte_any byte_any (same_within byte_any)

-- bits and range without the tag
pub range_less : (kind : Kind) (v w : AbsByte) → IsLess kind v w → IsLess kind (valued tag.None (set_of v)) (valued tag.None (set_of w))
range_less kind v w h =
    record { within = record { tag = tt; bits = h.within.bits; low = h.within.low; high = h.within.high }; good = none_of kind; ranged = h.ranged }

pub known_same : (kind : Kind) (n : ℕ) → IsLess kind (known n) (known n)
known_same kind n = untagged_less kind (byte_known n) (byte_known n) (same_within (byte_known n))

-- a value is below each byte of greater bits without a tag
pub below_bits : (kind : Kind) (v : AbsByte) (b : TriByte) → IsTagOf kind v.tag → ByteFits v → IsWithin v.bits b → IsLess kind v (untagged b)
below_bits kind v b h fit le =
    let wide = ranges_hold.bits_within v.bits b le in
    record {
      within = record { tag = tt; bits = le; low = omega (arith, wide.low, fit.low); high = omega (arith, wide.high, fit.high) };
      good = h;
      ranged = fit;
    }

pub below_unknown : (kind : Kind) (v : AbsByte) → IsTagOf kind v.tag → ByteFits v → IsLess kind v unknown
below_unknown kind v h fit = below_bits kind v byte_any h fit (below_any v.bits)

pub if_less : (kind : Kind) (b : Bool) (v v' w w' : AbsByte) → IsLess kind v w → IsLess kind v' w' → IsLess kind (if b then v else v') (if b then w else w')
if_less kind true v v' w w' h k = h
if_less kind false v v' w w' h k = k

-- ---- registers

pub set_same : (vs : List AbsByte) (d r : ℕ) (v : AbsByte) → r ≡ d → d < length vs → value_at (slice_set vs d v) r ≡ v
set_same vs d r v e lt = grind (arith, elements)

pub set_other : (vs : List AbsByte) (d r : ℕ) (v : AbsByte) → r ≢ d → value_at (slice_set vs d v) r ≡ value_at vs r
set_other vs d r v ne = grind (arith, elements)

set_past : (vs : List AbsByte) (d r : ℕ) (v : AbsByte) → length vs ≤ r → value_at (slice_set vs d v) r ≡ unknown
set_past vs d r v over = get_or_past (slice_set vs d v) r unknown (omega (arith, length-set vs d v))

module _ (kind : Kind) (vs ws : List AbsByte) (le : AreRegistersLess kind vs ws) where
  pub registers_set : (d : ℕ) (v w : AbsByte) → IsLess kind v w → AreRegistersLess kind (slice_set vs d v) (slice_set ws d w)
  registers_set d v w h =
      record {
        count = length-set vs d v ∙ le.count;
        others = length-set ws d w ∙ le.others;
        each = λ r. ⊎_elim (inside r) (λ over. subst₂ (IsLess kind) (sym (set_past vs d r v (omega (arith, le.count)))) (sym (set_past ws d r w (omega (arith, le.others)))) (unknown_same kind))
            (cases_lt r REGISTERS);
      }
    where
      inside : (r : ℕ) → r < REGISTERS → IsLess kind (value_at (slice_set vs d v) r) (value_at (slice_set ws d w) r)
      inside r lt =
          ⊎_elim
          (λ same. subst₂ (IsLess kind) (sym (set_same vs d r v same (omega (arith, le.count)))) (sym (set_same ws d r w same (omega (arith, le.others)))) h)
          (λ other. subst₂ (IsLess kind) (sym (set_other vs d r v other)) (sym (set_other ws d r w other)) (le.each r))
          (cases_eq r d)

-- ---- slots

pub free_less : (kind : Kind) → IsSlotLess kind Free Free
free_less kind = record { within = tt; good = tt }

-- ---- states of nodes

register_tags : (kind : Kind) (s : AbsState) (offset : ℕ) → IsFormed s offset → TagsFit s → (kind ≡ Root → IsUntagged s) → (r : ℕ) → r < REGISTERS → IsTagOf kind (value_at s.registers r).tag
register_tags kind s offset formed fit untagged r lt =
    record { names = formed.registers r lt; fits = fit.registers r lt; none = λ root. (untagged root).registers r lt }

slot_tags : (kind : Kind) (x : Slot AbsByte) → SlotNamesRegister x → SlotFits x → (kind ≡ Root → SlotIsUntagged x) → SlotByteFits x → IsSlotOf kind x
slot_tags kind Free names fits none ranged = tt
slot_tags kind (Guarded v) names fits none ranged = (record { names = names; fits = fits; none = none }, ranged)

slot_names : (kind : Kind) (x : Slot AbsByte) → IsSlotOf kind x → SlotNamesRegister x
slot_names kind Free h = tt
slot_names kind (Guarded v) h = h.0.names

slot_fits : (kind : Kind) (x : Slot AbsByte) → IsSlotOf kind x → SlotFits x
slot_fits kind Free h = tt
slot_fits kind (Guarded v) h = h.0.fits

slot_ranged : (kind : Kind) (x : Slot AbsByte) → IsSlotOf kind x → SlotByteFits x
slot_ranged kind Free h = tt
slot_ranged kind (Guarded v) h = h.1

slot_untagged : (kind : Kind) (x : Slot AbsByte) → IsSlotOf kind x → kind ≡ Root → SlotIsUntagged x
slot_untagged kind Free h root = tt
slot_untagged kind (Guarded v) h root = h.0.none root

pub node_less : {device : Device} (k : NodeKey) (s t : AbsState) → IsBare device k s → IsBare device k t → IsStateWithin s t → IsStateLess k.inst.kind (offset_of k.sp) s t
node_less k s t a b le =
    record {
      registers = record {
        count = a.formed.count_registers;
        others = b.formed.count_registers;
        each = λ r. ⊎_elim
            (λ lt. record { within = le.registers r lt; good = register_tags k.inst.kind s (offset_of k.sp) a.formed a.tags a.untagged r lt; ranged = a.formed.ranges r lt })
            (λ over. subst₂ (IsLess k.inst.kind) (sym (get_or_past s.registers r unknown (omega (arith, a.formed.count_registers)))) (sym (get_or_past t.registers r unknown (omega (arith, b.formed.count_registers))))
            (unknown_same k.inst.kind))
            (cases_lt r REGISTERS);
      };
      flags = record {
        within = le.flags;
        bit_7 = a.formed.bit_7;
        bytes = a.carry_bytes;
        names = a.formed.carry;
        no_entry = λ root. (a.untagged root).entry;
        no_carry = λ root. (a.untagged root).carry;
      };
      slots = record {
        count = a.formed.count_slots;
        others = b.formed.count_slots;
        each = λ d. ⊎_elim
            (λ lt. record {
              within = le.slots d lt;
              good = let in_s : d < length s.slots = omega (arith, le.count) in
                  slot_tags k.inst.kind (slot_at s.slots d) (a.formed.slots d in_s) (a.tags.slots d in_s) (λ root. (a.untagged root).slots d in_s) (a.formed.slot_ranges d in_s);
            })
            (λ over. subst₂ (IsSlotLess k.inst.kind) (sym (get_or_past s.slots d Free (omega (arith, le.count)))) (sym (get_or_past t.slots d Free over)) (free_less k.inst.kind))
            (cases_lt d (length t.slots));
      };
      facts = record { within = le.facts; fits = a.formed.facts; others = known_is_ordered.count t.facts b.formed.facts };
    }

pub less_within : (kind : Kind) (offset : ℕ) (s t : AbsState) → IsStateLess kind offset s t → IsStateWithin s t
less_within kind offset s t h =
    record {
      registers = λ r lt. (h.registers.each r).within;
      flags = h.flags.within;
      count = h.slots.count ∙ sym h.slots.others;
      slots = λ d lt. (h.slots.each d).within;
      facts = h.facts.within;
    }

pub less_node : {device : Device} (k : NodeKey) (s t : AbsState) → k.pc < limit_of device → offset_of k.sp ≤ depth_of device → k.masks < 2 ^ enable_count device → FormFits device k → PickFits k.pick → IsStateLess k.inst.kind (offset_of k.sp) s t
    → IsBare device k s
less_node k s t word small masks fits pick h =
    record {
      word = word;
      small = small;
      masks = masks;
      fits = fits;
      pick = pick;
      formed = record {
        count_registers = h.registers.count;
        registers = λ r lt. (h.registers.each r).good.names;
        bit_7 = h.flags.bit_7;
        count_slots = h.slots.count;
        slots = λ d lt. slot_names k.inst.kind (slot_at s.slots d) (h.slots.each d).good;
        carry = h.flags.names;
        ranges = λ r lt. (h.registers.each r).ranged;
        slot_ranges = λ d lt. slot_ranged k.inst.kind (slot_at s.slots d) (h.slots.each d).good;
        facts = h.facts.fits;
      };
      tags = record {
        registers = λ r lt. (h.registers.each r).good.fits;
        slots = λ d lt. slot_fits k.inst.kind (slot_at s.slots d) (h.slots.each d).good;
      };
      carry_bytes = h.flags.bytes;
      untagged = λ root. record {
        registers = λ r lt. (h.registers.each r).good.none root;
        entry = h.flags.no_entry root;
        carry = h.flags.no_carry root;
        slots = λ d lt. slot_untagged k.inst.kind (slot_at s.slots d) (h.slots.each d).good root;
      };
    }

-- ---- what C says of registers that are written is forgotten in both

pub ended_both : (written : ℕ → Bool) (flags carry : Bool) (x y : Option PairFacts) → AreFactsLess x y → AreFactsLess (ended written flags carry x) (ended written flags carry y)
ended_both written flags carry x y h = record {
  within = writes_end_facts.more written flags carry x y h.within;
  fits = writes_end_facts.fits written flags carry x h.fits;
  others = writes_end_facts.count written flags carry y h.others;
}

pub forgetting_both : (kind : Kind) (offset : ℕ) (written : List ℕ) (flags carry : Bool) (s t : AbsState) → IsStateLess kind offset s t
    → IsStateLess kind offset (forgetting written flags carry s) (forgetting written flags carry t)
forgetting_both kind offset written flags carry s t h =
    record {
      registers = h.registers;
      flags = record {
        within = record {
          entry = h.flags.within.entry;
          bits = h.flags.within.bits;
          carry = forgotten_more written s.flags.carry t.flags.carry h.flags.within.carry;
        };
        bit_7 = h.flags.bit_7;
        bytes = forgotten_is HasByteNumbers written s.flags.carry h.flags.bytes tt;
        no_entry = h.flags.no_entry;
        names = forgotten_is CarryNamesRegister written s.flags.carry h.flags.names tt;
        no_carry = λ root. forgotten_is CarryIsUntagged written s.flags.carry (h.flags.no_carry root) tt;
      };
      slots = h.slots;
      facts = ended_both (is_one_of written) flags carry s.facts t.facts h.facts;
    }
