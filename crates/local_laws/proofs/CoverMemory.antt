-- Rows that read or write data space or flash cover each step of the machine.
use Rattle.std.proofs.Common.{◌≡◌, refl, sym, ◌∙◌, subst, ℕ, ◌<◌, Bool, true, false, not, nat_lt, if◌then◌else◌, List, [], ◌∷◌, ◌++◌, length, Option, Some, None, slice_set, arith, length-set, ◌*◌}
use Rattle.std.specs.Int.{from_bool}
use Rattle.avr_model.specs.Devices.{Image, words_of, device_of, wrapped}
use Rattle.avr_model.specs.declared.instruction.Instr.{Instr}
use Rattle.avr_model.specs.declared.instruction.Instr.TheVariants as i
use Rattle.avr_model.specs.declared.instruction.Base.{Base}
use Rattle.avr_model.specs.declared.instruction.Pointer.{Pointer}
use Rattle.avr_model.specs.declared.instruction.Pointer.TheVariants as pointer
use Rattle.avr_model.specs.declared.effect.Write.{Write}
use Rattle.avr_model.specs.declared.effect.Effect.{Effect}
use Rattle.avr_model.specs.Assumptions.{is_fixed_site}
use Rattle.avr_model.specs.Masks.{reads_masks}
use Rattle.avr_model.specs.Bits.{with_bit}
use Rattle.avr_model.specs.Image.{byte_at}
use Rattle.avr_model.specs.Sites.{base_register, pointer_register}
use Rattle.avr_model.specs.Sreg.{flag}
use Rattle.avr_model.specs.Written.{moved_pair, written as registers_of}
use Rattle.avr_model.specs.State.{State, REGISTERS, RAMPZ, register, pair, read, plus16, minus16}
use Rattle.avr_model.specs.Vectors.{held_of, has_enables, written_enables, kept_byte}
use Rattle.avr_model.specs.Step.{with_registers, flagged_write, protected_write}
use Rattle.avr_model.specs.Effects.{set, set_pair, setting, going_to, further, moved, pointed as address_of, port, extended_byte, stepped_bank, flash_read, effect_of}
use Rattle.bit_domain.specs.declared.bits.Tri.TheVariants.{Zero, One}
use Rattle.bit_domain.specs.Tri.{Permits, tri_not}
use Rattle.bit_domain.specs.TriByte.{Has, tri_at, byte_with}
use Rattle.sp_domain.specs.declared.tags.Tag.TheVariants as tag
use Rattle.sp_domain.specs.Tags.{Origin, LessHolds}
use Rattle.abs_state.proofs.AllLaws.{bits_make_values, any_stands}
use Rattle.pair_domain.specs.declared.facts.PairFacts.{PairFacts}
use Rattle.pair_domain.specs.Rank.{KnownFits}
use Rattle.abs_state.specs.declared.values.AbsByte.{AbsByte}
use Rattle.abs_state.specs.declared.state.AbsState.{AbsState}
use Rattle.abs_state.specs.Values.{untagged, known, unknown}
use Rattle.abs_state.specs.Stands.{ByteStands, RegistersStand}
use Rattle.node_keys.specs.declared.keys.NodeKey.{NodeKey}
use Rattle.node_keys.specs.Wakes.{without}
use Rattle.local_rules.specs.Flow.{reading_zero}
use Rattle.local_rules.specs.Permitted.{permits_number}
use Rattle.local_rules.specs.Raw.{Raw, at_word, off_table, next, going_to as node_going_to, setting as node_setting, further as node_further}
use Rattle.local_rules.specs.HighBytes.{SpView, view_by}
use Rattle.local_rules.specs.Registers.{value, set as node_set, pair_moved}
use Rattle.local_rules.specs.Banks.{extended_constant, stepped_bank as node_bank}
use Rattle.local_rules.specs.Reads.{read_at, kept_bits, pair_constant, pointed, read_pointed, flash_value}
use Rattle.local_rules.specs.Writes.{written_at, pointer_write}
use Rattle.local_rules.specs.Local.{step_before, pointer_moved, extended_moved, loading, pointer_load, bit_row}
use Rattle.local_rules.specs.Cover.{stays}
use Rattle.local_laws.proofs.Bare.{InBareFrame}
use Rattle.local_laws.proofs.Enables.{bit_both, held_in_io, zero_read}
use Rattle.local_laws.proofs.Landing.{ArrivesWhere, FollowsWhere}
use Rattle.local_laws.proofs.Permitted.{IsPairAt, base_pair, pointer_pair, number_permitted}
use Rattle.local_rules.specs.Machine.{AreWords}
use Rattle.local_laws.proofs.Alu.{register_byte}
use Rattle.local_laws.proofs.EffectSizes.{byte_at_small, flash_small}
use Rattle.local_laws.proofs.Less.{Spares, SparesAll, less_set, less_two, less_moved}
use Rattle.local_laws.proofs.BankValues.{extended_is, stepped_stands}
use Rattle.local_laws.proofs.Bits.{with_bit_small, has_with, permits_flag}
use Rattle.local_laws.proofs.Frame.{set_stands, register_stands, set_one, same_frame, turns_with, turns_to, only, sets}
use Rattle.local_laws.proofs.FlowRows.{not_may, further_is, goes_further, skip_keys}
use Rattle.local_laws.proofs.CoverRows.{NamesAddress, RowIsCovered}
use Rattle.local_laws.proofs.ReadValues.{kept_has, none_kept, known_stands, read_stands}
use Rattle.local_laws.proofs.PointerReads.{IsRead, pair_small, pair_constant_is, pointed_stands, pointer_stands, z_moved}
use Rattle.local_laws.proofs.SplitMembers.{AreSplitsWritten}
use Rattle.local_laws.proofs.WriteValues.{stored, ReachesNode, split_written, written}
use Rattle.local_laws.proofs.PointerWrites.{pointer_written}
use Rattle.local_rules.specs.Site.{Task, site_at}
use Rattle.local_rules.specs.Writes.{write_at}
use Rattle.abs_state.specs.declared.values.AbsFlags.{AbsFlags}

-- ---- registers that are set

added : (registers : List ℕ) (writes : List Write) (d x : ℕ) → slice_set (with_registers registers writes) d x ≡ with_registers registers (writes ++ set d x)
added registers [] d x = refl
added registers (w ∷ ws) d x = added (slice_set registers w.address w.byte) ws d x

count_set : (registers : List ℕ) (writes : List Write) → length (with_registers registers writes) ≡ length registers
count_set registers [] = refl
count_set registers (w ∷ ws) = count_set (slice_set registers w.address w.byte) ws ∙ length-set registers w.address w.byte

count_moved : (view : SpView) (s : AbsState) (r : ℕ) (up : Bool) → length (pair_moved view s r up 1) ≡ length s.registers
count_moved view s r up = length-set _ _ _ ∙ length-set _ _ _

count_pointer : (view : SpView) (s : AbsState) (p : Pointer) → length (pointer_moved view p s) ≡ length s.registers
count_pointer view s pointer.ZPlus = count_moved view s 30 true
count_pointer view s pointer.MinusZ = count_moved view s 30 false
count_pointer view s pointer.YPlus = count_moved view s 28 true
count_pointer view s pointer.MinusY = count_moved view s 28 false
count_pointer view s pointer.X = refl
count_pointer view s pointer.XPlus = count_moved view s 26 true
count_pointer view s pointer.MinusX = count_moved view s 26 false

-- ---- addresses

address_is : (p : Pointer) (w : ℕ) → w < 65536 → plus16 w (step_before p) ≡ address_of p w
address_is pointer.ZPlus w lt = omega arith
address_is pointer.MinusZ w lt = omega arith
address_is pointer.YPlus w lt = omega arith
address_is pointer.MinusY w lt = omega arith
address_is pointer.X w lt = omega arith
address_is pointer.XPlus w lt = omega arith
address_is pointer.MinusX w lt = omega arith

at_unfixed : {A : Type 0} (fixed : Bool) (x : Option A) → (if not fixed then x else None) ≡ None → fixed ≡ false → x ≡ None
at_unfixed true x e is = absurd (cc)
at_unfixed false x e is = e

site_unflagged : (task : Task) (stores : List Write) (pc pc' : ℕ) → pc ≡ pc'
    → (if not (is_fixed_site task.flash task.assumptions pc) then flagged_write (device_of task.flash) task.assumptions pc stores else None) ≡ None
    → is_fixed_site task.flash task.assumptions pc' ≡ false → flagged_write (device_of task.flash) task.assumptions pc' stores ≡ None
site_unflagged task stores pc pc' e none unfixed =
    at_unfixed (is_fixed_site task.flash task.assumptions pc') (flagged_write (device_of task.flash) task.assumptions pc' stores)
    (subst (λ x. (if not (is_fixed_site task.flash task.assumptions x) then flagged_write (device_of task.flash) task.assumptions x stores else None) ≡ None) e none) unfixed

-- ---- flash

flash_by : (o : Origin) (b : Bool) (x input : ℕ) → x < 256 → input < 256 → ByteStands o (if b then known x else unknown) (if b then x else input)
flash_by o true x input small lt = known_stands o x small
flash_by o false x input small lt = any_stands o input lt

flash_stands : (o : Origin) (image : Image) (c : Option ℕ) (z input : ℕ) → AreWords image → input < 256 → ((x : ℕ) → c ≡ Some x → z ≡ x) → ByteStands o (flash_value image c) (flash_read image z input)
flash_stands o image None z input are lt is = any_stands o (flash_read image z input) (flash_small image z input are lt)
flash_stands o image (Some x) z input are lt is =
    subst (λ y. ByteStands o (flash_value image (Some x)) (flash_read image y input)) (sym (is x refl)) (flash_by o (nat_lt x (2 * words_of (device_of image))) (byte_at image.words x) input (byte_at_small image x are) lt)

-- ---- a bit that is tested

bit_on : (on : Bool) → Permits (if on then One else Zero) (from_bool on)
bit_on true = refl
bit_on false = refl

off_by : (b : Bool) → not b ≡ true → b ≡ false
off_by true h = absurd (cc)
off_by false h = refl

-- a store through a pointer that isn't flagged
std_unflagged : (task : Task) (pc : ℕ) (b : Base) (q r : ℕ) (e : Effect) → protected_write task.flash task.assumptions pc (i.Std b q r) e ≡ None
    → (if not (is_fixed_site task.flash task.assumptions pc) then flagged_write (device_of task.flash) task.assumptions pc e.stores else None) ≡ None
unfolding protected_write
std_unflagged task pc b q r e h = h

st_unflagged : (task : Task) (pc : ℕ) (p : Pointer) (r : ℕ) (e : Effect) → protected_write task.flash task.assumptions pc (i.St p r) e ≡ None
    → (if not (is_fixed_site task.flash task.assumptions pc) then flagged_write (device_of task.flash) task.assumptions pc e.stores else None) ≡ None
unfolding protected_write
st_unflagged task pc p r e h = h

module _ (task : Task) (m : State) (o : Origin) (k : NodeKey) (s : AbsState) (at : InBareFrame (reads_masks m.device task.assumptions) m o k s) (scratch : Bool) (b1 b2 : ℕ) where
  -- ---- reads

  setting_covered : (writes : List Write) (registers : List AbsByte) → RegistersStand o registers (with_registers m.registers writes)
      → LessHolds (with_registers m.registers writes) s.flags.carry (flag m.sreg 0)
      → FollowsWhere (reads_masks m.device task.assumptions) m o s.facts k (not scratch) b1 b2 (setting m writes m.sreg) (node_setting (site_at m.device k s) registers s.flags)
  setting_covered writes registers stand less = sets m o k s at (not scratch) b1 b2 writes m.sreg registers s.flags refl stand at.stands.flags less

  -- sets a register after others
  after_set : (writes : List Write) (registers : List AbsByte) (d x : ℕ) (v : AbsByte) → length registers ≡ REGISTERS → RegistersStand o registers (with_registers m.registers writes)
      → ByteStands o v x → RegistersStand o (slice_set registers d v) (with_registers m.registers (writes ++ set d x))
  after_set writes registers d x v count stand h =
      subst (RegistersStand o (slice_set registers d v)) (added m.registers writes d x)
      (set_stands o registers (with_registers m.registers writes) d v x count (count_set m.registers writes ∙ at.machine.count_registers) h stand)

  loading_covered : (writes : List Write) (registers : List AbsByte) (d x : ℕ) (v : Option AbsByte) → length registers ≡ REGISTERS
      → RegistersStand o registers (with_registers m.registers writes) → LessHolds (with_registers m.registers writes) s.flags.carry (flag m.sreg 0)
      → Spares s.flags.carry d → IsRead o v x
      → FollowsWhere (reads_masks m.device task.assumptions) m o s.facts k (not scratch) b1 b2 (setting m (writes ++ set d x) m.sreg) (loading (site_at m.device k s) registers d v)
  loading_covered writes registers d x None count stand less spare h = absurd h
  loading_covered writes registers d x (Some v) count stand less spare h =
      setting_covered (writes ++ set d x) (slice_set registers d v) (after_set writes registers d x v count stand h)
      (subst (λ (xs : List ℕ). LessHolds xs s.flags.carry (flag m.sreg 0)) (added m.registers writes d x)
      (less_set (with_registers m.registers writes) s.flags.carry (flag m.sreg 0) d x spare less))

  one_covered : (d x : ℕ) (v : AbsByte) → ByteStands o v x → Spares s.flags.carry d → FollowsWhere (reads_masks m.device task.assumptions) m o s.facts k (not scratch) b1 b2 (setting m (set d x) m.sreg) (node_setting (site_at m.device k s) (node_set s d v) s.flags)
  one_covered d x v h spare =
      setting_covered (set d x) (node_set s d v) (set_one m o k s at d v x h) (less_set m.registers s.flags.carry (flag m.sreg 0) d x spare at.stands.less)

  lds_covered : (d a : ℕ) → b1 < 256 → Spares s.flags.carry d → FollowsWhere (reads_masks m.device task.assumptions) m o s.facts k (not scratch) b1 b2 (record (setting m (set d (read (reads_masks m.device task.assumptions) m a b1)) m.sreg) { pc = further m 2 })
      (node_going_to k (record s { registers = node_set s d (read_at m.device (reads_masks m.device task.assumptions) k s a) }) (node_further m.device k 2))
  lds_covered d a small spare =
      only m o k s at (not scratch) b1 b2 (record (setting m (set d (read (reads_masks m.device task.assumptions) m a b1)) m.sreg) { pc = further m 2 })
      (record { key = at_word k (node_further m.device k 2); state = record s { registers = node_set s d (read_at m.device (reads_masks m.device task.assumptions) k s a) } }) refl
      (same_frame m o k s at (not scratch) (record (setting m (set d (read (reads_masks m.device task.assumptions) m a b1)) m.sreg) { pc = further m 2 })
      (record { key = at_word k (node_further m.device k 2); state = record s { registers = node_set s d (read_at m.device (reads_masks m.device task.assumptions) k s a) } }) refl refl refl refl refl
      (further_is m o k s at (not scratch) b1 b2 2) at.place.enables at.place.i refl (set_one m o k s at d (read_at m.device (reads_masks m.device task.assumptions) k s a) (read (reads_masks m.device task.assumptions) m a b1) (read_stands m o k s at a b1 small)) at.stands.flags
      (less_set m.registers s.flags.carry (flag m.sreg 0) d (read (reads_masks m.device task.assumptions) m a b1) spare at.stands.less) (λ held. held))

  load_covered : (d : ℕ) (p : Pointer) → b1 < 256 → SparesAll s.flags.carry (d ∷ moved_pair p)
      → FollowsWhere (reads_masks m.device task.assumptions) m o s.facts k (not scratch) b1 b2
      (setting m (moved p (pair m (pointer_register p)) ++ set d (read (reads_masks m.device task.assumptions) m (address_of p (pair m (pointer_register p))) b1)) m.sreg) (pointer_load task.assumptions (site_at m.device k s) (pointer_moved (view_by m.device k) p s) d (pointed (view_by m.device k) s (pointer_register p) (step_before p)))
  load_covered d p small spares =
      loading_covered (moved p (pair m (pointer_register p))) (pointer_moved (view_by m.device k) p s) d (read (reads_masks m.device task.assumptions) m (address_of p (pair m (pointer_register p))) b1)
      (read_pointed m.device (reads_masks m.device task.assumptions) k s (pointed (view_by m.device k) s (pointer_register p) (step_before p))) (count_pointer (view_by m.device k) s p ∙ at.node.formed.count_registers) (pointer_stands m o k s at p)
      (less_moved m.registers s.flags.carry (flag m.sreg 0) p (pair m (pointer_register p)) spares.1 at.stands.less) spares.0
      (subst (λ a. IsRead o (read_pointed m.device (reads_masks m.device task.assumptions) k s (pointed (view_by m.device k) s (pointer_register p) (step_before p))) (read (reads_masks m.device task.assumptions) m a b1))
      (address_is p (pair m (pointer_register p)) (pair_small m o k s at (pointer_register p)))
      (pointed_stands m o k s at (pointer_register p) (step_before p) b1 small))

  lpm_stands : AreWords task.flash → b1 < 256 → ByteStands o (flash_value task.flash (pair_constant s 30)) (flash_read task.flash (pair m 30) b1)
  lpm_stands are small = flash_stands o task.flash (pair_constant s 30) (pair m 30) b1 are small (pair_constant_is m o k s at 30)

  elpm_stands : AreWords task.flash → b1 < 256 → ByteStands o (flash_value task.flash (extended_constant s)) (flash_read task.flash (extended_byte m) b1)
  elpm_stands are small = flash_stands o task.flash (extended_constant s) (extended_byte m) b1 are small (extended_is m o k s at)

  -- ---- writes

  -- the word after a store
  abbrev on_next : ℕ
  on_next = wrapped m.device (further m 1)

  follows : (e : Effect) (r : Raw) → ReachesNode (reads_masks m.device task.assumptions) m o s.facts k (not scratch) e r → FollowsWhere (reads_masks m.device task.assumptions) m o s.facts k (not scratch) b1 b2 e r
  follows e r h = record { leads = λ held. stays h.to h.present h.inst (h.at_node.lands held) }

  module _ (members : AreSplitsWritten) where
    known_covered : (pc n : ℕ) → pc ≡ node_further m.device k n → (is_out : Bool) (a byte : ℕ) (v : AbsByte) → byte < 256 → ByteStands o v byte
        → (written_at (write_at m.device k.pc (at_word k (node_further m.device k n)) s v) is_out a).faults ≡ []
        → FollowsWhere (reads_masks m.device task.assumptions) m o s.facts k (not scratch) b1 b2 (stored m pc [] is_out a byte) (written_at (write_at m.device k.pc (at_word k (node_further m.device k n)) s v) is_out a)
    known_covered pc n pc_is is_out a byte v small stands clean =
        follows (stored m pc [] is_out a byte) (written_at (write_at m.device k.pc (at_word k (node_further m.device k n)) s v) is_out a)
        (written m o k s at (not scratch) pc (node_further m.device k n) pc_is [] s.registers at.stands.registers at.stands.less s.facts at.node.formed.facts is_out byte small v stands
        at.node.formed.count_registers at.machine.count_registers members a clean)

    register_covered : (pc n : ℕ) → pc ≡ node_further m.device k n → (is_out : Bool) (a r : ℕ) → (written_at (write_at m.device k.pc (at_word k (node_further m.device k n)) s (value s r)) is_out a).faults ≡ []
        → FollowsWhere (reads_masks m.device task.assumptions) m o s.facts k (not scratch) b1 b2 (stored m pc [] is_out a (register m r)) (written_at (write_at m.device k.pc (at_word k (node_further m.device k n)) s (value s r)) is_out a)
    register_covered pc n pc_is is_out a r clean = known_covered pc n pc_is is_out a (register m r) (value s r) (register_byte m o k s at r) (register_stands m o k s at r) clean

    -- the set of enable bits in the key makes a byte, in which the same bit is written
    held_covered : (a b : ℕ) (on : Bool) → has_enables m.device a ≡ true
        → FollowsWhere (reads_masks m.device task.assumptions) m o s.facts k (not scratch) b1 b2 (stored m on_next [] false a (with_bit (kept_byte m.device m.enables a) b on)) (bit_row (site_at m.device k s) a b on)
    held_covered a b on held =
        let made : ℕ = with_bit (kept_byte m.device k.masks a) b on in
        let left : ℕ = written_enables m.device k.masks a made in
        let v : AbsByte = untagged (byte_with (kept_bits m.device k.masks a) b (if on then One else Zero)) in
        let has : Has v.bits made =
        has_with (kept_bits m.device k.masks a) (kept_byte m.device k.masks a) b (if on then One else Zero) on (kept_has m.device k.masks a) (bit_on on) in
        let stays = bit_both (reads_masks m.device task.assumptions) m.device m.enables k.masks a b on at.place.enables in
        follows (stored m on_next [] false a (with_bit (kept_byte m.device m.enables a) b on)) (bit_row (site_at m.device k s) a b on)
        (split_written m o k s at (not scratch) on_next (node_further m.device k 1) (goes_further m o k s at (not scratch) b1 b2 1) [] s.registers at.stands.registers at.stands.less s.facts at.node.formed.facts false
        a (with_bit (kept_byte m.device m.enables a) b on) left v (held_in_io m.device a held)
        (members m.device k.masks a v.bits left record { byte = made; small = with_bit_small (kept_byte m.device k.masks a) b on; member = has; left = refl }) stays)

    bit_covered : (a b : ℕ) (on : Bool) → (bit_row (site_at m.device k s) a b on).faults ≡ []
        → FollowsWhere (reads_masks m.device task.assumptions) m o s.facts k (not scratch) b1 b2 (stored m on_next [] false a (with_bit (kept_byte m.device m.enables a) b on)) (bit_row (site_at m.device k s) a b on)
    bit_covered a b on clean = by (has_enables m.device a) refl
      where
        by : (held : Bool) → has_enables m.device a ≡ held
            → FollowsWhere (reads_masks m.device task.assumptions) m o s.facts k (not scratch) b1 b2 (stored m on_next [] false a (with_bit (kept_byte m.device m.enables a) b on)) (bit_row (site_at m.device k s) a b on)
        by true held = held_covered a b on held
        by false none =
            known_covered on_next 1 (goes_further m o k s at (not scratch) b1 b2 1) false a (with_bit (kept_byte m.device m.enables a) b on)
            (untagged (byte_with (kept_bits m.device k.masks a) b (if on then One else Zero))) (with_bit_small (kept_byte m.device m.enables a) b on)
            (bits_make_values.stands o tag.None (byte_with (kept_bits m.device k.masks a) b (if on then One else Zero)) (with_bit (kept_byte m.device m.enables a) b on)
            (with_bit_small (kept_byte m.device m.enables a) b on) tt
            (has_with (kept_bits m.device k.masks a) (kept_byte m.device m.enables a) b (if on then One else Zero) on (none_kept m.device m.enables k.masks a none) (bit_on on))) clean

    std_covered : m.device ≡ device_of task.flash → (r up t : ℕ) → IsPairAt r
        → (is_fixed_site task.flash task.assumptions k.pc ≡ false → flagged_write (device_of task.flash) task.assumptions k.pc (set (plus16 (pair m r) up) (register m t)) ≡ None)
        → (pointer_write task s r up (write_at m.device k.pc (next m.device k) s (value s t))).faults ≡ []
        → FollowsWhere (reads_masks m.device task.assumptions) m o s.facts k (not scratch) b1 b2 (stored m on_next [] false (plus16 (pair m r) up) (register m t))
        (pointer_write task s r up (write_at m.device k.pc (next m.device k) s (value s t)))
    std_covered told r up t is unflagged clean =
        follows (stored m on_next [] false (plus16 (pair m r) up) (register m t)) (pointer_write task s r up (write_at m.device k.pc (next m.device k) s (value s t)))
        (pointer_written m o k s at (not scratch) on_next (node_further m.device k 1) (goes_further m o k s at (not scratch) b1 b2 1) [] s.registers at.stands.registers at.stands.less s.facts at.node.formed.facts (register m t) (register_byte m o k s at t)
        (value s t) (register_stands m o k s at t) at.node.formed.count_registers at.machine.count_registers members task refl told s.flags s.facts r up (number_permitted m o k s at r up is) unflagged clean)

    -- the pointer has moved; `was` is the state before the instruction, with all facts on pairs
    pub st_covered : m.device ≡ device_of task.flash → (p : Pointer) (t : ℕ) (flags : AbsFlags) (facts : Option PairFacts) (registers : List AbsByte) (told : Option PairFacts) → SparesAll s.flags.carry (moved_pair p) → length registers ≡ REGISTERS → KnownFits told
        → permits_number (record s { flags = flags; facts = facts }) (pointer_register p) (minus16 (plus16 (pair m (pointer_register p)) (step_before p)) (step_before p)) ≡ true
        → RegistersStand o registers (with_registers m.registers (moved p (pair m (pointer_register p))))
        → protected_write task.flash task.assumptions m.pc (i.St p t) (effect_of task.flash (reads_masks m.device task.assumptions) m (i.St p t) b1 b2) ≡ None
        → (pointer_write task (record s { flags = flags; facts = facts }) (pointer_register p) (step_before p)
        (write_at m.device k.pc (next m.device k) (record s { registers = registers; facts = told }) (value s t))).faults ≡ []
        → FollowsWhere (reads_masks m.device task.assumptions) m o told k (not scratch) b1 b2 (effect_of task.flash (reads_masks m.device task.assumptions) m (i.St p t) b1 b2)
        (pointer_write task (record s { flags = flags; facts = facts }) (pointer_register p) (step_before p)
        (write_at m.device k.pc (next m.device k) (record s { registers = registers; facts = told }) (value s t)))
    st_covered is_device p t flags facts registers told spares count fits permitted stand unflagged clean =
        let writes : List Write = moved p (pair m (pointer_register p)) in
        let row : Raw =
        pointer_write task (record s { flags = flags; facts = facts }) (pointer_register p) (step_before p)
        (write_at m.device k.pc (next m.device k) (record s { registers = registers; facts = told }) (value s t)) in
        let is = address_is p (pair m (pointer_register p)) (pair_small m o k s at (pointer_register p)) in
        let free = site_unflagged task (set (address_of p (pair m (pointer_register p))) (register m t)) m.pc k.pc at.place.pc
        (st_unflagged task m.pc p t (effect_of task.flash (reads_masks m.device task.assumptions) m (i.St p t) b1 b2) unflagged) in
        let reaches : ReachesNode (reads_masks m.device task.assumptions) m o told k (not scratch) (stored m on_next writes false (plus16 (pair m (pointer_register p)) (step_before p)) (register m t)) row =
        pointer_written m o k s at (not scratch) on_next (node_further m.device k 1) (goes_further m o k s at (not scratch) b1 b2 1) writes registers stand
        (less_moved m.registers s.flags.carry (flag m.sreg 0) p (pair m (pointer_register p)) spares at.stands.less) told fits (register m t) (register_byte m o k s at t) (value s t)
        (register_stands m o k s at t) count (count_set m.registers writes ∙ at.machine.count_registers) members task refl is_device flags facts (pointer_register p) (step_before p) permitted
        (subst (λ a. is_fixed_site task.flash task.assumptions k.pc ≡ false → flagged_write (device_of task.flash) task.assumptions k.pc (set a (register m t)) ≡ None) (sym is) free) clean in
        subst (λ a. FollowsWhere (reads_masks m.device task.assumptions) m o told k (not scratch) b1 b2 (stored m on_next writes false a (register m t)) row) is
        (record { leads = λ held. stays reaches.to reaches.present reaches.inst (reaches.at_node.lands held) })

  -- ---- the rows

  bit_may : b1 < 256 → (a b : ℕ) → Permits (tri_at (read_at m.device (reads_masks m.device task.assumptions) k s a).bits b) (from_bool (flag (read (reads_masks m.device task.assumptions) m a b1) b))
  bit_may small a b = permits_flag (read_at m.device (reads_masks m.device task.assumptions) k s a).bits (read (reads_masks m.device task.assumptions) m a b1) b (read_stands m o k s at a b1 small).bits

  -- the bit of an address reads 0
  turns_zero : (a b pc pc' : ℕ) → wrapped m.device pc ≡ pc' → flag (read (reads_masks m.device task.assumptions) m a b1) b ≡ false
      → ArrivesWhere (reads_masks m.device task.assumptions) m o s.facts (not scratch) (going_to m pc) (record { key = off_table (reading_zero m.device (reads_masks m.device task.assumptions) k a b) pc'; state = s })
  turns_zero a b pc pc' here off =
      turns_with m o k s at (not scratch) (without m.device (reads_masks m.device task.assumptions) (held_of m.device a b) k.masks) (zero_read (reads_masks m.device task.assumptions) m k.masks a b b1 at.node.masks at.place.enables off) pc pc' here

  -- each row that names an address is covered
  pub addressed_covered : AreSplitsWritten → AreWords task.flash → b1 < 256 → (instr : Instr) → SparesAll s.flags.carry (registers_of instr) → NamesAddress instr → m.device ≡ device_of task.flash → RowIsCovered task.assumptions m o k s at b1 b2 task.flash scratch instr
  addressed_covered members are small (i.Ldd d b q) spares is told clean unflagged =
      loading_covered [] s.registers d _ _ at.node.formed.count_registers at.stands.registers at.stands.less spares.0 (pointed_stands m o k s at (base_register b) q b1 small)
  addressed_covered members are small (i.Std b q r) spares is told clean unflagged = std_covered members told (base_register b) q r (base_pair b)
      (site_unflagged task (set (plus16 (pair m (base_register b)) q) (register m r)) m.pc k.pc at.place.pc (std_unflagged task m.pc b q r (effect_of task.flash (reads_masks m.device task.assumptions) m (i.Std b q r) b1 b2) unflagged.protected)) clean
  addressed_covered members are small (i.Lds d a) spares is told clean unflagged = lds_covered d a small spares.0
  addressed_covered members are small (i.Sts a r) spares is told clean unflagged = register_covered members (further m 2) 2 (further_is m o k s at (not scratch) b1 b2 2) false a r clean
  addressed_covered members are small (i.Ld d p) spares is told clean unflagged = load_covered d p small spares
  addressed_covered members are small (i.St p r) spares is told clean unflagged =
      st_covered members told p r s.flags s.facts (pointer_moved (view_by m.device k) p s) s.facts spares (count_pointer (view_by m.device k) s p ∙ at.node.formed.count_registers) at.node.formed.facts
      (number_permitted m o k s at (pointer_register p) (step_before p) (pointer_pair p)) (pointer_stands m o k s at p) unflagged.protected clean
  addressed_covered members are small (i.LpmZ d) spares is told clean unflagged = one_covered d _ _ (lpm_stands are small) spares.0
  addressed_covered members are small (i.LpmZPlus d) spares is told clean unflagged =
      loading_covered (set_pair 30 (plus16 (pair m 30) 1)) (pair_moved (view_by m.device k) s 30 true 1) d (flash_read task.flash (pair m 30) b1) (Some (flash_value task.flash (pair_constant s 30))) (count_moved (view_by m.device k) s 30 true ∙ at.node.formed.count_registers)
      (z_moved m o k s at) (less_two m.registers s.flags.carry (flag m.sreg 0) 30 31 _ _ spares.1 at.stands.less) spares.0 (lpm_stands are small)
  addressed_covered members are small i.Lpm spares is told clean unflagged = one_covered 0 _ _ (lpm_stands are small) spares.0
  addressed_covered members are small (i.ElpmZ d) spares is told clean unflagged = one_covered d _ _ (elpm_stands are small) spares.0
  addressed_covered members are small (i.ElpmZPlus d) spares is told clean unflagged =
      loading_covered (set_pair 30 (plus16 (pair m 30) 1) ++ set RAMPZ (stepped_bank m)) (extended_moved (site_at m.device k s)) d (flash_read task.flash (extended_byte m) b1)
      (Some (flash_value task.flash (extended_constant s))) (length-set _ _ _ ∙ count_moved (view_by m.device k) s 30 true ∙ at.node.formed.count_registers)
      (after_set (set_pair 30 (plus16 (pair m 30) 1)) (pair_moved (view_by m.device k) s 30 true 1) RAMPZ (stepped_bank m) (node_bank m.device s)
      (count_moved (view_by m.device k) s 30 true ∙ at.node.formed.count_registers) (z_moved m o k s at) (stepped_stands m o k s at))
      (less_set (with_registers m.registers (set_pair 30 (plus16 (pair m 30) 1))) s.flags.carry (flag m.sreg 0) RAMPZ (stepped_bank m) spares.1.1.1.0
      (less_two m.registers s.flags.carry (flag m.sreg 0) 30 31 _ _ (spares.1.0, (spares.1.1.0, tt)) at.stands.less)) spares.0 (elpm_stands are small)
  addressed_covered members are small i.Elpm spares is told clean unflagged = one_covered 0 _ _ (elpm_stands are small) spares.0
  addressed_covered members are small (i.In d a) spares is told clean unflagged = one_covered d _ _ (read_stands m o k s at (port m.device a) b1 small) spares.0
  addressed_covered members are small (i.Out a r) spares is told clean unflagged = register_covered members on_next 1 (goes_further m o k s at (not scratch) b1 b2 1) true (port m.device a) r clean
  addressed_covered members are small (i.Cbi a b) spares is told clean unflagged = bit_covered members (port m.device a) b false clean
  addressed_covered members are small (i.Sbi a b) spares is told clean unflagged = bit_covered members (port m.device a) b true clean
  addressed_covered members are small (i.Sbic a b) spares is told clean unflagged =
      skip_keys m o k s at (not scratch) b1 b2 task.flash (not (flag (read (reads_masks m.device task.assumptions) m (port m.device a) b1) b)) (tri_not (tri_at (read_at m.device (reads_masks m.device task.assumptions) k s (port m.device a)).bits b)) (reading_zero m.device (reads_masks m.device task.assumptions) k (port m.device a) b) k refl refl
      (λ pc pc' here off. turns_zero (port m.device a) b pc pc' here (off_by (flag (read (reads_masks m.device task.assumptions) m (port m.device a) b1) b) off)) (λ pc pc' here on. turns_to m o k s at (not scratch) pc pc' here)
      (not_may (tri_at (read_at m.device (reads_masks m.device task.assumptions) k s (port m.device a)).bits b) (flag (read (reads_masks m.device task.assumptions) m (port m.device a) b1) b) (bit_may small (port m.device a) b))
  addressed_covered members are small (i.Sbis a b) spares is told clean unflagged =
      skip_keys m o k s at (not scratch) b1 b2 task.flash (flag (read (reads_masks m.device task.assumptions) m (port m.device a) b1) b) (tri_at (read_at m.device (reads_masks m.device task.assumptions) k s (port m.device a)).bits b) k (reading_zero m.device (reads_masks m.device task.assumptions) k (port m.device a) b) refl refl
      (λ pc pc' here on. turns_to m o k s at (not scratch) pc pc' here) (λ pc pc' here off. turns_zero (port m.device a) b pc pc' here off) (bit_may small (port m.device a) b)
  addressed_covered members are small instr spares is told clean unflagged = absurd is
