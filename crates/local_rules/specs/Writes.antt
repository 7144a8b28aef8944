-- The effect of writing a byte to data space. Source: own.
use Rattle.std.specs.Prelude.{ℕ, ◌+◌, ◌*◌, ◌-◌, ◌%◌, ◌==◌, ◌&&◌, Bool, true, false, not, nat_lt, nat_le, if◌then◌else◌, List, [], ◌∷◌, ◌++◌, map, filter, Option, Some, None, slice_set}
use Rattle.avr_model.specs.declared.device.Device.{Device}
use Rattle.avr_model.specs.declared.device.Special.{Special}
use Rattle.avr_model.specs.declared.device.Special.TheVariants.{Spl, Sph, Sreg}
use Rattle.avr_model.specs.declared.assumption.Entry.{Entry}
use Rattle.avr_model.specs.Devices.{size_of, ramend, has_sph}
use Rattle.avr_model.specs.Assumptions.{store_line, is_fixed_site}
use Rattle.avr_model.specs.Masks.{admits_enables}
use Rattle.avr_model.specs.State.{register_at, special, low, high, minus16}
use Rattle.bit_domain.specs.declared.bits.Tri.{Tri}
use Rattle.bit_domain.specs.declared.bits.Tri.TheVariants.{Zero, One, Any}
use Rattle.bit_domain.specs.TriByte.{tri_at, has, byte_with, byte_constant}
use Rattle.sp_domain.specs.declared.tags.Tag.{Tag}
use Rattle.sp_domain.specs.declared.tags.Tag.TheVariants as tag
use Rattle.sp_domain.specs.declared.tags.CarryTag.TheVariants as carry
use Rattle.sp_domain.specs.Slots.{resized}
use Rattle.abs_state.specs.declared.values.AbsByte.{AbsByte}
use Rattle.abs_state.specs.declared.values.AbsFlags.{AbsFlags}
use Rattle.abs_state.specs.declared.state.AbsState.{AbsState}
use Rattle.node_keys.specs.declared.keys.NodeKey.{NodeKey}
use Rattle.node_keys.specs.declared.keys.Kind.{Kind}
use Rattle.node_keys.specs.declared.keys.Kind.TheVariants.{Root, Call, Vector}
use Rattle.node_keys.specs.declared.keys.SpForm.{SpForm}
use Rattle.node_keys.specs.declared.keys.SpForm.TheVariants.{Closed, Open}
use Rattle.node_keys.specs.declared.keys.High.{High}
use Rattle.node_keys.specs.declared.keys.High.TheVariants.{Known, Tag as Tagged}
use Rattle.node_keys.specs.Keys.{offset_of}
use Rattle.node_keys.specs.Splits.{splits}
use Rattle.node_keys.specs.Wakes.{may_enable_other, widened}
use Rattle.local_rules.specs.Permitted.{permits_number}
use Rattle.local_rules.specs.declared.local.Node.{Node}
use Rattle.local_rules.specs.declared.local.NodeFault.TheVariants.{UntrackedSp, TooDeep, UnknownPointer}
use Rattle.local_rules.specs.Raw.{Raw, moves_to, one, two, fails, all_of}
use Rattle.abs_state.specs.Ended.{ended, written_hull}
use Rattle.local_rules.specs.HighBytes.{view_by}
use Rattle.local_rules.specs.Registers.{bits, forgetting}
use Rattle.local_rules.specs.Banks.{stored_value}
use Rattle.local_rules.specs.Site.{Task}
use Rattle.local_rules.specs.Reads.{pointed}

-- ---- the stack pointer

-- the high part of a byte: known in the root, by its tag elsewhere
abbrev pub known_high : Option ℕ → Option High
known_high None = None
known_high (Some h) = Some (Known h)

abbrev pub tagged_high : Tag → Option High
tagged_high (tag.SpHi k) = Some (Tagged k)
tagged_high _ = None

abbrev pub high_part : Kind → AbsByte → Option High
high_part Root v = known_high (byte_constant v.bits)
high_part Call v = tagged_high v.tag
high_part (Vector n) v = tagged_high v.tag

-- A write of SPH opens the pair, or replaces the high part of an open one.
abbrev pub opening : Option High → NodeKey → AbsState → ℕ → Raw
opening None k s pc = fails (UntrackedSp pc)
opening (Some h) k s pc = one (record k { sp = Open (offset_of k.sp) h }) s

-- the root's offset for a high part and a low byte; none above the top of SRAM
abbrev pub root_offset : Device → ℕ → Option ℕ → Option ℕ
root_offset device h None = None
root_offset device h (Some l) = if nat_le (256 * h + l) (ramend device) then Some (ramend device - (256 * h + l)) else None

-- the offset of base - k, if the low byte agrees; from a k of 0x8000 up, base - k is no address of SRAM
abbrev pub tagged_offset : ℕ → Tag → Option ℕ
tagged_offset k (tag.SpLo j) = if (j == k % 256) && nat_lt k 0x8000 then Some k else None
tagged_offset k _ = None

-- Without SPH the low byte is all of the stack pointer. An offset is below 0x80; a greater number would be above the base.
abbrev pub byte_offset : Tag → Option ℕ
byte_offset (tag.SpLo j) = if nat_lt j 0x80 then Some j else None
byte_offset _ = None

-- the offset at which a low byte closes the pair
abbrev pub root_closing : Device → SpForm → Option ℕ → Option ℕ
root_closing device (Closed offset) l = root_offset device (high (ramend device - offset)) l
root_closing device (Open offset (Known h)) l = root_offset device h l
root_closing device (Open offset (Tagged k)) l = None

abbrev pub frame_closing : SpForm → Tag → Option ℕ
frame_closing (Closed offset) t = tagged_offset offset t
frame_closing (Open offset (Known h)) t = None
frame_closing (Open offset (Tagged k)) t = tagged_offset k t

abbrev pub tag_closing : Device → SpForm → Tag → Option ℕ
tag_closing device sp t = if has_sph device then frame_closing sp t else byte_offset t

abbrev pub closing_offset : Device → Kind → SpForm → AbsByte → Option ℕ
closing_offset device Root sp v = root_closing device sp (byte_constant v.bits)
closing_offset device Call sp v = tag_closing device sp v.tag
closing_offset device (Vector n) sp v = tag_closing device sp v.tag

-- Slots are cut at the new offset, or free ones are added up to it.
abbrev pub closing : Device → Option ℕ → NodeKey → AbsState → ℕ → Raw
closing device None k s pc = fails (UntrackedSp pc)
closing device (Some n) k s pc =
    if nat_le n (size_of device) then one (record k { sp = Closed n }) (record s { slots = resized n s.slots }) else fails (TooDeep pc n)

-- ---- the status register

abbrev pub is_entry_flags : Tag → Bool
is_entry_flags tag.EntryFlags = true
is_entry_flags _ = false

abbrev pub flags_written : AbsByte → AbsFlags
flags_written v = record { entry = is_entry_flags v.tag; bits = byte_with v.bits 7 Any; carry = carry.None }

-- the key with this I; after an `out` that sets it, one more instruction executes before any interrupt
abbrev pub with_i : NodeKey → Bool → Bool → NodeKey
with_i k is_out on = record k { i = on; delay = is_out && on && not k.i }

-- one successor for each permitted value of I
abbrev pub sreg_written : Tri → NodeKey → AbsState → Bool → Raw
sreg_written Zero k s is_out = one (with_i k is_out false) s
sreg_written One k s is_out = one (with_i k is_out true) s
sreg_written Any k s is_out = two (with_i k is_out false) (with_i k is_out true) s

-- ---- at an address

-- one successor for each permitted value of the enable bits; at other addresses nothing changes
abbrev pub masks_written : Device → NodeKey → AbsState → ℕ → AbsByte → Raw
masks_written device k s a v = moves_to (map (λ m. record { key = record k { masks = m }; state = s }) (splits device k.masks a v.bits))

-- the interval of a pair becomes the hull of its bytes when one is written by its address
abbrev pub hulled : ℕ → AbsState → AbsState
hulled a s = record s { facts = written_hull s.registers a s.facts }

-- a register with a value, which ends facts on its pair and its carry tag
abbrev pub put_register : AbsState → ℕ → AbsByte → AbsState
put_register s r v = hulled r (forgetting (r ∷ []) false false (record s { registers = slice_set s.registers r v }))

-- a register written by its address
abbrev pub register_written : Device → AbsState → ℕ → AbsByte → AbsState
register_written device s r v = put_register s r (stored_value device r v)

-- sets the flags, which ends facts that name flags
abbrev pub put_flags : AbsState → AbsFlags → AbsState
put_flags s f = record s { flags = f; facts = ended (λ r. false) true true s.facts }

-- A byte that an instruction writes: the device, the word of the instruction, and the node that the machine is otherwise at afterwards.
pub record ByteWrite : Type 0 where
  pub device : Device
  pub pc : ℕ
  pub key : NodeKey
  pub state : AbsState
  pub value : AbsByte

abbrev pub write_at : Device → ℕ → NodeKey → AbsState → AbsByte → ByteWrite
write_at device pc k s v = record { device = device; pc = pc; key = k; state = s; value = v }

-- the effect of the write at a known address that is no register's
abbrev pub special_written : ByteWrite → Bool → ℕ → Option Special → Raw
special_written w is_out a (Some Spl) = closing w.device (closing_offset w.device w.key.inst.kind w.key.sp w.value) w.key w.state w.pc
special_written w is_out a (Some Sph) = opening (high_part w.key.inst.kind w.value) w.key w.state w.pc
special_written w is_out a (Some Sreg) = sreg_written (tri_at w.value.bits 7) w.key (put_flags w.state (flags_written w.value)) is_out
special_written w is_out a None = masks_written w.device w.key w.state a w.value

-- the effect of the write at a known address
abbrev pub written_behind : ByteWrite → Bool → ℕ → Option ℕ → Raw
written_behind w is_out a (Some r) = one w.key (register_written w.device w.state r w.value)
written_behind w is_out a None = special_written w is_out a (special w.device a)

unfoldable pub written_at : ByteWrite → Bool → ℕ → Raw
written_at w is_out a = written_behind w is_out a (register_at w.device a)

-- ---- through a pointer

-- registers r and r + 1 plus a number may be the address, by their bits
abbrev pub reaches : AbsState → ℕ → ℕ → ℕ → Bool
reaches s r up a = has (bits s r) (low (minus16 a up)) && has (bits s (r + 1)) (high (minus16 a up))

-- at a fixed site the address is known
abbrev pub fixed_write : Option ℕ → ByteWrite → Raw
fixed_write None w = fails (UnknownPointer w.pc)
fixed_write (Some a) w = written_at w false a

-- At an unfixed site: one successor in which nothing known changes, and those of each listed address that is possible.
abbrev pub listed_writes : List ℕ → ByteWrite → Raw
listed_writes addresses w = all_of (one w.key w.state ∷ map (λ a. written_at w false a) addresses)

-- the pointer is a slot of the running frame
abbrev pub is_own_slot : Option ℕ → ℕ → Bool
is_own_slot None offset = false
is_own_slot (Some d) offset = nat_lt d offset

-- The byte may reach the enable bit of a vector that isn't barred: the line `masks` admits the site, the pointer is not known to be a
-- slot of the running frame, and it permits an address at which the byte may set such a bit.
unfoldable pub may_wake : List Entry → AbsState → ℕ → ℕ → ByteWrite → Bool
may_wake A was r up w =
    admits_enables w.device A w.pc && not (is_own_slot (pointed (view_by w.device w.key) was r up).frame (offset_of w.key.sp))
    && may_enable_other w.device A (λ a. permits_number was r (minus16 a up)) w.value.bits

-- the node in which each vector that isn't barred may be enabled
abbrev pub woken : List Entry → ByteWrite → Node
woken A w = record { key = record w.key { masks = widened w.device A w.key.masks }; state = w.state }

-- adds a successor
abbrev pub waking : Bool → Node → Raw → Raw
waking false n r = r
waking true n r = record r { moves = r.moves ++ n ∷ [] }

-- At an unfixed site: the registers and the number are as they were in the state `was`.
abbrev pub unfixed_write : List Entry → AbsState → ℕ → ℕ → ByteWrite → Raw
unfixed_write A was r up w =
    waking (may_wake A was r up w) (woken A w) (listed_writes (filter (λ a. reaches was r up a) (store_line A w.pc)) w)

-- Stores the byte through registers r and r + 1 plus a number, as they were in the state `was`.
abbrev pub pointer_write : Task → AbsState → ℕ → ℕ → ByteWrite → Raw
pointer_write task was r up w =
    if is_fixed_site task.flash task.assumptions w.pc
    then fixed_write (pointed (view_by w.device w.key) was r up).constant w
    else unfixed_write task.assumptions was r up w
