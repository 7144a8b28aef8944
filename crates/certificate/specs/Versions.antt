-- What each version of a certificate can say. The first has no ranges, no carry tags of registers or sums, and no picks. The third is for
-- certificates whose assumptions have the line `pairs`, and only for these; it has facts on pairs. For most devices the text says the
-- device, and its first line isn't that of the version but of both. Source: own.
use Rattle.std.specs.Prelude.{ℕ, Bool, true, false, ◌≡◌, ⊤, List, Option, None}
use Rattle.std.specs.List.{AllByRecursion}
use Rattle.avr_model.specs.declared.assumption.Entry.{Entry}
use Rattle.avr_model.specs.Assumptions.{has_pairs}
use Rattle.avr_model.specs.declared.device.Device.{Device}
use Rattle.avr_model.specs.Devices.{device_row}
use Rattle.bit_domain.specs.Ranges.{set_of_bits}
use Rattle.sp_domain.specs.declared.tags.CarryTag.{CarryTag}
use Rattle.sp_domain.specs.declared.tags.CarryTag.TheVariants as carry
use Rattle.sp_domain.specs.declared.slots.Slot.{Slot}
use Rattle.sp_domain.specs.declared.slots.Slot.TheVariants.{Free, Guarded}
use Rattle.abs_state.specs.declared.values.AbsByte.{AbsByte}
use Rattle.abs_state.specs.declared.state.AbsState.{AbsState}
use Rattle.abs_state.specs.Values.{set_of}
use Rattle.node_keys.specs.declared.keys.NodeKey.{NodeKey}
use Rattle.edge_rules.specs.declared.seeded.NodeForm.{NodeForm}
use Rattle.edge_rules.specs.declared.seeded.NodeForm.TheVariants.{State, From}
use Rattle.edge_rules.specs.Expansion.{Seeds}
use Rattle.certificate.specs.declared.version.Version.{Version}
use Rattle.certificate.specs.declared.version.Version.TheVariants.{One, Two, Three}

-- a value of the first version has all bytes that its bits permit
abbrev pub ValueIsOf : Version → AbsByte → Type 0
ValueIsOf One v = set_of v ≡ set_of_bits v.bits
ValueIsOf Two v = ⊤
ValueIsOf Three v = ⊤

abbrev pub SlotIsOf : Version → Slot AbsByte → Type 0
SlotIsOf version Free = ⊤
SlotIsOf version (Guarded v) = ValueIsOf version v

-- a carry tag of the first version is no register's and no sum's
abbrev pub HasNewCarries : Version → Type 0
HasNewCarries One = ⊥
HasNewCarries Two = ⊤
HasNewCarries Three = ⊤

abbrev pub CarryIsOf : Version → CarryTag → Type 0
CarryIsOf version carry.None = ⊤
CarryIsOf version (carry.Borrow j l) = ⊤
CarryIsOf version (carry.Sum j l) = HasNewCarries version
CarryIsOf version (carry.Less r k) = HasNewCarries version

-- a node of the first version has no pick
abbrev pub PickIsOf : Version → Option ℕ → Type 0
PickIsOf One pick = pick ≡ None
PickIsOf Two pick = ⊤
PickIsOf Three pick = ⊤

pub record StateIsOf (version : Version) (s : AbsState) : Type 0 where
  pub registers : AllByRecursion (ValueIsOf version) s.registers
  pub carry_tag : CarryIsOf version s.flags.carry
  pub slots : AllByRecursion (SlotIsOf version) s.slots

abbrev pub FormIsOf : Version → NodeForm → Type 0
FormIsOf version (State s) = StateIsOf version s
FormIsOf version (From m) = ⊤

-- the version can say its key and state
pub record NodeIsOf (version : Version) (n : NodeKey × NodeForm) : Type 0 where
  pub key : PickIsOf version n.0.pick
  pub form : FormIsOf version n.1

-- the version can say these nodes; the second and third can say all
abbrev pub AreOf : Version → Seeds → Type 0
AreOf One nodes = AllByRecursion (NodeIsOf One) nodes
AreOf Two nodes = ⊤
AreOf Three nodes = ⊤

abbrev pub is_first : Version → Bool
is_first One = true
is_first Two = false
is_first Three = false

abbrev pub is_third : Version → Bool
is_third One = false
is_third Two = false
is_third Three = true

-- whether the text of a certificate for this device says it: not for the four whose lists are read without `masks`
abbrev pub says_device : Device → Bool
says_device device = (device_row device).reads_masks

-- the version of a certificate with these assumptions
abbrev pub written_by : Bool → Version
written_by false = Two
written_by true = Three

abbrev pub written_version : List Entry → Version
written_version A = written_by (has_pairs A)
