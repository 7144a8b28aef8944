-- The possible addresses of a store. Source: own.
use Rattle.std.specs.Prelude.{ℕ, zero, suc, ◌+◌, ◌*◌, ◌-◌, ◌&&◌, ◌==◌, Bool, false, nat_lt, nat_le, if◌then◌else◌, Option, Some, None}
use Rattle.avr_model.specs.declared.device.Device.{Device}
use Rattle.avr_model.specs.declared.instruction.Instr.{Instr}
use Rattle.avr_model.specs.declared.instruction.Instr.TheVariants as i
use Rattle.avr_model.specs.declared.instruction.Pointer.{Pointer}
use Rattle.avr_model.specs.declared.instruction.Pointer.TheVariants as pointer
use Rattle.avr_model.specs.Devices.{ramend}
use Rattle.avr_model.specs.Sites.{base_register, pointer_register}
use Rattle.avr_model.specs.State.{minus16}
use Rattle.abs_state.specs.declared.values.AbsByte.{AbsByte}
use Rattle.abs_state.specs.declared.state.AbsState.{AbsState}
use Rattle.node_keys.specs.declared.keys.NodeKey.{NodeKey}
use Rattle.node_keys.specs.declared.keys.Kind.{Kind}
use Rattle.node_keys.specs.declared.keys.Kind.TheVariants.{Root, Call, Vector}
use Rattle.local_rules.specs.declared.pointers.Pointed.{Pointed}
use Rattle.local_rules.specs.HighBytes.{view_by}
use Rattle.local_rules.specs.Registers.{value}
use Rattle.local_rules.specs.Reads.{pointed}
use Rattle.local_rules.specs.Local.{step_before}
pub use Rattle.local_rules.specs.Permitted.{may_be, is_between, is_in_interval, permits_bytes, permits_number}
pub use Rattle.clear_laws.specs.declared.stores.Span.{Span}
pub use Rattle.clear_laws.specs.declared.stores.Reach.{Reach}
pub use Rattle.clear_laws.specs.declared.stores.Reach.TheVariants as reach
pub use Rattle.clear_laws.specs.declared.stores.Aim.{Aim}

-- ---- the bytes that a value permits

-- the number so far, else n if it passes the test
abbrev pub or_number : Option ℕ → Bool → ℕ → Option ℕ
or_number (Some x) passes n = Some x
or_number None passes n = if passes then Some n else None

unfoldable pub least_below : (ℕ → Bool) → ℕ → Option ℕ
least_below p zero = None
least_below p (suc n) = or_number (least_below p n) (p n) n

unfoldable pub greatest_below : (ℕ → Bool) → ℕ → Option ℕ
greatest_below p zero = None
greatest_below p (suc n) = if p n then Some n else greatest_below p n

-- the least and the greatest byte that bits and range permit
abbrev pub first_byte : AbsByte → Option ℕ
first_byte v = least_below (may_be v) 256

abbrev pub last_byte : AbsByte → Option ℕ
last_byte v = greatest_below (may_be v) 256

-- ---- addresses

-- from the number of the least bytes to that of the greatest, if all exist
abbrev pub spanning : Option ℕ → Option ℕ → Option ℕ → Option ℕ → Option Span
spanning (Some a) (Some b) (Some c) (Some d) = Some (record { first = a + 256 * b; last = c + 256 * d })
spanning _ _ _ _ = None

-- the least and the greatest number in registers r and r + 1 that their bits and ranges permit
abbrev pub pair_span : AbsState → ℕ → Option Span
pair_span s r = spanning (first_byte (value s r)) (first_byte (value s (r + 1))) (last_byte (value s r)) (last_byte (value s (r + 1)))

-- the span with a number added to both ends, or 1 subtracted from both
abbrev pub raised : Option Span → ℕ → Reach
raised None q = reach.Nothing
raised (Some span) q =
    if nat_lt (span.first + q) 65536 && nat_lt (span.last + q) 65536
    then reach.Within (record { first = span.first + q; last = span.last + q }) else reach.Beyond

abbrev pub lowered : Option Span → Reach
lowered None = reach.Nothing
lowered (Some span) =
    if nat_le 1 span.first && nat_le 1 span.last then reach.Within (record { first = span.first - 1; last = span.last - 1 }) else reach.Beyond

abbrev pub pointer_reach : Pointer → AbsState → Reach
pointer_reach pointer.ZPlus s = raised (pair_span s 30) 0
pointer_reach pointer.MinusZ s = lowered (pair_span s 30)
pointer_reach pointer.YPlus s = raised (pair_span s 28) 0
pointer_reach pointer.MinusY s = lowered (pair_span s 28)
pointer_reach pointer.X s = raised (pair_span s 26) 0
pointer_reach pointer.XPlus s = raised (pair_span s 26) 0
pointer_reach pointer.MinusX s = lowered (pair_span s 26)

-- ---- the addresses that a pointer permits

-- The byte of a store may go to this address below 65,536: the pointer permits a number that gives it, with the displacement added modulo
-- 65,536.
abbrev pub may_write : AbsState → Instr → ℕ → Bool
may_write s (i.Std b q r) a = permits_number s (base_register b) (minus16 a q)
may_write s (i.St p r) a = permits_number s (pointer_register p) (minus16 a (step_before p))
may_write s (i.Sts x r) a = x == a
may_write s _ a = false

-- ---- slots

-- the slot of the running frame at an address: by its number in the root, whose base is the top of SRAM, and by tags elsewhere
abbrev pub slot_at_number : Device → Option ℕ → Option ℕ
slot_at_number device None = None
slot_at_number device (Some a) = if nat_le a (ramend device) then Some (ramend device - a) else None

abbrev pub slot_aimed : Device → Kind → Pointed → Option ℕ
slot_aimed device Root p = slot_at_number device p.constant
slot_aimed device Call p = p.frame
slot_aimed device (Vector v) p = p.frame

abbrev pub at_number : ℕ → Pointed
at_number a = record { constant = Some a; frame = None }

-- the address of `st`, `std` and `sts`, with the displacement added modulo 65,536
abbrev pub aim_of : Device → NodeKey → AbsState → Instr → Option Aim
aim_of device k s (i.Std b q r) =
    Some (record { reach = raised (pair_span s (base_register b)) q; slot = slot_aimed device k.inst.kind (pointed (view_by device k) s (base_register b) q) })
aim_of device k s (i.St p r) =
    Some (record { reach = pointer_reach p s; slot = slot_aimed device k.inst.kind (pointed (view_by device k) s (pointer_register p) (step_before p)) })
aim_of device k s (i.Sts a r) =
    Some (record { reach = reach.Within (record { first = a; last = a }); slot = slot_aimed device k.inst.kind (at_number a) })
aim_of device k s _ = None
