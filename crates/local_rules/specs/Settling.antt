-- High bytes without SPH. Each address from the base down to the stack pointer is below 0x100 there, so the high byte of base - k is 0
-- where k is at most the offset. So behind an instruction no byte has the tag of a high byte. Source: own.
use Rattle.std.specs.Prelude.{ℕ, nat_le, if◌then◌else◌, List, [], ◌∷◌, flat_map, Option, Some, None}
use Rattle.sp_domain.specs.declared.tags.Tag.{Tag}
use Rattle.sp_domain.specs.declared.tags.Tag.TheVariants as tag
use Rattle.abs_state.specs.declared.values.AbsByte.{AbsByte}
use Rattle.abs_state.specs.declared.state.AbsState.{AbsState}
use Rattle.abs_state.specs.Values.{known, set_of, valued}
use Rattle.abs_state.specs.Frames.{with_value}
use Rattle.node_keys.specs.declared.keys.NodeKey.{NodeKey}
use Rattle.local_rules.specs.declared.local.Node.{Node}
use Rattle.local_rules.specs.Raw.{Raw}
use Rattle.local_rules.specs.HighBytes.{SpView}
use Rattle.local_rules.specs.Permitted.{may_be}

-- a high byte of base - k: 0 where k is at most the offset, and none if the value doesn't permit that; else without the tag
abbrev pub settled_high : ℕ → ℕ → AbsByte → Option AbsByte
settled_high offset k v = if nat_le k offset then (if may_be v 0 then Some (known 0) else None) else Some (valued tag.None (set_of v))

abbrev pub settled_by : ℕ → Tag → AbsByte → Option AbsByte
settled_by offset tag.None v = Some v
settled_by offset (tag.Entry r) v = Some v
settled_by offset tag.EntryFlags v = Some v
settled_by offset (tag.SpLo j) v = Some v
settled_by offset (tag.SpHi k) v = settled_high offset k v

abbrev pub settled_value : ℕ → AbsByte → Option AbsByte
settled_value offset v = settled_by offset v.tag v

-- all registers; none if some value is impossible
unfoldable pub settled_values : ℕ → List AbsByte → Option (List AbsByte)
settled_values offset [] = Some []
settled_values offset (v ∷ vs) = with_value (settled_value offset v) (settled_values offset vs)

abbrev pub with_registers : AbsState → Option (List AbsByte) → Option AbsState
with_registers s None = None
with_registers s (Some registers) = Some (record s { registers = registers })

-- the state behind an instruction that executes here
unfoldable pub settled_state : SpView → AbsState → Option AbsState
settled_state view s = if view.high then Some s else with_registers s (settled_values view.offset s.registers)

-- the node, if its state is possible
abbrev pub node_where : NodeKey → Option AbsState → List Node
node_where k None = []
node_where k (Some s) = record { key = k; state = s } ∷ []

abbrev pub settled_nodes : SpView → List Node → List Node
settled_nodes view nodes = flat_map (λ (n : Node). node_where n.key (settled_state view n.state)) nodes

abbrev pub settling : SpView → Raw → Raw
settling view r = record r { moves = settled_nodes view r.moves }
