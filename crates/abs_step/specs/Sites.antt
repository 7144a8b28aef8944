-- Sites, stores and picks of the code, as the rows have them.
use Rattle.std.specs.Prelude.{ℕ, Bool, List, filter, Option}
use Rattle.avr_model.specs.declared.device.Device.{Device}
use Rattle.avr_model.specs.declared.instruction.Instr.{Instr}
use Rattle.abs_state.specs.declared.values.AbsByte.{AbsByte}
use Rattle.abs_state.specs.declared.state.AbsState.{AbsState}
use Rattle.pair_cuts.specs.Cuts.{pick_cut}
use Rattle.local_rules.specs.Raw.{Raw}
use Rattle.local_rules.specs.Site.{Task, Site}
use Rattle.local_rules.specs.HighBytes.{view_of}
use Rattle.bit_domain.specs.declared.bytes.TriByte.{TriByte}
use Rattle.avr_model.specs.Assumptions.{jump_line}
use Rattle.avr_model.specs.Effects.{port}
use Rattle.local_rules.specs.Registers.{before}
use Rattle.local_rules.specs.Flow.{words_on, z_with, targets_by}
use Rattle.local_rules.specs.Settling.{settled_state}
use Rattle.local_rules.specs.Writes.{ByteWrite, reaches, may_wake, waking, woken, unfixed_write, pointer_write}
use Rattle.local_rules.specs.Local.{node_of, paired_branch, picked_row, picking, plain_row, pointer_load, row_in, row_of, storing, register_write, refined_if}
use Rattle.abs_step.specs.Adding.{refining_if}
use Rattle.abs_step.specs.declared.site.Site.{Site as Here}
use Rattle.abs_step.specs.declared.site.ByteWrite.{ByteWrite as Write}
use Rattle.abs_step.specs.declared.pointer_stores.Indirect.{Indirect}
use Rattle.abs_step.specs.declared.pairs.FlagBranch.{FlagBranch}
use Rattle.abs_step.specs.declared.pairs.StoreInstr.{StoreInstr}
use Rattle.local_rules.specs.Reads.{pointed}

abbrev pub task_of : Here → Task
task_of site = record { flash = site.flash.now; assumptions = site.assumptions.now }

abbrev pub site_of : Here → Site
site_of site = record { device = site.device; key = site.key.now; state = site.state.now }

abbrev pub write_of : Write → ByteWrite
write_of w = record { device = w.device; pc = w.pc; key = w.key; state = w.state.now; value = w.value }

-- the data address of an I/O address there
abbrev pub port_at : Here → ℕ → ℕ
port_at site address = port site.device address

-- the words that the bits of Z with this third byte permit
abbrev pub z_words : Device → AbsState → TriByte → List ℕ
z_words device s bank = words_on device (z_with s bank)

-- the possible targets of an indirect transfer with this third byte above Z
abbrev pub targets_above : Here → TriByte → Option (List ℕ)
targets_above site bank = targets_by site.device (jump_line site.assumptions.now site.key.now.pc) (z_with site.state.now bank)

-- the successors by the rows alone
abbrev pub row_before : Here → Bool → Instr → Raw
row_before site scratch instr = row_of (task_of site) scratch (record (site_of site) { state = before instr site.state.now }) instr

-- ---- through a pointer

-- a load into one of these registers
abbrev pub loaded : Here → List AbsByte → ℕ → Indirect → Raw
loaded site registers d from = pointer_load site.assumptions.now (site_of site) registers d (pointed (view_of (site_of site)) site.state.now from.r from.up)

-- those of the addresses that the pointer may be
abbrev pub reached : Here → Indirect → List ℕ → List ℕ
reached site to addresses = filter (λ a. reaches site.state.now to.r to.up a) addresses

-- the byte may enable a vector that isn't barred
abbrev pub wakes : Here → Indirect → ByteWrite → Bool
wakes site to w = may_wake site.assumptions.now site.state.now to.r to.up w

-- adds the successor of a byte that may
abbrev pub woken_by : Here → Indirect → ByteWrite → Raw → Raw
woken_by site to w rest = waking (wakes site to w) (woken site.assumptions.now w) rest

-- a store at an unfixed site
abbrev pub unfixed : Here → Indirect → ByteWrite → Raw
unfixed site to w = unfixed_write site.assumptions.now site.state.now to.r to.up w

-- the register r, stored with this state afterwards
abbrev pub stored_by : Here → Indirect → AbsState → ℕ → Raw
stored_by site to after r = pointer_write (task_of site) site.state.now to.r to.up (register_write (site_of site) after r)

-- ---- where pairs are followed

-- the successors by the plain rules, refined or not
abbrev pub row_through : Here → Bool → Instr → Bool → Raw
row_through site scratch instr refines =
    refining_if refines site.flash.now instr site.state.now (plain_row (task_of site) scratch (site_of site) instr)

-- what is left of a state in which a pointer has moved
abbrev pub refined_moved : Here → Instr → AbsState → Option AbsState
refined_moved site instr moved = refined_if (task_of site) instr site.state.now (settled_state (view_of (site_of site)) moved)

-- an `st`, if anything is left of the state in which its pointer has moved
abbrev pub stored : Here → StoreInstr → Option AbsState → Raw
stored site store moved = storing (task_of site) (site_of site) store.pointer store.r moved

-- a branch on a flag
abbrev pub branched : Here → Bool → Instr → FlagBranch → Raw
branched site scratch instr branch =
    paired_branch branch.n (node_of (site_of site)) branch.set branch.clear (plain_row (task_of site) scratch (site_of site) instr)

-- ---- jump tables

-- the successors with this byte picked
abbrev pub picked : Here → ℕ → Raw
picked site byte = picked_row (row_in site.device (task_of site)) (picking site.key.now byte) (pick_cut byte site.state.now)
