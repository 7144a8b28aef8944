-- The possible causes of a flagged step. Source: own.
use Rattle.std.specs.Prelude.{ℕ, ◌+◌, ◌-◌, ◌≡◌, ◌⊎◌, ◌&&◌, ◌||◌, Bool, true, not, Some, Contains}
use Rattle.avr_model.specs.declared.choice.Flag.{Flag}
use Rattle.avr_model.specs.declared.choice.Flag.TheVariants.{Live, Protected, Transfer, Moved}
use Rattle.avr_model.specs.declared.device.Device.{Device}
use Rattle.avr_model.specs.declared.instruction.Instr.{Instr}
use Rattle.avr_model.specs.Bits.{any_below}
use Rattle.avr_model.specs.Devices.{guarded_end, ramend, device_of}
use Rattle.avr_model.specs.Sites.{instruction_at}
use Rattle.avr_model.specs.Step.{is_indirect}
use Rattle.pair_domain.specs.Facts.{is_followed}
use Rattle.abs_state.specs.declared.state.AbsState.{AbsState}
use Rattle.node_keys.specs.declared.keys.NodeKey.{NodeKey}
use Rattle.local_rules.specs.declared.local.Node.{Node}
use Rattle.edge_rules.specs.Families.{RankedFamily}
use Rattle.clear_laws.specs.Aims.{may_write}
use Rattle.clear_laws.specs.Clear.{IsClear, Store, store_at, is_flagged_address, is_transfer_listed, calls_cut, may_move}
use Rattle.local_rules.specs.Site.{Task}

-- ---- the addresses of a store

-- the byte of a store may go to this address, and the write may be flagged as one of a protected address
abbrev pub may_write_protected : Task → Store → ℕ → Bool
may_write_protected task store a = is_flagged_address task store a && may_write store.state store.instr a

-- some address may be flagged as protected; none beyond the last guarded one is
abbrev pub may_write_some_protected : Task → Store → Bool
may_write_some_protected task store = any_below (guarded_end (device_of task.flash) + 1) (may_write_protected task store)

-- the store may reach an address that the stack can have by the bound: one of the last of SRAM
abbrev pub may_write_stack : Device → ℕ → AbsState → Instr → Bool
may_write_stack device bound s instr = any_below bound (λ d. may_write s instr (ramend device - d))

-- it is an indirect transfer, calls a word that has a `recur` line, or may set a moving bit
abbrev pub may_leave : Task → NodeKey → Store → Bool
may_leave task k store = is_indirect store.instr || (calls_cut task k store.state store.instr || may_move task k store.state store.instr)

-- Without pairs, the test for harmless stores uses only the least and the greatest address. So a store may fail it although it reaches
-- neither the stack nor a protected address; it has no other cause. With pairs no store is so.
abbrev pub is_untold : Task → NodeKey → Store → Bool
is_untold task k store = not (is_followed store.state.facts) && not (may_leave task k store || may_write_some_protected task store)

-- a store that isn't harmless may write a pushed byte: it may reach the stack, or it has no other cause
abbrev pub may_write_live : Task → ℕ → NodeKey → Store → Bool
may_write_live task bound k store = may_write_stack (device_of task.flash) bound store.state store.instr || is_untold task k store

-- ---- what may happen at a word

-- a node of the family at this word isn't clear, and it and its instruction pass the test
pub record IsCause (task : Task) (f : RankedFamily) (pc : ℕ) (test : Node → Instr → Bool) : Type 0 where
  pub node : Node
  pub present : Contains f.nodes node
  pub is : node.key.pc ≡ pc
  pub unclear : IsClear task f node → ⊥
  pub instr : Instr
  pub instruction : instruction_at task.flash pc ≡ Some instr
  pub passes : test node instr ≡ true

-- a store may write this protected address; a store may write a pushed byte; an indirect transfer may go to a word that its `jump` line
-- does not list, or a call enters a word that has a `recur` line; a moving bit may be set
abbrev pub MayWriteProtected : Task → RankedFamily → ℕ → ℕ → Type 0
MayWriteProtected task f pc a = IsCause task f pc (λ (n : Node) instr. may_write_protected task (store_at pc n.state instr) a)

abbrev pub MayWriteLive : Task → RankedFamily → ℕ → Type 0
MayWriteLive task f pc = IsCause task f pc (λ (n : Node) instr. may_write_live task f.bound n.key (store_at pc n.state instr))

abbrev pub MayGoUnlisted : Task → RankedFamily → ℕ → Type 0
MayGoUnlisted task f pc = IsCause task f pc (λ (n : Node) instr. not (is_transfer_listed task pc n.state instr) || calls_cut task n.key n.state instr)

abbrev pub MayMove : Task → RankedFamily → ℕ → Type 0
MayMove task f pc = IsCause task f pc (λ (n : Node) instr. may_move task n.key n.state instr)

-- some cause holds
abbrev pub HasCause : Task → RankedFamily → ℕ → Type 0
HasCause task f pc = ((a : ℕ) × MayWriteProtected task f pc a) ⊎ (MayWriteLive task f pc ⊎ (MayGoUnlisted task f pc ⊎ MayMove task f pc))

-- the cause of a flag
abbrev pub MayFlag : Task → RankedFamily → Flag → Type 0
MayFlag task f (Live pc a) = MayWriteLive task f pc
MayFlag task f (Protected pc a) = MayWriteProtected task f pc a
MayFlag task f (Transfer pc target) = MayGoUnlisted task f pc
MayFlag task f (Moved pc) = MayMove task f pc
