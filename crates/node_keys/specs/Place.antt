-- The meaning of a node's key for a machine, in a frame with this base: the stack pointer after the frame's entry.
use Rattle.std.specs.Prelude.{ℕ, ◌+◌, ◌≡◌, ◌≤◌, ◌<◌, Bool, true, false}
use Rattle.std.specs.Int.{bit_at}
use Rattle.avr_model.specs.State.{State, minus16, low, high, i_flag}
use Rattle.node_keys.specs.declared.keys.High.{High}
use Rattle.node_keys.specs.declared.keys.High.TheVariants.{Known, Tag}
use Rattle.node_keys.specs.declared.keys.SpForm.{SpForm}
use Rattle.node_keys.specs.declared.keys.SpForm.TheVariants.{Closed, Open}
use Rattle.node_keys.specs.declared.keys.NodeKey.{NodeKey}

-- the high byte of a half-written stack pointer
abbrev pub HighIs : ℕ → High → ℕ → Type 0
HighIs base (Known h) byte = byte ≡ h
HighIs base (Tag k) byte = byte ≡ high (minus16 base k)

-- Closed: the stack pointer is the base less the offset. Open: its low byte is still that of the base less the offset, and its high byte
-- is as the form says.
abbrev pub SpIs : ℕ → Bool → ℕ → SpForm → Type 0
SpIs base is_open sp (Closed offset) = (is_open ≡ false) × (sp + offset ≡ base)
SpIs base is_open sp (Open offset h) = (is_open ≡ true) × (low sp ≡ low (minus16 base offset)) × HighIs base h (high sp)

-- each vector enabled in the first set is enabled in the second
abbrev pub AreAmong : ℕ → ℕ → Type 0
AreAmong enables masks = (k : ℕ) → k < 128 → bit_at enables k ≤ bit_at masks k

-- The enable bits equal the key's; if `may`, they are among the key's.
abbrev pub EnablesAre : Bool → ℕ → ℕ → Type 0
EnablesAre false enables masks = enables ≡ masks
EnablesAre true enables masks = AreAmong enables masks

-- The machine is at this node. If `may`, the key has the vectors that may be enabled, else those that are. The pick says nothing of the
-- machine.
pub record AtNode (may : Bool) (base : ℕ) (m : State) (key : NodeKey) : Type 0 where
  pub pc : m.pc ≡ key.pc
  pub enables : EnablesAre may m.enables key.masks
  pub i : i_flag m ≡ key.i
  pub delay : m.delay ≡ key.delay
  pub sp : SpIs base m.is_open m.sp key.sp
