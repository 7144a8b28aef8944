-- Laws of keys and of splits.
use Rattle.std.specs.Prelude.{ℕ, ◌-◌, Bool, true, List, Some, ◌≡◌, ◌<◌, ◌≤◌, ◌^◌, ◌↔◌, ◌⊎◌, false, [], ◌∷◌, length, Contains, IsTrue}
use Rattle.std.specs.Cmp.{IsTotalOrder}
use Rattle.std.specs.List.Sorted.{IsStrictlySortedBy}
use Rattle.std.specs.Ordering.{nat_cmp}
use Rattle.std.specs.declared.cmp.Ordering.TheVariants.{Less, Equal}
use Rattle.std.specs.Int.{bit_at}
use Rattle.avr_model.specs.declared.device.Device.{Device}
use Rattle.avr_model.specs.declared.assumption.Entry.{Entry}
use Rattle.avr_model.specs.Masks.{enables_barred}
use Rattle.avr_model.specs.Step.{enables_taken}
use Rattle.avr_model.specs.Bits.{with_bit}
use Rattle.avr_model.specs.Vectors.{enable_count, held_of, has_enables, is_enabled, with_enable, written_enables, are_among, kept_byte}
use Rattle.bit_domain.specs.declared.bytes.TriByte.{TriByte}
use Rattle.bit_domain.specs.TriByte.{Has, IsWithin}
use Rattle.node_keys.specs.declared.keys.InstKey.{InstKey}
use Rattle.node_keys.specs.declared.keys.NodeKey.{NodeKey}
use Rattle.node_keys.specs.Keys.{inst_numbers, node_numbers}
use Rattle.node_keys.specs.Order.{inst_cmp, node_cmp, same_inst, same_node}
use Rattle.node_keys.specs.Place.{AreAmong}
use Rattle.node_keys.specs.Splits.{splits, IsWritten}
use Rattle.node_keys.specs.Wakes.{may_enable_barred, may_enable_other, widened}

-- keys with equal numbers are equal
pub record KeysAreTheirNumbers : Type 0 where
  pub insts : (a b : InstKey) → inst_numbers a ≡ inst_numbers b → a ≡ b
  pub nodes : (a b : NodeKey) → node_numbers a ≡ node_numbers b → a ≡ b

-- the order is total, and only equal keys compare equal
pub record KeysAreOrdered : Type 0 where
  pub insts : IsTotalOrder inst_cmp
  pub nodes : IsTotalOrder node_cmp
  pub equal_insts : (a b : InstKey) → (inst_cmp a b ≡ Equal) ↔ (a ≡ b)
  pub equal_nodes : (a b : NodeKey) → (node_cmp a b ≡ Equal) ↔ (a ≡ b)
  pub same_insts : (a b : InstKey) → IsTrue (same_inst a b) ↔ (a ≡ b)
  pub same_nodes : (a b : NodeKey) → IsTrue (same_node a b) ↔ (a ≡ b)

-- Nodes are ordered by instance first, so nodes of one instance are adjacent in a sorted list.
pub record NodesGoByInstance : Type 0 where
  pub first : (a b : NodeKey) → inst_cmp a.inst b.inst ≡ Less → node_cmp a b ≡ Less
  pub rises : (a b : NodeKey) → node_cmp a b ≡ Less → (inst_cmp a.inst b.inst ≡ Less) ⊎ (a.inst ≡ b.inst)
  pub between : (a b c : NodeKey) → node_cmp a b ≡ Less → node_cmp b c ≡ Less → a.inst ≡ c.inst → b.inst ≡ a.inst

-- What is enabled stays among what may be enabled: after an interrupt is taken, after one byte is written to both, after one bit of an
-- I/O address is changed in both, after a bit reads 0, and after a byte is stored through a pointer, which may enable vectors that aren't
-- barred. A byte that can enable nothing leaves the set.
pub record EnablesStayAmong : Type 0 where
  pub tested : (enables masks : ℕ) → IsTrue (are_among enables masks) ↔ AreAmong enables masks
  pub enabled : (device : Device) (enables masks v : ℕ) → AreAmong enables masks → is_enabled device enables v ≡ true → is_enabled device masks v ≡ true
  pub taken : (device : Device) (enables masks : ℕ) (clears : Bool) → AreAmong enables masks
      → AreAmong (enables_taken device enables clears) (enables_taken device masks clears)
  pub written : (device : Device) (enables masks address byte : ℕ) → AreAmong enables masks
      → AreAmong (written_enables device enables address byte) (written_enables device masks address byte)
  pub bit_changed : (device : Device) (enables masks address bit : ℕ) (on : Bool) → AreAmong enables masks
      → AreAmong (written_enables device enables address (with_bit (kept_byte device enables address) bit on))
      (written_enables device masks address (with_bit (kept_byte device masks address) bit on))
  pub reads_zero : (device : Device) (enables masks address bit v : ℕ) → masks < 2 ^ enable_count device → AreAmong enables masks
      → held_of device address bit ≡ Some v → bit_at enables (v - 2) ≡ 0 → AreAmong enables (with_enable device masks v false)
  pub wider : (device : Device) (A : List Entry) (masks : ℕ) → masks < 2 ^ enable_count device → AreAmong masks (widened device A masks)
  pub wide : (device : Device) (A : List Entry) (masks : ℕ) → widened device A masks < 2 ^ enable_count device
  pub woken : (device : Device) (A : List Entry) (enables masks address byte : ℕ) → AreAmong enables masks → enables_barred device A address byte ≡ false
      → AreAmong (written_enables device enables address byte) (widened device A masks)
  pub asleep : (device : Device) (A : List Entry) (reaches : ℕ → Bool) (value : TriByte) (enables masks address byte : ℕ) → AreAmong enables masks
      → enables_barred device A address byte ≡ false → may_enable_other device A reaches value ≡ false → reaches address ≡ true → Has value byte
      → AreAmong (written_enables device enables address byte) masks
  pub barred : (device : Device) (A : List Entry) (value : TriByte) (address byte : ℕ) → Has value byte → enables_barred device A address byte ≡ true
      → may_enable_barred device A address value ≡ true
  pub other : (device : Device) (A : List Entry) (p q : ℕ → Bool) (t u : TriByte) → ((a : ℕ) → p a ≡ true → q a ≡ true) → IsWithin t u
      → may_enable_other device A p t ≡ true → may_enable_other device A q u ≡ true

-- The splits are what writing each member of the byte leaves: at most 256, ascending, monotone, and m alone at an address where no vector is
-- enabled.
pub record SplitsAreWrites : Type 0 where
  pub members : (device : Device) (m address : ℕ) (value : TriByte) (n : ℕ) → Contains (splits device m address value) n ↔ IsWritten device m address value n
  pub ascending : (device : Device) (m address : ℕ) (value : TriByte) → IsStrictlySortedBy nat_cmp (splits device m address value)
  pub few : (device : Device) (m address : ℕ) (value : TriByte) → length (splits device m address value) ≤ 256
  pub more : (device : Device) (m address : ℕ) (t u : TriByte) (n : ℕ) → IsWithin t u → Contains (splits device m address t) n → Contains (splits device m address u) n
  pub alone : (device : Device) (m address : ℕ) (value : TriByte) → m < 2 ^ enable_count device → has_enables device address ≡ false
      → splits device m address value ≡ m ∷ []
