-- The possible targets of an indirect transfer: the words of all members of its pointer of three bytes, of which as many bits count as a
-- word address in the device's texts has. Source: own; the pointer and the program counter are those of the Instruction Set Manual.
use Rattle.std.specs.Prelude.{ℕ, ◌≡◌, ◌≤◌, ◌<◌, ◌+◌, ◌*◌, ◌%◌, ◌^◌, ◌↔◌, List, length, Contains, Result, Ok, Err}
use Rattle.std.specs.List.Sorted.{IsStrictlySortedBy}
use Rattle.std.specs.Ordering.{nat_cmp}
use Rattle.avr_model.specs.declared.device.Device.{Device}
use Rattle.avr_model.specs.Devices.{limit_of, limit_width}
use Rattle.bit_domain.specs.declared.bytes.TriByte.{TriByte}
use Rattle.bit_domain.specs.TriByte.{Has, IsWithin}
use Rattle.bit_domain.specs.Numbers.{PointerBits, pointer_bit, targets_of, count_unknown}

-- a pointer of a low, a high and a third byte
abbrev pub pointer_of : TriByte → TriByte → TriByte → PointerBits
pointer_of low high bank = record { low = low; high = high; bank = bank }

abbrev pub most_targets : ℕ
most_targets = 64

-- the result is this list, or a fault if it has more than 64 words
abbrev pub KeepsTargets : {E : Type 0} → Result (List ℕ) E → List ℕ → Type 0
KeepsTargets (Ok words) due = (words ≡ due) × (length due ≤ most_targets)
KeepsTargets (Err e) due = most_targets < length due

-- ---- laws

-- The word consists of members of the low, the high and the third byte.
pub record IsGiven (device : Device) (p : PointerBits) (word : ℕ) : Type 0 where
  pub x : ℕ
  pub y : ℕ
  pub z : ℕ
  pub x_small : x < 256
  pub y_small : y < 256
  pub z_small : z < 256
  pub x_in : Has p.low x
  pub y_in : Has p.high y
  pub z_in : Has p.bank z
  pub is : (x + 256 * y + 65536 * z) % limit_of device ≡ word

-- each byte of the first pointer permits no more than that of the second
pub record IsPointerWithin (p q : PointerBits) : Type 0 where
  pub low : IsWithin p.low q.low
  pub high : IsWithin p.high q.high
  pub bank : IsWithin p.bank q.bank

-- the targets are exactly the words of members, ascend, double in number with each unknown bit, and are monotone
pub record TargetsAreThoseOfMembers : Type 0 where
  pub members : (device : Device) (p : PointerBits) (word : ℕ) → Contains (targets_of (limit_width device) p) word ↔ IsGiven device p word
  pub ascending : (device : Device) (p : PointerBits) → IsStrictlySortedBy nat_cmp (targets_of (limit_width device) p)
  pub count : (device : Device) (p : PointerBits) → length (targets_of (limit_width device) p) ≡ 2 ^ count_unknown (pointer_bit p) (limit_width device)
  pub more : (device : Device) (p q : PointerBits) (word : ℕ) → IsPointerWithin p q
      → Contains (targets_of (limit_width device) p) word → Contains (targets_of (limit_width device) q) word
