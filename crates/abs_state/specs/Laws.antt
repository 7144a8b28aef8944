-- Laws of values and states: their order and joins, that greater states claim less, and that entries and returns cover those of the
-- machine.
use Rattle.std.specs.Prelude.{ℕ, ◌+◌, ◌-◌, ◌%◌, ◌≡◌, ◌<◌, ◌≤◌, ◌↔◌, ◌⊎◌, ◌&&◌, Bool, true, List, [], ◌∷◌, ◌++◌, length, take, Option, Some, None}
use Rattle.avr_model.specs.Sreg.{flag}
use Rattle.avr_model.specs.declared.device.Device.{Device}
use Rattle.avr_model.specs.Devices.{ramend}
use Rattle.avr_model.specs.State.{State, Memory, IsReset, REGISTERS, byte_in, is_live}
use Rattle.bit_domain.specs.declared.bytes.TriByte.{TriByte}
use Rattle.bit_domain.specs.TriByte.{Has, IsWithin}
use Rattle.sp_domain.specs.declared.slots.Slot.{Slot}
use Rattle.sp_domain.specs.declared.tags.Tag.{Tag}
use Rattle.sp_domain.specs.Tags.{Origin, TagHolds, LessHolds, HasByteNumbers, IsTagWithin}
use Rattle.sp_domain.specs.Slots.{slot_at, resized}
use Rattle.pair_domain.specs.declared.facts.PairFacts.{PairFacts}
use Rattle.pair_domain.specs.Facts.{KnownHolds, is_followed}
use Rattle.abs_state.specs.declared.values.AbsByte.{AbsByte}
use Rattle.abs_state.specs.declared.values.AbsFlags.{AbsFlags}
use Rattle.abs_state.specs.declared.state.AbsState.{AbsState}
use Rattle.abs_state.specs.Values.{with_bits, root}
use Rattle.abs_state.specs.Stands.{ByteStands, FlagsStand, RegistersStand, SlotStands, SlotsStand, Stands}
use Rattle.abs_state.specs.Order.{IsByteWithin, IsFlagsWithin, IsSlotWithin, IsStateWithin, value_join, flags_join, state_join, IsLeastAbove}
use Rattle.abs_state.specs.Frames.{entered, bytes_returned, BytesConflict}
use Rattle.abs_state.specs.PairsBack.{returned, Conflict}
use Rattle.abs_state.specs.Formed.{ByteFits, IsWhole, IsFormed, IsUntagged, TagsFit}
use Rattle.abs_state.specs.Rank.{state_rank, height_of}

-- The value of a tag and bits has all bytes that the bits permit: it holds if both do, is monotone in both, and its range fits. A join of
-- values whose ranges fit has a range that fits.
pub record BitsMakeValues : Type 0 where
  pub stands : (o : Origin) (t : Tag) (bits : TriByte) (x : ℕ) → x < 256 → TagHolds o t x → Has bits x → ByteStands o (with_bits t bits) x
  pub within : (t u : Tag) (bits more : TriByte) → IsTagWithin t u → IsWithin bits more → IsByteWithin (with_bits t bits) (with_bits u more)
  pub fits : (t : Tag) (bits : TriByte) → ByteFits (with_bits t bits)
  pub joins_fit : (v w : AbsByte) → ByteFits v → ByteFits w → ByteFits (value_join v w)

-- `within` is a partial order on values, and a join is the least upper bound
pub record ValuesAreOrdered : Type 0 where
  pub same : (v : AbsByte) → IsByteWithin v v
  pub through : (u v w : AbsByte) → IsByteWithin u v → IsByteWithin v w → IsByteWithin u w
  pub both : (v w : AbsByte) → IsByteWithin v w → IsByteWithin w v → v ≡ w
  pub first : (v w : AbsByte) → IsByteWithin v (value_join v w)
  pub second : (v w : AbsByte) → IsByteWithin w (value_join v w)
  pub least : (u v w : AbsByte) → IsByteWithin u w → IsByteWithin v w → IsByteWithin (value_join u v) w

-- `within` is a partial order on flags, and a join is the least upper bound
pub record FlagsAreOrdered : Type 0 where
  pub same : (f : AbsFlags) → IsFlagsWithin f f
  pub through : (f g h : AbsFlags) → IsFlagsWithin f g → IsFlagsWithin g h → IsFlagsWithin f h
  pub both : (f g : AbsFlags) → IsFlagsWithin f g → IsFlagsWithin g f → f ≡ g
  pub first : (f g : AbsFlags) → IsFlagsWithin f (flags_join f g)
  pub second : (f g : AbsFlags) → IsFlagsWithin g (flags_join f g)
  pub least : (f g h : AbsFlags) → IsFlagsWithin f h → IsFlagsWithin g h → IsFlagsWithin (flags_join f g) h

-- `within` is a partial order on whole states, and a join is the least upper bound. States have a join if they have equally many slots.
pub record StatesAreOrdered : Type 0 where
  pub same : (s : AbsState) → IsStateWithin s s
  pub through : (s t u : AbsState) → IsStateWithin s t → IsStateWithin t u → IsStateWithin s u
  pub both : (s t : AbsState) → IsWhole s → IsWhole t → IsStateWithin s t → IsStateWithin t s → s ≡ t
  pub join : (s t : AbsState) → IsWhole s → IsWhole t → length s.slots ≡ length t.slots → IsLeastAbove s t (state_join s t)
  pub within : (s t : AbsState) → IsWhole s → IsWhole t → IsStateWithin t s → state_join s t ≡ s

-- joins are monotone
pub record JoinsAreMonotone : Type 0 where
  pub values : (v w v' w' : AbsByte) → IsByteWithin v v' → IsByteWithin w w' → IsByteWithin (value_join v w) (value_join v' w')
  pub flags : (f g f' g' : AbsFlags) → IsFlagsWithin f f' → IsFlagsWithin g g' → IsFlagsWithin (flags_join f g) (flags_join f' g')
  pub states : (s t s' t' : AbsState) → IsWhole s → IsWhole t → IsWhole s' → IsWhole t'
      → length s.slots ≡ length t.slots → IsStateWithin s s' → IsStateWithin t t' → IsStateWithin (state_join s t) (state_join s' t')

-- A formed state is whole. A join of formed states is formed, and a join of untagged ones untagged.
pub record JoinsAreFormed : Type 0 where
  pub whole : (s : AbsState) (offset : ℕ) → IsFormed s offset → IsWhole s
  pub formed : (s t : AbsState) (offset : ℕ) → IsFormed s offset → IsFormed t offset → IsFormed (state_join s t) offset
  pub untagged : (s t : AbsState) (offset : ℕ) → IsFormed s offset → IsFormed t offset → IsUntagged s → IsUntagged t → IsUntagged (state_join s t)

-- what holds of a value, flags or a slot holds of greater ones
pub record ValuesSayLess : Type 0 where
  pub byte : (o : Origin) (v w : AbsByte) (x : ℕ) → IsByteWithin v w → ByteStands o v x → ByteStands o w x
  pub flags : (o : Origin) (f g : AbsFlags) (sreg : ℕ) → IsFlagsWithin f g → FlagsStand o f sreg → FlagsStand o g sreg
  pub slot : (o : Origin) (s t : Slot AbsByte) (memory : Memory) (a : ℕ) → IsSlotWithin s t → SlotStands o memory a s → SlotStands o memory a t
  pub registers : (o : Origin) (s t : AbsState) (registers : List ℕ) → IsStateWithin s t → RegistersStand o s.registers registers → RegistersStand o t.registers registers
  pub slots : (o : Origin) (s t : AbsState) (memory : Memory) → IsStateWithin s t → SlotsStand o memory s.slots → SlotsStand o memory t.slots
  pub state : (o : Origin) (s t : AbsState) (m : State) → IsStateWithin s t → Stands o s m → Stands o t m

-- the memory keeps the live bytes above a floor
pub record Keeps (old new : Memory) (floor : ℕ) : Type 0 where
  pub live : (a : ℕ) → floor < a → is_live old a ≡ true → is_live new a ≡ true
  pub bytes : (a : ℕ) → floor < a → is_live old a ≡ true → byte_in new.below new.bytes a ≡ byte_in old.below old.bytes a

-- Slots hold while live bytes above a floor below them are kept, and after one is added, cut or resized.
pub record SlotsFollow : Type 0 where
  pub kept : (o : Origin) (old new : Memory) (floor : ℕ) (slots : List (Slot AbsByte)) → Keeps old new floor → floor + length slots ≤ o.base
      → SlotsStand o old slots → SlotsStand o new slots
  pub pushed : (o : Origin) (memory : Memory) (slots : List (Slot AbsByte)) (s : Slot AbsByte) → SlotsStand o memory slots
      → SlotStands o memory (o.base - length slots) s → SlotsStand o memory (slots ++ s ∷ [])
  pub taken : (o : Origin) (memory : Memory) (slots : List (Slot AbsByte)) (n : ℕ) → SlotsStand o memory slots → SlotsStand o memory (take n slots)
  pub resized : (o : Origin) (memory : Memory) (slots : List (Slot AbsByte)) (n : ℕ)
      → ((d : ℕ) → d < n → d < length slots → SlotStands o memory (o.base - d) (slot_at slots d)) → SlotsStand o memory (resized n slots)

-- The root's state holds after reset, in a frame whose base is the top of SRAM and whose origin has the reset state's registers.
pub record ResetStands : Type 0 where
  pub stands : (device : Device) (m : State) → IsReset device m
      → Stands (record { registers = m.registers; sreg = m.sreg; base = ramend device }) root m
  pub formed : IsFormed root 0
  pub untagged : IsUntagged root

-- An entry keeps registers and flags 0 to 6: if a state holds for the caller, the entered one holds in the new frame with these as
-- origin.
pub record EntriesAreTrue : Type 0 where
  pub registers : (o : Origin) (s : AbsState) (registers : List ℕ) (sreg base : ℕ) → length s.registers ≡ REGISTERS → RegistersStand o s.registers registers
      → RegistersStand (record { registers = registers; sreg = sreg; base = base }) (entered s).registers registers
  pub flags : (o : Origin) (s : AbsState) (offset : ℕ) (registers : List ℕ) (sreg new base : ℕ) → IsFormed s offset → new % 128 ≡ sreg % 128
      → FlagsStand o s.flags sreg → FlagsStand (record { registers = registers; sreg = sreg; base = base }) (entered s).flags new
  pub facts : (s : AbsState) (registers : List ℕ) (c z n c' z' n' : Bool) → KnownHolds s.facts registers c z n → KnownHolds (entered s).facts registers c' z' n'
  pub followed : (s : AbsState) → is_followed (entered s).facts ≡ is_followed s.facts
  pub formed : (s : AbsState) (offset : ℕ) → IsFormed s offset → IsFormed (entered s) 0
  pub more : (s t : AbsState) → length s.registers ≡ REGISTERS → length t.registers ≡ REGISTERS → IsStateWithin s t → IsStateWithin (entered s) (entered t)

-- the callee's frame began with these registers and with flags 0 to 6 of this status register
pub record IsEnteredFrom (registers : List ℕ) (sreg : ℕ) (o : Origin) : Type 0 where
  pub registers_kept : o.registers ≡ registers
  pub flags_kept : o.sreg % 128 ≡ sreg % 128

-- the facts hold of the registers and of C, Z and S
abbrev pub HoldsAt : Option PairFacts → List ℕ → ℕ → Type 0
HoldsAt x registers sreg = KnownHolds x registers (flag sreg 0) (flag sreg 1) (flag sreg 4)

-- If the caller's state held at the call and the callee's holds at its exit, the returned state holds in the caller's frame after the
-- return. A return may set I.
pub record ReturnsAreTrue : Type 0 where
  pub stands : (o callee : Origin) (caller exit : AbsState) (offset : ℕ) (left registers : List ℕ) (left_sreg sreg new : ℕ) (memory : Memory)
      → IsFormed caller offset → IsFormed exit 0
      → RegistersStand o caller.registers left → FlagsStand o caller.flags left_sreg → LessHolds left caller.flags.carry (flag left_sreg 0)
      → SlotsStand o memory caller.slots
      → HoldsAt caller.facts left left_sreg
      → IsEnteredFrom left left_sreg callee
      → RegistersStand callee exit.registers registers → FlagsStand callee exit.flags sreg → HoldsAt exit.facts registers sreg → new % 128 ≡ sreg % 128
      → (t : AbsState) × (returned caller exit ≡ Some t) × RegistersStand o t.registers registers × FlagsStand o t.flags new
      × LessHolds registers t.flags.carry (flag new 0) × SlotsStand o memory t.slots × HoldsAt t.facts registers new
  pub followed : (caller exit t : AbsState) → returned caller exit ≡ Some t → is_followed t.facts ≡ (is_followed caller.facts && is_followed exit.facts)
  pub formed : (caller exit t : AbsState) (offset : ℕ) → IsFormed caller offset → IsFormed exit 0 → returned caller exit ≡ Some t → IsFormed t offset
  pub untagged : (caller exit t : AbsState) (offset : ℕ) → IsFormed caller offset → IsFormed exit 0 → IsUntagged caller → returned caller exit ≡ Some t → IsUntagged t
  pub more : (caller caller' exit exit' t : AbsState) (offset : ℕ) → IsFormed caller offset → IsFormed caller' offset → IsFormed exit 0 → IsFormed exit' 0
      → IsStateWithin caller caller' → IsStateWithin exit exit' → returned caller exit ≡ Some t
      → (t' : AbsState) × (returned caller' exit' ≡ Some t') × IsStateWithin t t'
  pub none : (caller exit : AbsState) → length exit.registers ≡ REGISTERS → returned caller exit ≡ None ↔ Conflict caller exit

-- `ReturnsAreTrue` for registers, flags and slots alone.
pub record BytesReturn : Type 0 where
  pub stands : (o callee : Origin) (caller exit : AbsState) (offset : ℕ) (left registers : List ℕ) (left_sreg sreg new : ℕ) (memory : Memory)
      → IsFormed caller offset → IsFormed exit 0
      → RegistersStand o caller.registers left → FlagsStand o caller.flags left_sreg → LessHolds left caller.flags.carry (flag left_sreg 0)
      → SlotsStand o memory caller.slots
      → IsEnteredFrom left left_sreg callee
      → RegistersStand callee exit.registers registers → FlagsStand callee exit.flags sreg → new % 128 ≡ sreg % 128
      → (t : AbsState) × (bytes_returned caller exit ≡ Some t) × RegistersStand o t.registers registers × FlagsStand o t.flags new
      × LessHolds registers t.flags.carry (flag new 0) × SlotsStand o memory t.slots
  pub formed : (caller exit t : AbsState) (offset : ℕ) → IsFormed caller offset → IsFormed exit 0 → bytes_returned caller exit ≡ Some t → IsFormed t offset
  pub untagged : (caller exit t : AbsState) (offset : ℕ) → IsFormed caller offset → IsFormed exit 0 → IsUntagged caller → bytes_returned caller exit ≡ Some t → IsUntagged t
  pub more : (caller caller' exit exit' t : AbsState) (offset : ℕ) → IsFormed caller offset → IsFormed caller' offset → IsFormed exit 0 → IsFormed exit' 0
      → IsStateWithin caller caller' → IsStateWithin exit exit' → bytes_returned caller exit ≡ Some t
      → (t' : AbsState) × (bytes_returned caller' exit' ≡ Some t') × IsStateWithin t t'
  pub none : (caller exit : AbsState) → length exit.registers ≡ REGISTERS → bytes_returned caller exit ≡ None ↔ BytesConflict caller exit

-- A greater state is equal or of greater rank. No rank exceeds the height for its number of slots.
pub record StatesRise : Type 0 where
  pub rises : (s t : AbsState) (offset : ℕ) → IsFormed s offset → IsFormed t offset → IsStateWithin s t → (s ≡ t) ⊎ (state_rank s < state_rank t)
  pub high : (s : AbsState) (offset : ℕ) → IsFormed s offset → state_rank s ≤ height_of offset

-- Numbers in tags fit after reset, at an entry, after a return if they fit in the caller's state, and in greater states.
pub record TagsStayFit : Type 0 where
  pub at_reset : TagsFit root
  pub at_entry : (s : AbsState) → TagsFit (entered s) × HasByteNumbers (entered s).flags.carry
  pub at_return : (caller exit t : AbsState) → length caller.registers ≡ REGISTERS → TagsFit caller → returned caller exit ≡ Some t → TagsFit t
  pub carry_at_return : (caller exit t : AbsState) → HasByteNumbers caller.flags.carry → returned caller exit ≡ Some t → HasByteNumbers t.flags.carry
  pub less : (s t : AbsState) → IsStateWithin s t → TagsFit s → TagsFit t
  pub carry_less : (s t : AbsState) → IsStateWithin s t → HasByteNumbers s.flags.carry → HasByteNumbers t.flags.carry
