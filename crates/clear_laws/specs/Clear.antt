-- Clear nodes: no step can be flagged there. Source: own.
use Rattle.std.specs.Prelude.{ℕ, ⊤, ◌+◌, ◌*◌, ◌++◌, ◌∷◌, ◌≡◌, ◌≢◌, ◌<◌, ◌≤◌, ◌&&◌, ◌||◌, ◌==◌, Bool, true, false, not, nat_lt, nat_le, if◌then◌else◌, List, [], Option, Some, None, Contains}
use Rattle.std.specs.List.{list_any}
use Rattle.avr_model.specs.declared.assumption.Entry.{Entry}
use Rattle.avr_model.specs.declared.choice.Choice.{Choice}
use Rattle.avr_model.specs.declared.choice.Choice.TheVariants.{Take}
use Rattle.avr_model.specs.declared.choice.Flag.{Flag}
use Rattle.avr_model.specs.declared.choice.Flag.TheVariants.{Live, Protected, Transfer, Moved}
use Rattle.avr_model.specs.declared.choice.Stop.TheVariants as stop
use Rattle.avr_model.specs.declared.device.Device.{Device}
use Rattle.avr_model.specs.declared.instruction.Instr.{Instr}
use Rattle.avr_model.specs.declared.instruction.Instr.TheVariants as i
use Rattle.avr_model.specs.Assumptions.{jump_line, store_line, recur_line, is_never, is_fixed_site, lists}
use Rattle.avr_model.specs.Bits.{all_below}
use Rattle.avr_model.specs.Masks.{admits_enables}
use Rattle.avr_model.specs.declared.rows.MovingPlace.{MovingPlace}
use Rattle.node_keys.specs.Wakes.{may_have}
use Rattle.avr_model.specs.Devices.{io_end, ramend, wrapped, eind_most, device_of}
use Rattle.avr_model.specs.Effects.{port}
use Rattle.avr_model.specs.Text.{far}
use Rattle.avr_model.specs.Sites.{instruction_at, is_scratch, base_register, pointer_register}
use Rattle.avr_model.specs.State.{State, IsReset, EIND, low, high}
use Rattle.avr_model.specs.Step.{is_pointer_store, is_indirect}
use Rattle.avr_model.specs.Run.{IsRun, stop_of}
use Rattle.avr_model.specs.Vectors.{is_core, is_protected, is_enabled, vector_word, moving_of}
use Rattle.bit_domain.specs.declared.bytes.TriByte.{TriByte}
use Rattle.bit_domain.specs.Tri.{permits}
use Rattle.bit_domain.specs.TriByte.{has, tri_at, byte_any, byte_known}
use Rattle.pair_domain.specs.declared.facts.PairFacts.{PairFacts}
use Rattle.pair_domain.specs.Facts.{is_followed}
use Rattle.abs_state.specs.declared.state.AbsState.{AbsState}
use Rattle.node_keys.specs.declared.keys.NodeKey.{NodeKey}
use Rattle.node_keys.specs.Keys.{offset_of}
use Rattle.node_keys.specs.Wakes.{may_enable_barred}
use Rattle.local_rules.specs.declared.local.Node.{Node}
use Rattle.local_rules.specs.Flow.{targets_at, far_targets_at}
use Rattle.local_rules.specs.Local.{step_before}
use Rattle.local_rules.specs.HighBytes.{view_by}
use Rattle.local_rules.specs.Reads.{pointed}
use Rattle.local_rules.specs.Registers.{bits}
use Rattle.local_rules.specs.Writes.{is_own_slot}
use Rattle.edge_rules.specs.Families.{RankedFamily}
use Rattle.clear_laws.specs.Aims.{Span, Reach, Aim, permits_number, may_write, aim_of}
use Rattle.clear_laws.specs.Aims.reach as reach
use Rattle.clear_laws.specs.Held.{MayHold}
use Rattle.local_rules.specs.Site.{Task, site_at, masks_by}

-- ---- stores

-- a store, or another instruction, at a word, with the state of a node there
pub record Store : Type 0 where
  pub pc : ℕ
  pub state : AbsState
  pub instr : Instr

abbrev pub store_at : ℕ → AbsState → Instr → Store
store_at pc s instr = record { pc = pc; state = s; instr = instr }

-- the bits of the byte that a pointer store stores
abbrev pub stored_bits : AbsState → Instr → TriByte
stored_bits s (i.Std b q r) = bits s r
stored_bits s (i.St p r) = bits s r
stored_bits s _ = byte_any

-- Writing a byte of this kind to this address is flagged at the unfixed site: the address is protected, and no `store` line of the site
-- lists it. If the line `masks` admits the site, only registers, the stack pointer and the status register are protected, and enable bits
-- of barred vectors in which the byte may have 1.
abbrev pub is_guarded : Device → List Entry → ℕ → TriByte → ℕ → Bool
is_guarded device A site value a =
    if admits_enables device A site
    then is_core device a || may_enable_barred device A a value
    else is_protected device a && not (lists (store_line A site) a)

-- The write may be flagged as one of a protected address: the instruction is `st` or `std`, the site isn't fixed, and the address is
-- protected from its byte.
abbrev pub is_flagged_address : Task → Store → ℕ → Bool
is_flagged_address task store a =
    is_pointer_store store.instr && not (is_fixed_site task.flash task.assumptions store.pc)
    && is_guarded (device_of task.flash) task.assumptions store.pc (stored_bits store.state store.instr) a

-- The address is harmless: in SRAM below the stack's reach, above SRAM, or below SRAM and not flagged.
abbrev pub is_address_harmless : Task → ℕ → Store → ℕ → Bool
is_address_harmless task bound store a =
    (nat_lt (io_end (device_of task.flash)) a && nat_le (a + bound) (ramend (device_of task.flash))) || nat_lt (ramend (device_of task.flash)) a
    || (nat_le a (io_end (device_of task.flash)) && not (is_flagged_address task store a))

-- A store with this aim writes no live byte and no flagged address: it has no address; all its addresses are in SRAM below the stack's
-- reach; all are above SRAM; its one address is below SRAM and not flagged; or its address is a slot, below the offset, that may not hold
-- a live byte. If pairs are followed, it is also harmless if each possible address is.
pub data IsHarmless (task : Task) (f : RankedFamily) (n : Node) (instr : Instr) (aim : Aim) : Type 0 where
  no_address : aim.reach ≡ reach.Nothing → IsHarmless task f n instr aim
  under_stack : (span : Span) → aim.reach ≡ reach.Within span → io_end (device_of task.flash) < span.first → span.last + f.bound ≤ ramend (device_of task.flash)
      → IsHarmless task f n instr aim
  above_memory : (span : Span) → aim.reach ≡ reach.Within span → ramend (device_of task.flash) < span.first → IsHarmless task f n instr aim
  one_register : (a : ℕ) → aim.reach ≡ reach.Within (record { first = a; last = a }) → a ≤ io_end (device_of task.flash) → is_flagged_address task (store_at n.key.pc n.state instr) a ≡ false
      → IsHarmless task f n instr aim
  each_address : is_followed n.state.facts ≡ true
      → ((a : ℕ) → a < 65536 → may_write n.state instr a ≡ true → is_address_harmless task f.bound (store_at n.key.pc n.state instr) a ≡ true) → IsHarmless task f n instr aim
  free_slot : (d : ℕ) → aim.slot ≡ Some d → d < offset_of n.key.sp → (MayHold task f.nodes n.key d → ⊥) → IsHarmless task f n instr aim

-- ---- moving bits

-- The byte of the instruction may go to this address: `out` and `sts` write theirs, `st` and `std` what the pointer permits, unless it is
-- known to be a slot of the running frame.
abbrev pub may_reach : Device → NodeKey → AbsState → Instr → ℕ → Bool
may_reach device k s (i.Out p r) a = port device p == a
may_reach device k s (i.Sts x r) a = x == a
may_reach device k s (i.Std b q r) a = may_write s (i.Std b q r) a && not (is_own_slot (pointed (view_by device k) s (base_register b) q).frame (offset_of k.sp))
may_reach device k s (i.St p r) a = may_write s (i.St p r) a && not (is_own_slot (pointed (view_by device k) s (pointer_register p) (step_before p)).frame (offset_of k.sp))
may_reach device k s _ a = false

-- the bits of its byte
abbrev pub written_bits : AbsState → Instr → TriByte
written_bits s (i.Out p r) = bits s r
written_bits s (i.Sts a r) = bits s r
written_bits s instr = stored_bits s instr

-- the value may set a bit of the place, at one of these addresses
abbrev pub may_set : (ℕ → Bool) → TriByte → Option MovingPlace → Bool
may_set reaches value None = false
may_set reaches value (Some s) = reaches s.address && may_have value s.mask

-- the instruction may set a bit that moves vectors, under a list that reads masks
abbrev pub may_move : Task → NodeKey → AbsState → Instr → Bool
may_move task k s instr =
    masks_by task && list_any (may_set (may_reach (device_of task.flash) k s instr) (written_bits s instr)) (moving_of (device_of task.flash))

-- ---- transfers

abbrev pub has_depth : Option ℕ → Bool
has_depth None = false
has_depth (Some depth) = true

abbrev pub or_none : Option (List ℕ) → List ℕ
or_none None = []
or_none (Some words) = words

-- the words that an instruction calls: those of the node's call sites
abbrev pub called_words : Task → NodeKey → AbsState → Instr → List ℕ
called_words task k s i.Icall = or_none (targets_at task.assumptions (site_at (device_of task.flash) k s))
called_words task k s i.Eicall = or_none (far_targets_at task.assumptions (site_at (device_of task.flash) k s))
called_words task k s (i.Call t) = wrapped (device_of task.flash) t ∷ []
called_words task k s (i.Rcall t) = if is_scratch task.flash k.pc then [] else wrapped (device_of task.flash) (far k.pc t) ∷ []
called_words task k s _ = []

abbrev pub is_cut : List Entry → ℕ → Bool
is_cut A word = has_depth (recur_line A word)

-- the instruction calls a word that has a `recur` line
abbrev pub calls_cut : Task → NodeKey → AbsState → Instr → Bool
calls_cut task k s instr = list_any (is_cut task.assumptions) (called_words task k s instr)

-- registers r and r + 1 may hold this number: by their bits alone, and if pairs are followed also by their ranges and interval
abbrev pub permits_by : Option PairFacts → AbsState → ℕ → ℕ → Bool
permits_by None s r p = has (bits s r) (low p) && has (bits s (r + 1)) (high p)
permits_by (Some f) s r p = permits_number s r p

abbrev pub permits_pair : AbsState → ℕ → ℕ → Bool
permits_pair s r p = permits_by s.facts s r p

-- the third byte of an indirect transfer's target: EIND, or 0
abbrev pub target_bank : AbsState → Instr → TriByte
target_bank s i.Eijmp = bits s EIND
target_bank s i.Eicall = bits s EIND
target_bank s _ = byte_known 0

-- each possible target is listed, if there is a line: each word of Z with each third byte that these bits permit
abbrev pub AreTargetsListed : Device → AbsState → TriByte → Option (List ℕ) → Type 0
AreTargetsListed device s bank None = ⊤
AreTargetsListed device s bank (Some listed) =
    (e z : ℕ) → e ≤ eind_most device → has bank e ≡ true → z < 65536 → permits_pair s 30 z ≡ true → lists listed (wrapped device (65536 * e + z)) ≡ true

-- ---- nodes

-- A store is harmless. An indirect transfer with a `jump` line goes to listed words only. No call enters a word with a `recur` line. A moving bit
-- isn't set.
pub record IsClear (task : Task) (f : RankedFamily) (n : Node) : Type 0 where
  pub store : (instr : Instr) (aim : Aim) → instruction_at task.flash n.key.pc ≡ Some instr → aim_of (device_of task.flash) n.key n.state instr ≡ Some aim
      → IsHarmless task f n instr aim
  pub transfer : (instr : Instr) → instruction_at task.flash n.key.pc ≡ Some instr → is_indirect instr ≡ true
      → AreTargetsListed (device_of task.flash) n.state (target_bank n.state instr) (jump_line task.assumptions n.key.pc)
  pub calls : (instr : Instr) → instruction_at task.flash n.key.pc ≡ Some instr → calls_cut task n.key n.state instr ≡ false
  pub stays : (instr : Instr) → instruction_at task.flash n.key.pc ≡ Some instr → may_move task n.key n.state instr ≡ false

-- a node of the family at this word that isn't clear
pub record MayBeFlagged (task : Task) (f : RankedFamily) (pc : ℕ) : Type 0 where
  pub node : Node
  pub present : Contains f.nodes node
  pub is : node.key.pc ≡ pc
  pub unclear : IsClear task f node → ⊥

-- The word has a `never` line, and at one of these nodes a vector that is entered there may be taken: it is enabled, with I set and no
-- delay. That step is flagged.
pub record MayBeTaken (task : Task) (nodes : List Node) (word : ℕ) : Type 0 where
  pub never : is_never task.assumptions word ≡ true
  pub node : Node
  pub present : Contains nodes node
  pub i : node.key.i ≡ true
  pub delay : node.key.delay ≡ false
  pub vector : ℕ
  pub enabled : is_enabled (device_of task.flash) node.key.masks vector ≡ true
  pub is : vector_word (device_of task.flash) vector ≡ word

-- The run stops when it takes a vector that is entered at such a word. If the stack pointer is half written, the entry may write a live
-- byte, and the flag is that one's.
pub record EndsByTake (task : Task) (nodes : List Node) (m : State) (choices : List Choice) : Type 0 where
  pub before : List Choice
  pub vector : ℕ
  pub clears : Bool
  pub rest : List Choice
  pub are : choices ≡ before ++ Take vector clears ∷ rest
  pub passes : stop_of task.flash task.assumptions before m ≡ stop.End
  pub taken : MayBeTaken task nodes (vector_word (device_of task.flash) vector)

-- ---- the same as a test

abbrev pub is_span_harmless : Task → ℕ → Store → Span → Bool
is_span_harmless task bound store span =
    (nat_lt (io_end (device_of task.flash)) span.first && nat_le (span.last + bound) (ramend (device_of task.flash))) || nat_lt (ramend (device_of task.flash)) span.first
    || ((span.first == span.last) && nat_le span.first (io_end (device_of task.flash)) && not (is_flagged_address task store span.first))

abbrev pub is_reach_harmless : Task → ℕ → Store → Reach → Bool
is_reach_harmless task bound store reach.Nothing = true
is_reach_harmless task bound store (reach.Within span) = is_span_harmless task bound store span
is_reach_harmless task bound store reach.Beyond = false

-- pairs are followed, and each possible address is harmless
abbrev pub are_addresses_harmless : Task → ℕ → Store → Bool
are_addresses_harmless task bound store =
    is_followed store.state.facts && all_below 65536 (λ a. not (may_write store.state store.instr a) || is_address_harmless task bound store a)

-- the slot is below the offset and not in `held`, the slots that may hold a live byte
abbrev pub is_slot_harmless : ℕ → (ℕ → Bool) → Option ℕ → Bool
is_slot_harmless offset held None = false
is_slot_harmless offset held (Some d) = nat_lt d offset && not (held d)

-- the test of slots is given
abbrev pub is_aim_harmless : Task → ℕ → Store → (Option ℕ → Bool) → Option Aim → Bool
is_aim_harmless task bound store slots None = true
is_aim_harmless task bound store slots (Some aim) =
    (is_reach_harmless task bound store aim.reach || are_addresses_harmless task bound store) || slots aim.slot

abbrev pub is_target_listed : Device → AbsState → List ℕ → ℕ → ℕ → Bool
is_target_listed device s listed e z = not (permits_pair s 30 z) || lists listed (wrapped device (65536 * e + z))

abbrev pub is_bank_listed : Device → AbsState → TriByte → List ℕ → ℕ → Bool
is_bank_listed device s bank listed e = not (has bank e) || all_below 65536 (is_target_listed device s listed e)

abbrev pub are_targets_listed : Device → AbsState → TriByte → Option (List ℕ) → Bool
are_targets_listed device s bank None = true
are_targets_listed device s bank (Some listed) = all_below (eind_most device + 1) (is_bank_listed device s bank listed)

abbrev pub is_transfer_listed : Task → ℕ → AbsState → Instr → Bool
is_transfer_listed task pc s instr = not (is_indirect instr) || are_targets_listed (device_of task.flash) s (target_bank s instr) (jump_line task.assumptions pc)

abbrev pub is_clear_by : Task → ℕ → Node → (ℕ → Bool) → Option Instr → Bool
is_clear_by task bound n held None = true
is_clear_by task bound n held (Some instr) =
    is_aim_harmless task bound (store_at n.key.pc n.state instr) (is_slot_harmless (offset_of n.key.sp) held) (aim_of (device_of task.flash) n.key n.state instr)
    && (is_transfer_listed task n.key.pc n.state instr && (not (calls_cut task n.key n.state instr) && not (may_move task n.key n.state instr)))

abbrev pub is_clear : Task → ℕ → Node → (ℕ → Bool) → Bool
is_clear task bound n held = is_clear_by task bound n held (instruction_at task.flash n.key.pc)

-- ---- runs

-- the word at which a step is flagged
abbrev pub word_of_flag : Flag → ℕ
word_of_flag (Live pc a) = pc
word_of_flag (Protected pc a) = pc
word_of_flag (Transfer pc target) = pc
word_of_flag (Moved pc) = pc

-- no run from reset is flagged
abbrev pub NeverFlagged : Task → Type 0
NeverFlagged task =
    (m : State) (choices : List Choice) (flag : Flag) → IsReset (device_of task.flash) m → IsRun task.flash task.assumptions choices m → stop_of task.flash task.assumptions choices m ≢ stop.Flag flag
