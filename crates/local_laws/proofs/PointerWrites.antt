-- A byte stored through a pointer: the rows cover the machine's step.
use Rattle.std.proofs.Common.{◌≡◌, refl, sym, ◌∙◌, ap, subst, ℕ, ◌+◌, ◌<◌, ◌≤◌, ltb-true, Bool, true, false, not, ◌&&◌, ◌||◌, if◌then◌else◌, ◌==◌, List, [], ◌∷◌, length, map, Option, Some, None, arith, eqb-true}
use Rattle.std.proofs.lemmas.Bool.{or_parts, and_from, and_parts}
use Rattle.std.proofs.lemmas.List.Elements.{Contains-append_left, Contains-append_right}
use Rattle.std.specs.List.{filter}
use Rattle.basics.specs.Items.{first_in}
use Rattle.basics.specs.Lists.{both_empty}
use Rattle.avr_model.specs.declared.assumption.Entry.{Entry}
use Rattle.avr_model.specs.declared.effect.Write.{Write}
use Rattle.avr_model.specs.declared.effect.Effect.{Effect}
use Rattle.avr_model.specs.Assumptions.{store_line, is_fixed_site, lists}
use Rattle.avr_model.specs.declared.device.Device.{Device}
use Rattle.avr_model.specs.Devices.{io_end, device_of}
use Rattle.avr_model.specs.Masks.{reads_masks, enables_barred, is_unlisted_site, admits_enables, is_flagged_write}
use Rattle.avr_model.specs.Sreg.{flag}
use Rattle.avr_model.specs.State.{State, REGISTERS, register_at, special, pair, low, high, plus16, minus16}
use Rattle.avr_model.specs.Effects.{set}
use Rattle.avr_model.specs.Step.{with_registers, flagged_write}
use Rattle.avr_model.specs.Vectors.{has_enables, is_core, is_protected, written_enables}
use Rattle.sp_domain.specs.Tags.{Origin, LessHolds}
use Rattle.sp_domain.proofs.AllLaws.{carries_are_ordered}
use Rattle.pair_domain.specs.declared.facts.PairFacts.{PairFacts}
use Rattle.pair_domain.specs.Rank.{KnownFits}
use Rattle.abs_state.specs.declared.values.AbsByte.{AbsByte}
use Rattle.abs_state.specs.declared.state.AbsState.{AbsState}
use Rattle.abs_state.specs.Stands.{ByteStands, RegistersStand}
use Rattle.node_keys.specs.declared.keys.NodeKey.{NodeKey}
use Rattle.node_keys.specs.Keys.{offset_of}
use Rattle.node_keys.specs.Place.{AreAmong, EnablesAre}
use Rattle.node_keys.specs.Wakes.{may_enable_other, widened}
use Rattle.node_keys.proofs.AllLaws.{enables_stay_among}
use Rattle.local_rules.specs.declared.local.Node.{Node}
use Rattle.local_rules.specs.HighBytes.{view_by}
use Rattle.local_rules.specs.Raw.{Raw, at_word, one, all_of}
use Rattle.local_rules.specs.Registers.{value}
use Rattle.local_rules.specs.Reads.{pointed}
use Rattle.local_rules.specs.Permitted.{may_be, is_in_interval, permits_bytes, permits_number}
use Rattle.local_rules.specs.Writes.{written_at, reaches, fixed_write, listed_writes, is_own_slot, may_wake, waking, pointer_write}
use Rattle.local_laws.proofs.Bare.{InBareFrame}
use Rattle.local_laws.proofs.Landing.{ArrivesWhere}
use Rattle.local_laws.proofs.Enables.{none_above}
use Rattle.local_laws.proofs.Specials.{outside_core, sreg_written_is}
use Rattle.local_laws.proofs.Permitted.{has_where_may}
use Rattle.local_laws.proofs.PointerReads.{number_is, frame_is}
use Rattle.local_laws.proofs.SplitMembers.{AreSplitsWritten}
use Rattle.local_laws.proofs.WriteValues.{stored, ReachesNode, enables_stay, chosen, only, elsewhere, changes_none, less_still, facts_still, written}
use Rattle.local_rules.specs.Site.{Task}
use Rattle.local_rules.specs.Writes.{write_at}
use Rattle.abs_state.specs.declared.values.AbsFlags.{AbsFlags}

-- ---- addresses of no register, nor of the stack pointer or the status register

pub record IsElsewhere (device : Device) (a : ℕ) : Type 0 where
  pub beyond : register_at device a ≡ None
  pub none : special device a ≡ None

elsewhere_is : (device : Device) (a : ℕ) → is_core device a ≡ false → IsElsewhere device a
elsewhere_is device a h = let outside = outside_core device a h in record { beyond = outside.0; none = outside.1 }

-- ---- what isn't flagged

flag_none : (b : Bool) (a : ℕ) → (if b then Some a else None) ≡ None → b ≡ false
flag_none true a e = absurd (cc)
flag_none false a e = refl

first_flag : (b x y : Bool) → (if b then x else y) ≡ false → b ≡ true → x ≡ false
first_flag true x y e is = e
first_flag false x y e is = absurd (cc)

second_flag : (b x y : Bool) → (if b then x else y) ≡ false → b ≡ false → y ≡ false
second_flag true x y e is = absurd (cc)
second_flag false x y e is = e

-- a protected address that isn't flagged is listed
is_listed : (protected listed : Bool) → protected ≡ true → (protected && not listed) ≡ false → listed ≡ true
is_listed true true is none = refl
is_listed true false is none = absurd (cc)
is_listed false listed is none = absurd (cc)

-- the line `masks` admits the site
admitting : (device : Device) (A : List Entry) (site : ℕ) → admits_enables device A site ≡ true → reads_masks device A ≡ true
unfolding admits_enables
admitting device A site h = (and_parts (reads_masks device A) (is_unlisted_site (store_line A site)) h).0

-- ---- what may wake a vector

own_slot : (frame : Option ℕ) (offset : ℕ) → is_own_slot frame offset ≡ true → (d : ℕ) × ((frame ≡ Some d) × (d < offset))
own_slot None offset h = absurd (cc)
own_slot (Some d) offset h = (d, (refl, ltb-true d offset h))

-- such a slot lies in SRAM or above it
slot_above : (io a base d offset : ℕ) → a ≡ minus16 base d → d < offset → offset + io ≤ base → base < 65536 → io < a
slot_above io a base d offset is lt room word = omega arith

rest_false : (a b c : Bool) → a ≡ true → (a && b && c) ≡ false → (b && c) ≡ false
rest_false true b c is none = none
rest_false false b c is none = absurd (cc)

-- ---- all of several

module _ {may : Bool} (m : State) (o : Origin) (known : Option PairFacts) (k : NodeKey) (guarded : Bool) (e : Effect) where
  pub by_first : (r : Raw) (rs : List Raw) → ReachesNode may m o known k guarded e r → ReachesNode may m o known k guarded e (all_of (r ∷ rs))
  by_first r rs h = record { to = h.to; present = Contains-append_left r.moves (all_of rs).moves h.to h.present; inst = h.inst; at_node = h.at_node }

  pub by_rest : (r : Raw) (rs : List Raw) → ReachesNode may m o known k guarded e (all_of rs) → ReachesNode may m o known k guarded e (all_of (r ∷ rs))
  by_rest r rs h = record { to = h.to; present = Contains-append_right r.moves (all_of rs).moves h.to h.present; inst = h.inst; at_node = h.at_node }

  -- one more item, which is kept or not, and is the address or not
  by_item : (f : ℕ → Raw) (p : ℕ → Bool) (a x : ℕ) (kept : List ℕ) (listed b c : Bool) → p x ≡ b → (x == a) ≡ c → (c || listed) ≡ true → p a ≡ true
      → ((f a).faults ≡ [] → ReachesNode may m o known k guarded e (f a))
      → (listed ≡ true → (all_of (map f kept)).faults ≡ [] → ReachesNode may m o known k guarded e (all_of (map f kept)))
      → (all_of (map f (if b then x ∷ kept else kept))).faults ≡ [] → ReachesNode may m o known k guarded e (all_of (map f (if b then x ∷ kept else kept)))
  by_item f p a x kept listed true true met same found can h rest clean =
      let empty = both_empty (f x).faults (all_of (map f kept)).faults clean in
      by_first (f x) (map f kept) (subst (λ y. (f y).faults ≡ [] → ReachesNode may m o known k guarded e (f y)) (sym (eqb-true x a same)) h empty.0)
  by_item f p a x kept listed true false met other found can h rest clean =
      let empty = both_empty (f x).faults (all_of (map f kept)).faults clean in
      by_rest (f x) (map f kept) (rest found empty.1)
  by_item f p a x kept listed false true unmet same found can h rest clean =
      let met : p x ≡ true = ap p (eqb-true x a same) ∙ can in
      absurd (cc)
  by_item f p a x kept listed false false unmet other found can h rest clean = rest found clean

  -- a listed address that is possible
  by_listed : (f : ℕ → Raw) (p : ℕ → Bool) (a : ℕ) (xs : List ℕ) → lists xs a ≡ true → p a ≡ true → ((f a).faults ≡ [] → ReachesNode may m o known k guarded e (f a))
      → (all_of (map f (filter p xs))).faults ≡ [] → ReachesNode may m o known k guarded e (all_of (map f (filter p xs)))
  by_listed f p a [] listed can h clean = absurd (cc)
  by_listed f p a (x ∷ xs) listed can h clean =
      by_item f p a x (filter p xs) (lists xs a) (p x) (x == a) refl refl listed can h (λ found. by_listed f p a xs found can h) clean

module _ {may : Bool} (m : State) (o : Origin) (k : NodeKey) (s : AbsState) (at : InBareFrame may m o k s) (guarded : Bool) (pc pc' : ℕ) (pc_is : pc ≡ pc') (writes : List Write)
    (registers : List AbsByte) (stand : RegistersStand o registers (with_registers m.registers writes))
    (less : LessHolds (with_registers m.registers writes) s.flags.carry (flag m.sreg 0)) (told : Option PairFacts) (told_fits : KnownFits told)
    (byte : ℕ) (small : byte < 256) (v : AbsByte) (stands : ByteStands o v byte) (count_values : length registers ≡ REGISTERS)
    (count : length (with_registers m.registers writes) ≡ REGISTERS) (members : AreSplitsWritten) where
  abbrev key : NodeKey
  key = at_word k pc'

  abbrev state : AbsState
  state = record s { registers = registers; facts = told }

  abbrev effect : ℕ → Effect
  effect a = stored m pc writes false a byte

  known_written : (a : ℕ) → (written_at (write_at m.device k.pc key state v) false a).faults ≡ [] → ReachesNode may m o told k guarded (effect a) (written_at (write_at m.device k.pc key state v) false a)
  known_written = written m o k s at guarded pc pc' pc_is writes registers stand less told told_fits false byte small v stands count_values count members

  fixed_written : (a : ℕ) (c : Option ℕ) → ((x : ℕ) → c ≡ Some x → a ≡ x) → (fixed_write c (write_at m.device k.pc key state v)).faults ≡ []
      → ReachesNode may m o told k guarded (effect a) (fixed_write c (write_at m.device k.pc key state v))
  fixed_written a None is clean = absurd (cc)
  fixed_written a (Some x) is clean = subst (λ b. ReachesNode may m o told k guarded (effect b) (fixed_write (Some x) (write_at m.device k.pc key state v))) (sym (is x refl)) (known_written x clean)

  -- an address outside registers, stack pointer and status register
  elsewhere_written : (a masks : ℕ) → is_core m.device a ≡ false → EnablesAre may (written_enables m.device m.enables a byte) masks
      → ArrivesWhere may m o told guarded (effect a) (record { key = record key { masks = masks }; state = state })
  elsewhere_written a masks free enables =
      let is = elsewhere_is m.device a free in
      elsewhere m o k s at guarded pc pc' pc_is writes registers stand less told told_fits false a byte masks registers s.flags.carry told (carries_are_ordered.same s.flags.carry) is.none
      enables (changes_none m o k s at guarded pc pc' pc_is writes registers stand less told told_fits false a byte is.beyond)
      (less_still m o k s at guarded pc pc' pc_is writes registers stand less told told_fits false a byte is.beyond)
      (facts_still m o k s at guarded pc pc' pc_is writes registers stand less told told_fits false a byte is.beyond (sreg_written_is m.device a byte m.sreg None is.none))

  nothing_written : (a : ℕ) → is_core m.device a ≡ false → EnablesAre may (written_enables m.device m.enables a byte) k.masks → ReachesNode may m o told k guarded (effect a) (one key state)
  nothing_written a free enables =
      only m o k s at guarded pc pc' pc_is writes registers stand less told told_fits false (effect a) (record { key = key; state = state }) refl (elsewhere_written a k.masks free enables)

  kept_enables : (a : ℕ) → has_enables m.device a ≡ false → EnablesAre may (written_enables m.device m.enables a byte) k.masks
  kept_enables a none = enables_stay m o k s at guarded pc pc' pc_is writes registers stand less told told_fits false byte small v stands count_values count a none

  -- ---- a store at a site that isn't fixed

  module _ (task : Task) (mode : may ≡ reads_masks m.device task.assumptions) (is_device : m.device ≡ device_of task.flash) (flags : AbsFlags) (facts : Option PairFacts) (r up : ℕ)
      (permitted : permits_number (record s { flags = flags; facts = facts }) r (minus16 (plus16 (pair m r) up) up) ≡ true) where
    -- the state before the instruction
    abbrev was : AbsState
    was = record s { flags = flags; facts = facts }

    abbrev a : ℕ
    a = plus16 (pair m r) up

    abbrev Reaches : Raw → Type 0
    Reaches x = ReachesNode may m o told k guarded (effect a) x

    reached : reaches was r up a ≡ true
    reached =
        let bytes = (and_parts (permits_bytes was r (minus16 a up)) (is_in_interval was.facts r (minus16 a up)) permitted).0 in
        let both = and_parts (may_be (value was r) (low (minus16 a up))) (may_be (value was (r + 1)) (high (minus16 a up))) bytes in
        and_from _ _ (has_where_may (value was r) (low (minus16 a up)) both.0) (has_where_may (value was (r + 1)) (high (minus16 a up)) both.1)

    -- the successors of the possible listed addresses
    abbrev listed_ones : List Raw
    listed_ones = map (λ b. written_at (write_at m.device k.pc key state v) false b) (filter (λ b. reaches was r up b) (store_line task.assumptions k.pc))

    abbrev listed : Raw
    listed = listed_writes (filter (λ b. reaches was r up b) (store_line task.assumptions k.pc)) (write_at m.device k.pc key state v)

    -- the successor in which vectors may be enabled
    abbrev woken : Node
    woken = record { key = record key { masks = widened m.device task.assumptions k.masks }; state = state }

    by_none : is_core m.device a ≡ false → EnablesAre may (written_enables m.device m.enables a byte) k.masks → Reaches listed
    by_none free enables = by_first m o told k guarded (effect a) (one key state) listed_ones (nothing_written a free enables)

    -- ---- where the line doesn't admit it

    listed_by : (b : Bool) → is_protected m.device a ≡ b → (is_protected m.device a && not (lists (store_line task.assumptions k.pc) a)) ≡ false → listed.faults ≡ [] → Reaches listed
    listed_by false is unflagged clean = let parts = or_parts (is_core m.device a) (has_enables m.device a) is in by_none parts.0 (kept_enables a parts.1)
    listed_by true is unflagged clean =
        by_rest m o told k guarded (effect a) (one key state) listed_ones
        (by_listed m o told k guarded (effect a) (λ b. written_at (write_at m.device k.pc key state v) false b) (λ b. reaches was r up b) a (store_line task.assumptions k.pc)
        (is_listed (is_protected m.device a) (lists (store_line task.assumptions k.pc) a) is unflagged) reached (known_written a) clean)

    -- ---- where it does

    module _ (admitted : admits_enables m.device task.assumptions k.pc ≡ true) (free : is_core m.device a ≡ false) (unbarred : enables_barred m.device task.assumptions a byte ≡ false) where
      may_is : may ≡ true
      may_is = mode ∙ admitting m.device task.assumptions k.pc admitted

      among : AreAmong m.enables k.masks
      among = subst (λ x. EnablesAre x m.enables k.masks) may_is at.place.enables

      from_among : (masks : ℕ) → AreAmong (written_enables m.device m.enables a byte) masks → EnablesAre may (written_enables m.device m.enables a byte) masks
      from_among masks h = subst (λ x. EnablesAre x (written_enables m.device m.enables a byte) masks) (sym may_is) h

      wakes : Reaches (waking true (record { key = record key { masks = widened m.device task.assumptions key.masks }; state = state }) listed)
      wakes =
          record {
            to = woken;
            present = Contains-append_right listed.moves (woken ∷ []) woken (first_in woken []);
            inst = refl;
            at_node = elsewhere_written a (widened m.device task.assumptions k.masks) free (from_among (widened m.device task.assumptions k.masks) (enables_stay_among.woken m.device task.assumptions m.enables k.masks a byte among unbarred));
          }

      own : is_own_slot (pointed (view_by m.device k) s r up).frame (offset_of k.sp) ≡ true → EnablesAre may (written_enables m.device m.enables a byte) k.masks
      own is =
          let slot = own_slot (pointed (view_by m.device k) s r up).frame (offset_of k.sp) is in
          kept_enables a (none_above m.device a (slot_above (io_end m.device) a o.base slot.0 (offset_of k.sp) (frame_is m o k s at r up slot.0 slot.1.0) slot.1.1 (at.room may_is) at.base_word))

      asleep : (own_slot other : Bool) → is_own_slot (pointed (view_by m.device k) s r up).frame (offset_of k.sp) ≡ own_slot
          → may_enable_other m.device task.assumptions (λ b. permits_number was r (minus16 b up)) v.bits ≡ other → (not own_slot && other) ≡ false
          → EnablesAre may (written_enables m.device m.enables a byte) k.masks
      asleep true other is is' none = own is
      asleep false other is is' none =
          from_among k.masks
          (enables_stay_among.asleep m.device task.assumptions (λ b. permits_number was r (minus16 b up)) v.bits m.enables k.masks a byte among unbarred (is' ∙ none) permitted stands.bits)

      unless_woken : may_wake task.assumptions was r up (write_at m.device k.pc key state v) ≡ false → EnablesAre may (written_enables m.device m.enables a byte) k.masks
      unfolding may_wake
      unless_woken is =
          asleep (is_own_slot (pointed (view_by m.device k) s r up).frame (offset_of k.sp)) (may_enable_other m.device task.assumptions (λ b. permits_number was r (minus16 b up)) v.bits) refl refl
          (rest_false (admits_enables m.device task.assumptions k.pc) _ _ admitted is)

      admitted_by : (b : Bool) → may_wake task.assumptions was r up (write_at m.device k.pc key state v) ≡ b → Reaches (waking b (record { key = record key { masks = widened m.device task.assumptions key.masks }; state = state }) listed)
      admitted_by true is = wakes
      admitted_by false is = by_none free (unless_woken is)

    -- ---- both

    still : (b : Bool) → Reaches listed → Reaches (waking b (record { key = record key { masks = widened m.device task.assumptions key.masks }; state = state }) listed)
    still true h = record { to = h.to; present = Contains-append_left listed.moves (woken ∷ []) h.to h.present; inst = h.inst; at_node = h.at_node }
    still false h = h

    listed_clean : (b : Bool) → (waking b (record { key = record key { masks = widened m.device task.assumptions key.masks }; state = state }) listed).faults ≡ [] → listed.faults ≡ []
    listed_clean true clean = clean
    listed_clean false clean = clean

    abbrev waken : Bool
    waken = may_wake task.assumptions was r up (write_at m.device k.pc key state v)

    unfixed_by : (b : Bool) → admits_enables m.device task.assumptions k.pc ≡ b → is_flagged_write m.device task.assumptions k.pc a byte ≡ false → (waking waken (record { key = record key { masks = widened m.device task.assumptions key.masks }; state = state }) listed).faults ≡ []
        → Reaches (waking waken (record { key = record key { masks = widened m.device task.assumptions key.masks }; state = state }) listed)
    unfixed_by true is unflagged clean =
        let parts = or_parts (is_core m.device a) (enables_barred m.device task.assumptions a byte) (first_flag (admits_enables m.device task.assumptions k.pc) _ _ unflagged is) in
        admitted_by is parts.0 parts.1 waken refl
    unfixed_by false is unflagged clean =
        still waken (listed_by (is_protected m.device a) refl (second_flag (admits_enables m.device task.assumptions k.pc) _ _ unflagged is) (listed_clean waken clean))

    -- a byte stored through a pointer, if the store isn't flagged
    pub pointer_written : (is_fixed_site task.flash task.assumptions k.pc ≡ false → flagged_write (device_of task.flash) task.assumptions k.pc (set a byte) ≡ None)
        → (pointer_write task was r up (write_at m.device k.pc key state v)).faults ≡ []
        → Reaches (pointer_write task was r up (write_at m.device k.pc key state v))
    pointer_written unflagged clean =
        chosen m o k s at guarded pc pc' pc_is writes registers stand less told told_fits false (effect a) (is_fixed_site task.flash task.assumptions k.pc)
        (fixed_write (pointed (view_by m.device k) s r up).constant (write_at m.device k.pc key state v)) (waking waken (record { key = record key { masks = widened m.device task.assumptions key.masks }; state = state }) listed)
        (λ is rest. fixed_written a (pointed (view_by m.device k) s r up).constant (number_is m o k s at r up) rest)
        (λ is rest. unfixed_by (admits_enables m.device task.assumptions k.pc) refl
        (subst (λ d. is_flagged_write d task.assumptions k.pc a byte ≡ false) (sym is_device) (flag_none (is_flagged_write (device_of task.flash) task.assumptions k.pc a byte) a (unflagged is))) rest) clean
