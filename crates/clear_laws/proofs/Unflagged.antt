-- No step at a clear node is flagged. What each step writes.
use Rattle.std.proofs.Common.{◌≡◌, ◌≢◌, refl, sym, ap, ap₂, ◌∙◌, subst, ℕ, ◌+◌, ◌*◌, ◌-◌, ◌<◌, ◌≤◌, ◌==◌, Bool, true, false, not, ◌&&◌, ◌||◌, nat_le, nat_lt, ◌⊎◌, inl, inr, ⊎_elim, if◌then◌else◌, List, [], ◌∷◌, ◌++◌, Option, Some, None, arith}
use Rattle.std.specs.List.{list_any}
use Rattle.std.proofs.lemmas.Bool.{false_from_ne_true as never, and_from, and_left, and_parts, or_cases, or_from, or_left, or_parts, or_right, not-true, cases_lt}
use Rattle.basics.specs.Booleans.{never_both, left_of_and}
use Rattle.basics.specs.Numbers.{less_from_test, at_most_from_test}
use Rattle.frame_laws.proofs.AllLaws.{vector_small}
use Rattle.avr_model.proofs.AllLaws.{devices_are_alike, nothing_is_behind}
use Rattle.avr_model.specs.declared.assumption.Entry.{Entry}
use Rattle.avr_model.specs.declared.device.Device.{Device}
use Rattle.avr_model.specs.declared.rows.EnablePlace.{EnablePlace}
use Rattle.avr_model.specs.declared.instruction.Instr.{Instr}
use Rattle.avr_model.specs.declared.instruction.Instr.TheVariants as i
use Rattle.avr_model.specs.declared.choice.Choice.{Choice}
use Rattle.avr_model.specs.declared.choice.Choice.TheVariants.{Take}
use Rattle.avr_model.specs.declared.choice.Flag.{Flag}
use Rattle.avr_model.specs.declared.effect.Effect.{Effect}
use Rattle.avr_model.specs.declared.effect.Write.{Write}
use Rattle.avr_model.specs.Assumptions.{jump_line, store_line, is_never, is_fixed_site, lists}
use Rattle.avr_model.specs.Masks.{reads_masks, is_barred, enables_barred, admits_enables, is_flagged_write}
use Rattle.avr_model.specs.Devices.{guarded_end, io_end, ramend, has_sph, wrapped, eind_most, device_of}
use Rattle.avr_model.specs.Sites.{instruction_at, is_scratch}
use Rattle.avr_model.specs.State.{State, Memory, EIND, REGISTERS, is_live, i_flag, register, pair, low, high}
use Rattle.avr_model.specs.Vectors.{enable_places, has_enables, is_core, is_protected, is_enabled, vector_word, watchdog}
use Rattle.avr_model.specs.Effects.{set, way_back, extended_word}
use Rattle.avr_model.specs.Step.{Illegal, Overflow, Flagged, after, all_inside, live_write, flagged_write, protected_write, unless_listed, unlisted_transfer, is_call, deep_call, first_of, refused_transfer, moves_vectors, is_pointer_store, is_indirect, is_refused, is_guarding, flag_by, flagged_or, may_take, entering, never_target, take, go}
use Rattle.bit_domain.specs.declared.bytes.TriByte.{TriByte}
use Rattle.bit_domain.specs.TriByte.{Has, has, byte_known}
use Rattle.bit_domain.proofs.AllLaws.{bytes_are_sets, tests_tell_members}
use Rattle.node_keys.specs.declared.keys.NodeKey.{NodeKey}
use Rattle.node_keys.specs.declared.keys.SpForm.{SpForm}
use Rattle.node_keys.specs.declared.keys.SpForm.TheVariants.{Closed, Open}
use Rattle.node_keys.specs.Keys.{offset_of}
use Rattle.node_keys.specs.Wakes.{may_enable, may_enable_barred}
use Rattle.node_keys.proofs.AllLaws.{enables_stay_among}
use Rattle.pair_domain.specs.declared.facts.PairFacts.{PairFacts}
use Rattle.abs_state.specs.declared.state.AbsState.{AbsState}
use Rattle.abs_state.specs.Stands.{ByteStands}
use Rattle.local_rules.specs.Registers.{value, bits, before}
use Rattle.local_rules.specs.Local.{row_of, is_hung}
use Rattle.local_rules.specs.Permitted.{may_be}
use Rattle.local_laws.proofs.AllLaws.{open_pairs_hang, above_if_live, bare_frame, enabled_too, has_where_may, pair_permitted}
use Rattle.edge_rules.specs.Families.{RankedFamily, IsSoundFamily}
use Rattle.edge_rules.specs.Frames.{Frame, Runs}
use Rattle.clear_laws.specs.Aims.{Aim, permits_number, may_write, aim_of}
use Rattle.clear_laws.specs.Clear.{IsClear, IsHarmless, no_address, under_stack, above_memory, one_register, each_address, free_slot, stored_bits, is_guarded, is_flagged_address, is_address_harmless, permits_by, target_bank, AreTargetsListed, may_reach, written_bits, may_move, calls_cut}
use Rattle.clear_laws.proofs.Memory.{IsPushedAt, inside_if_live}
use Rattle.clear_laws.proofs.Ports.{ports_fit}
use Rattle.clear_laws.proofs.Aims.{IsStoreReached, IsAimed}
use Rattle.clear_laws.proofs.Bases.{base_inside}
use Rattle.clear_laws.proofs.Calls.{deep_is_cut}
use Rattle.clear_laws.proofs.Moving.{none_moves, one_moves, may_set_there}
use Rattle.clear_laws.proofs.Effects.{IsSpWhole, MaySetTo, Does, nothing, to_port, by_aim, pushing, entering as enters, does}
use Rattle.clear_laws.proofs.Rows.{IsPlainRow, calls_push, row_of_pushing, not_hung}
use Rattle.clear_laws.proofs.Pushed.{masked_by}
use Rattle.clear_laws.proofs.Steps.{whole_sp, way_below}
use Rattle.clear_laws.proofs.Kept.{Holding}
use Rattle.local_rules.specs.Cover.{effect_by}
use Rattle.local_rules.specs.Site.{Task, site_at, masks_by}
use Rattle.clear_laws.specs.Clear.{Store, store_at}

-- ---- the three cases

not_flagged : (t : Bool) (pc : ℕ) (a b c : Option ℕ) (d : Bool) (x : State) (flag : Flag) → a ≡ None → b ≡ None → c ≡ None → d ≡ false
    → (if t then flagged_or (flag_by pc a b c d) x else Overflow pc) ≢ Flagged flag
not_flagged false pc a b c d x flag ha hb hc hd = λ e. cc
not_flagged true pc None None None false x flag ha hb hc hd = λ e. cc
not_flagged true pc None None None true x flag ha hb hc hd = absurd (cc)
not_flagged true pc (Some a) b c d x flag ha hb hc hd = absurd (cc)
not_flagged true pc None (Some b) c d x flag ha hb hc hd = absurd (cc)
not_flagged true pc None None (Some c) d x flag ha hb hc hd = absurd (cc)

-- ---- transfers

-- a number that bits, ranges and interval permit is one that counts for a transfer
counted : (facts : Option PairFacts) (s : AbsState) (r p : ℕ) → permits_number s r p ≡ true → permits_by facts s r p ≡ true
counted None s r p h =
    let bytes = and_parts (may_be (value s r) (low p)) (may_be (value s (r + 1)) (high p)) (left_of_and _ _ h) in
    and_from _ _ (has_where_may (value s r) (low p) bytes.0) (has_where_may (value s (r + 1)) (high p) bytes.1)
counted (Some f) s r p h = h

-- a permitted Z with a permitted third byte goes to a listed word
goes_listed : (device : Device) (s : AbsState) (bank : TriByte) (line : Option (List ℕ)) (e z : ℕ) → AreTargetsListed device s bank line → e ≤ eind_most device → has bank e ≡ true → z < 65536
    → permits_number s 30 z ≡ true → unless_listed line (wrapped device (65536 * e + z)) ≡ None
goes_listed device s bank None e z all most third small may = refl
goes_listed device s bank (Some listed) e z all most third small may =
    ap (λ b. if b then None else Some (wrapped device (65536 * e + z))) (all e z most third small (counted s.facts s 30 z may))

none_below : (z : ℕ) → 65536 * 0 + z ≡ z
none_below z = omega arith

-- ---- protected writes

none_stored : (device : Device) (A : List Entry) (site : ℕ) (b : Bool) → (if b then flagged_write device A site [] else None) ≡ None
none_stored device A site true = refl
none_stored device A site false = refl

protected_by : (stores fixed protected : Bool) (a : ℕ) → (stores && not fixed && protected) ≡ false
    → (if stores && not fixed then (if protected then Some a else None) else None) ≡ None
protected_by false fixed protected a h = refl
protected_by true true protected a h = refl
protected_by true false true a h = absurd (cc)
protected_by true false false a h = refl

-- writing a byte is flagged only at an address that is guarded against its possible values
guarded_write : (device : Device) (A : List Entry) (site : ℕ) (value : TriByte) (a byte : ℕ) → Has value byte → is_flagged_write device A site a byte ≡ true
    → is_guarded device A site value a ≡ true
guarded_write device A site value a byte has = by (admits_enables device A site)
  where
    by : (b : Bool) → (if b then is_core device a || enables_barred device A a byte else is_protected device a && not (lists (store_line A site) a)) ≡ true
        → (if b then is_core device a || may_enable_barred device A a value else is_protected device a && not (lists (store_line A site) a)) ≡ true
    by true h =
        ⊎_elim (λ core. or_left (is_core device a) _ core) (λ barred. or_right (is_core device a) _ (enables_stay_among.barred device A value a byte has barred))
        (or_cases (is_core device a) (enables_barred device A a byte) h)
    by false h = h

module _ (task : Task) (instr : Instr) (pc : ℕ) where
  nothing_protected : (e : Effect) → e.stores ≡ [] → protected_write task.flash task.assumptions pc instr e ≡ None
  unfolding protected_write
  nothing_protected e none =
      ap (λ ws. if is_pointer_store instr && not (is_fixed_site task.flash task.assumptions pc) then flagged_write (device_of task.flash) task.assumptions pc ws else None) none
      ∙ none_stored (device_of task.flash) task.assumptions pc (is_pointer_store instr && not (is_fixed_site task.flash task.assumptions pc))

  -- an instruction that is no pointer store isn't flagged as one
  store_alone : (e : Effect) → is_pointer_store instr ≡ false → protected_write task.flash task.assumptions pc instr e ≡ None
  unfolding protected_write
  store_alone e plain = ap (λ b. if b && not (is_fixed_site task.flash task.assumptions pc) then flagged_write (device_of task.flash) task.assumptions pc e.stores else None) plain

  -- a flagged write goes to an address that may be flagged
  pub flagged_by_write : (s : AbsState) (a byte : ℕ) → Has (stored_bits s instr) byte
      → (is_pointer_store instr && not (is_fixed_site task.flash task.assumptions pc) && is_flagged_write (device_of task.flash) task.assumptions pc a byte) ≡ true → is_flagged_address task (store_at pc s instr) a ≡ true
  flagged_by_write s a byte has h =
      let parts = and_parts (is_pointer_store instr && not (is_fixed_site task.flash task.assumptions pc)) (is_flagged_write (device_of task.flash) task.assumptions pc a byte) h in
      and_from _ _ parts.0 (guarded_write (device_of task.flash) task.assumptions pc (stored_bits s instr) a byte has parts.1)

  one_protected : (s : AbsState) (e : Effect) (a byte : ℕ) → Has (stored_bits s instr) byte → e.stores ≡ set a byte → is_flagged_address task (store_at pc s instr) a ≡ false
      → protected_write task.flash task.assumptions pc instr e ≡ None
  unfolding protected_write
  one_protected s e a byte has stores free =
      ap (λ ws. if is_pointer_store instr && not (is_fixed_site task.flash task.assumptions pc) then flagged_write (device_of task.flash) task.assumptions pc ws else None) stores
      ∙ protected_by (is_pointer_store instr) (is_fixed_site task.flash task.assumptions pc) (is_flagged_write (device_of task.flash) task.assumptions pc a byte) a
      (never (is_pointer_store instr && not (is_fixed_site task.flash task.assumptions pc) && is_flagged_write (device_of task.flash) task.assumptions pc a byte)
      (λ h. never_both _ (flagged_by_write s a byte has h) free))

-- an address that enables no vector enables no barred one
none_barred : (ps : List EnablePlace) (a : ℕ) (p q : EnablePlace → Bool) → list_any (λ (x : EnablePlace). x.address == a) ps ≡ false
    → list_any (λ (x : EnablePlace). (x.address == a) && p x && q x) ps ≡ false
none_barred [] a p q none = refl
none_barred (x ∷ ps) a p q none =
    let parts = or_parts (x.address == a) (list_any (λ (x : EnablePlace). x.address == a) ps) none in
    or_from _ _ (and_left ((x.address == a) && p x) (q x) (and_left (x.address == a) (p x) parts.0)) (none_barred ps a p q parts.1)

no_barred : (device : Device) (A : List Entry) (a : ℕ) (value : TriByte) → guarded_end device < a → may_enable_barred device A a value ≡ false
unfolding may_enable_barred has_enables
no_barred device A a value lt = none_barred (enable_places device) a (λ (x : EnablePlace). may_enable value x) (λ (x : EnablePlace). is_barred device A x.vector) (nothing_is_behind.enables device a lt)

unguarded : (device : Device) (A : List Entry) (site : ℕ) (value : TriByte) (a : ℕ) → guarded_end device < a → is_guarded device A site value a ≡ false
unguarded device A site value a lt = by (admits_enables device A site)
  where
    by : (b : Bool) → (if b then is_core device a || may_enable_barred device A a value else is_protected device a && not (lists (store_line A site) a)) ≡ false
    by true = or_from _ _ (nothing_is_behind.core device a lt) (no_barred device A a value lt)
    by false = and_left _ _ (or_from _ _ (nothing_is_behind.core device a lt) (nothing_is_behind.enables device a lt))

-- a write is flagged as protected only within the guarded addresses
pub flagged_within : (task : Task) (store : Store) (a : ℕ) → is_flagged_address task store a ≡ true → a < guarded_end (device_of task.flash) + 1
flagged_within task store a h =
    ⊎_elim (λ lt. lt)
    (λ over.
    absurd
    (never_both (is_guarded (device_of task.flash) task.assumptions store.pc (stored_bits store.state store.instr) a)
    (and_parts (is_pointer_store store.instr && not (is_fixed_site task.flash task.assumptions store.pc)) _ h).1
    (unguarded (device_of task.flash) task.assumptions store.pc (stored_bits store.state store.instr) a (omega (arith, over)))))
    (cases_lt a (guarded_end (device_of task.flash) + 1))

and_false : (a b c : Bool) → c ≡ false → (a && b && c) ≡ false
and_false a b c h = grind arith

-- ---- what a store writes

-- a write to this address isn't flagged
record IsFreeToWrite (task : Task) (memory : Memory) (pc : ℕ) (s : AbsState) (instr : Instr) (a : ℕ) : Type 0 where
  dead : is_live memory a ≡ false
  free : is_flagged_address task (store_at pc s instr) a ≡ false

both_ends : (a b : ℕ) → b ≤ a → a ≤ b → b ≡ a
both_ends a b h g = omega arith

no_write : (memory : Memory) (ws : List Write) → ws ≡ [] → live_write memory ws ≡ None
unfolding live_write
no_write memory ws e = ap (live_write memory) e

one_by : (b : Bool) (a : ℕ) → b ≡ false → (if b then Some a else None) ≡ None
one_by true a e = absurd (cc)
one_by false a e = refl

one_write : (memory : Memory) (a byte : ℕ) → is_live memory a ≡ false → live_write memory (set a byte) ≡ None
unfolding live_write
one_write memory a byte dead = one_by (is_live memory a) a dead

or_rest : (b : Bool) (x : ℕ) (rest : Option ℕ) → b ≡ false → rest ≡ None → (if b then Some x else rest) ≡ None
or_rest true x rest e f = absurd (cc)
or_rest false x rest e f = f

dead_writes : (memory : Memory) (ws : List Write) → ((a : ℕ) → IsPushedAt ws a → is_live memory a ≡ false) → live_write memory ws ≡ None
unfolding live_write
dead_writes memory [] dead = refl
dead_writes memory (w ∷ ws) dead =
    or_rest (is_live memory w.address) w.address (live_write memory ws) (dead w.address (inl refl)) (dead_writes memory ws (λ a there. dead a (inr there)))

-- ---- where an interrupt may come

all_four : (a b c d : Bool) → (a && b && not c && d) ≡ true → (a ≡ true) × (b ≡ true) × (c ≡ false)
all_four a b c d h = (grind arith, grind arith, grind arith)

whole_where_taken : (device : Device) (A : List Entry) (k : NodeKey) (v : ℕ) (form : SpForm) → k.sp ≡ form → k.i ≡ true → k.delay ≡ false → is_enabled device k.masks v ≡ true
    → is_never A (vector_word device v) ≡ false → is_hung device A k form ≡ false → IsSpWhole k.sp
whole_where_taken device A k v (Closed offset) is i delay enabled allowed hung = (offset, is)
whole_where_taken device A k v (Open offset high) is i delay enabled allowed hung =
    absurd (never_both (is_hung device A k (Open offset high)) (open_pairs_hang.hung device A k v offset high i delay enabled allowed) hung)

module _ (task : Task) (f : RankedFamily) (sound : IsSoundFamily task f) (m : State) (g : Frame) (gs : List Frame) (runs : Runs task f m g gs)
    (holds : Holding task f m.memory g gs) where
  abbrev k : NodeKey
  k = g.node.key

  abbrev below : ℕ
  below = io_end (device_of task.flash)

  abbrev top : ℕ
  top = ramend (device_of task.flash)

  -- what holds of the machine's device holds of the image's
  on_words : (P : Device → Type 0) → P m.device → P (device_of task.flash)
  on_words P h = subst P runs.device h

  -- a live byte is in SRAM
  above : (a : ℕ) → is_live m.memory a ≡ true → below < a
  above a live = subst (λ x. x < a) (runs.running.machine.below ∙ ap io_end runs.device) (above_if_live m.memory.below m.memory.live a live)

  pub inside : (a : ℕ) → is_live m.memory a ≡ true → a ≤ top
  inside a live =
      let same : ramend m.device ≡ top = ap ramend runs.device in
      omega (arith, inside_if_live m.memory.below m.memory.live a live, runs.running.machine.below, runs.running.machine.count_live, same)

  sp_at : (offset : ℕ) → k.sp ≡ Closed offset → m.sp + offset ≡ g.origin.base
  sp_at offset e = whole_sp g.origin.base m.is_open m.sp offset k.sp e runs.running.place.sp

  low_base : g.origin.base ≤ top
  low_base = base_inside task f m.memory gs k.inst g.origin runs.left

  top_small : top < 33280
  top_small = devices_are_alike.most_ramend (device_of task.flash)

  -- bytes at a whole stack pointer and below it aren't live
  sp_dead : IsSpWhole k.sp → is_live m.memory m.sp ≡ false
  sp_dead form = never (is_live m.memory m.sp) (λ live. omega (arith, holds.above m.sp live, sp_at form.0 form.1, ap offset_of form.1))

  way_dead : IsSpWhole k.sp → (device : Device) → m.device ≡ device → (back a : ℕ) → IsPushedAt (way_back device m.sp back) a → is_live m.memory a ≡ false
  way_dead form device same back a there =
      never (is_live m.memory a)
      (λ live.
      let low = way_below task f m g gs runs form.0 form.1 device same back a (omega (arith, inside a live, top_small)) there in
      omega (arith, holds.above a live, low, ap offset_of form.1))

  -- the word of a vector
  vector_is : (v : ℕ) → is_enabled m.device m.enables v ≡ true → wrapped m.device (vector_word m.device v) ≡ vector_word (device_of task.flash) v
  vector_is v enabled =
      devices_are_alike.same m.device (vector_word m.device v) (devices_are_alike.vectors m.device v (vector_small m.device m.enables v enabled))
      ∙ ap (λ device. vector_word device v) runs.device

  -- nothing is protected above I/O
  high_free : (instr : Instr) (a : ℕ) → below < a → is_flagged_address task (store_at k.pc g.node.state instr) a ≡ false
  high_free instr a lt = and_false (is_pointer_store instr) (not (is_fixed_site task.flash task.assumptions k.pc)) _ (unguarded (device_of task.flash) task.assumptions k.pc (stored_bits g.node.state instr) a (omega (arith, lt, devices_are_alike.guarded_in (device_of task.flash))))

  -- a harmless address
  abbrev under : ℕ → Bool
  under a = nat_lt below a && nat_le (a + f.bound) top

  abbrev outside : Instr → ℕ → Bool
  outside instr a = nat_le a below && not (is_flagged_address task (store_at k.pc g.node.state instr) a)

  under_free : (instr : Instr) (a : ℕ) → below < a → a + f.bound ≤ top → IsFreeToWrite task m.memory k.pc g.node.state instr a
  under_free instr a low high =
      record { dead = never (is_live m.memory a) (λ live. omega (arith, high, holds.above a live, holds.depth)); free = high_free instr a (omega (arith, low)) }

  over_free : (instr : Instr) (a : ℕ) → top < a → IsFreeToWrite task m.memory k.pc g.node.state instr a
  over_free instr a over = record { dead = never (is_live m.memory a) (λ live. omega (arith, over, inside a live)); free = high_free instr a (omega (arith, over)) }

  below_free : (instr : Instr) (a : ℕ) → a ≤ below → is_flagged_address task (store_at k.pc g.node.state instr) a ≡ false → IsFreeToWrite task m.memory k.pc g.node.state instr a
  below_free instr a low free = record { dead = never (is_live m.memory a) (λ live. omega (arith, low, above a live)); free = free }

  address_free : (instr : Instr) (a : ℕ) → is_address_harmless task f.bound (store_at k.pc g.node.state instr) a ≡ true → IsFreeToWrite task m.memory k.pc g.node.state instr a
  address_free instr a h = ⊎_elim (λ first. ⊎_elim by_under by_over (or_cases (under a) (nat_lt top a) first)) by_outside (or_cases (under a || nat_lt top a) (outside instr a) h)
    where
      by_under : under a ≡ true → IsFreeToWrite task m.memory k.pc g.node.state instr a
      by_under t =
          let parts = and_parts (nat_lt below a) (nat_le (a + f.bound) top) t in
          under_free instr a (less_from_test below a parts.0) (at_most_from_test (a + f.bound) top parts.1)

      by_over : nat_lt top a ≡ true → IsFreeToWrite task m.memory k.pc g.node.state instr a
      by_over t = over_free instr a (less_from_test top a t)

      by_outside : outside instr a ≡ true → IsFreeToWrite task m.memory k.pc g.node.state instr a
      by_outside t =
          let parts = and_parts (nat_le a below) (not (is_flagged_address task (store_at k.pc g.node.state instr) a)) t in
          below_free instr a (at_most_from_test a below parts.0) (not-true (is_flagged_address task (store_at k.pc g.node.state instr) a) parts.1)

  -- a harmless store
  harmless_free : (instr : Instr) (aim : Aim) (a : ℕ) → IsAimed g.origin.base aim a → may_write g.node.state instr a ≡ true → IsHarmless task f g.node instr aim
      → IsFreeToWrite task m.memory k.pc g.node.state instr a
  harmless_free instr aim a aimed may (no_address is) = absurd (subst (λ r. IsStoreReached r a) is aimed.reach)
  harmless_free instr aim a aimed may (under_stack span is low high) =
      let within = subst (λ r. IsStoreReached r a) is aimed.reach in
      under_free instr a (omega (arith, within.first, low)) (omega (arith, within.last, high))
  harmless_free instr aim a aimed may (above_memory span is over) =
      let within = subst (λ r. IsStoreReached r a) is aimed.reach in
      over_free instr a (omega (arith, within.first, over))
  harmless_free instr aim a aimed may (one_register b is low free) =
      let within = subst (λ r. IsStoreReached r a) is aimed.reach in
      let same = both_ends a b within.first within.last in
      below_free instr a (omega (arith, same, low)) (subst (λ x. is_flagged_address task (store_at k.pc g.node.state instr) x ≡ false) same free)
  harmless_free instr aim a aimed may (each_address followed each) =
      ⊎_elim (λ lt. address_free instr a (each a lt may)) (λ over. over_free instr a (omega (arith, over, top_small))) (cases_lt a 65536)
  harmless_free instr aim a aimed may (free_slot d is lt none) =
      let at : a ≡ g.origin.base - d = omega (arith, aimed.slot d is, lt, holds.depth, sound.small, low_base, top_small) in
      record {
        dead = never (is_live m.memory a) (λ live. none (holds.running d lt (subst (λ x. is_live m.memory x ≡ true) at live)));
        free = high_free instr a (omega (arith, at, lt, holds.depth, sound.small, low_base));
      }

  module _ (b1 b2 : ℕ) (instr : Instr) (is : instruction_at task.flash m.pc ≡ Some instr) where
    abbrev effect : Effect
    effect = effect_by task m instr b1 b2

    -- the effect writes no live byte and no protected one
    pub record IsSafe : Type 0 where
      pub live : live_write m.memory (effect.stores ++ effect.pushes) ≡ None
      pub protected : protected_write task.flash task.assumptions m.pc instr effect ≡ None

    -- it stores one byte, within its aim and at a permitted address
    pub record IsStore : Type 0 where
      pub address : ℕ
      pub byte : ℕ
      pub aim : Aim
      pub at : aim_of (device_of task.flash) k g.node.state instr ≡ Some aim
      pub aimed : IsAimed g.origin.base aim address
      pub may : may_write g.node.state instr address ≡ true
      pub has_byte : Has (stored_bits g.node.state instr) byte
      pub stores : effect.stores ≡ set address byte
      pub pushes : effect.pushes ≡ []

    stands : (r : ℕ) → r < REGISTERS → ByteStands g.origin (value g.node.state r) (register m r)
    stands r lt = runs.running.stands.registers r lt

    abbrev state : AbsState
    state = before instr g.node.state

    here : instruction_at task.flash k.pc ≡ Some instr
    here = subst (λ p. instruction_at task.flash p ≡ Some instr) runs.running.place.pc is

    one_safe : (a byte : ℕ) → Has (stored_bits g.node.state instr) byte → is_live m.memory a ≡ false → is_flagged_address task (store_at m.pc g.node.state instr) a ≡ false → effect.stores ≡ set a byte → effect.pushes ≡ [] → IsSafe
    one_safe a byte has dead free stores pushes =
        record {
          live = ap₂ (λ ss ps. live_write m.memory (ss ++ ps)) stores pushes ∙ one_write m.memory a byte dead;
          protected = one_protected task instr m.pc g.node.state effect a byte has stores free;
        }

    abbrev Done : Type 0
    Done =
        Does (masks_by task) (device_of task.flash) m g.origin.base k g.node.state instr effect (row_of task (is_scratch task.flash k.pc) (site_at (device_of task.flash) k state) instr)
        (row_of task false (site_at (device_of task.flash) k state) instr)

    sorted : Done → IsSafe ⊎ IsStore
    sorted (nothing stores pushes) =
        inl
        (record {
          live = no_write m.memory _ (ap₂ (λ (ss ps : List Write). ss ++ ps) stores pushes);
          protected = nothing_protected task instr m.pc effect stores;
        })
    sorted (to_port a byte low plain sets stores pushes) =
        inl
        (record {
          live = ap₂ (λ ss ps. live_write m.memory (ss ++ ps)) stores pushes ∙ one_write m.memory a byte (never (is_live m.memory a) (λ live. omega (arith, low, above a live)));
          protected = store_alone task instr m.pc effect plain;
        })
    sorted (by_aim a byte aim at aimed may has sets stores pushes) =
        inr (record { address = a; byte = byte; aim = aim; at = at; aimed = aimed; may = may; has_byte = has; stores = stores; pushes = pushes })
    sorted (pushing byte push plain closes closed stores pushes) =
        let form = closes (row_of_pushing task k g.node.state instr here (sound.faultless g.node runs.present) plain).faultless in
        inl
        (record {
          live = ap₂ (λ ss ps. live_write m.memory (ss ++ ps)) stores pushes ∙ one_write m.memory m.sp byte (sp_dead form);
          protected = nothing_protected task instr m.pc effect stores;
        })
    sorted (enters back none plain closes closed stores pushes) =
        let form = closes (row_of_pushing task k g.node.state instr here (sound.faultless g.node runs.present) plain).faultless in
        inl
        (record {
          live = ap₂ (λ ss ps. live_write m.memory (ss ++ ps)) stores pushes ∙ dead_writes m.memory (way_back (device_of task.flash) m.sp back) (way_dead form (device_of task.flash) runs.device back);
          protected = nothing_protected task instr m.pc effect stores;
        })

    set_by : (a byte : ℕ) → MaySetTo (masks_by task) (device_of task.flash) k g.node.state instr a byte → effect.stores ≡ set a byte
        → moves_vectors (device_of task.flash) (masks_by task) effect.stores ≡ true → may_move task k g.node.state instr ≡ true
    set_by a byte sets stores moves =
        let parts = one_moves (device_of task.flash) (masks_by task) effect.stores a byte stores moves in
        let reached = sets parts.0 parts.1 in
        and_from (masks_by task) _ parts.0
        (may_set_there (device_of task.flash) (may_reach (device_of task.flash) k g.node.state instr) (written_bits g.node.state instr) a byte parts.1 reached.0 reached.1)

    done_so : Done
    done_so = does task m g.origin k g.node.state (before instr g.node.state) runs.running (masked_by task m runs.device) (is_scratch task.flash k.pc) b1 b2 (device_of task.flash) runs.device instr (ports_fit task.flash m.pc instr is)

    pub writes : IsSafe ⊎ IsStore
    writes = sorted done_so

    -- a step that sets a moving bit is at a node whose instruction may
    abbrev moving : Bool
    moving = moves_vectors (device_of task.flash) (masks_by task) effect.stores

    moves_by : Done → moving ≡ true → may_move task k g.node.state instr ≡ true
    moves_by (nothing stores pushes) moves = absurd (none_moves (device_of task.flash) (masks_by task) effect.stores stores moves)
    moves_by (to_port a byte low plain sets stores pushes) moves = set_by a byte sets stores moves
    moves_by (by_aim a byte aim at aimed may has sets stores pushes) moves = set_by a byte sets stores moves
    moves_by (pushing byte push plain closes closed stores pushes) moves = absurd (none_moves (device_of task.flash) (masks_by task) effect.stores stores moves)
    moves_by (enters back none plain closes closed stores pushes) moves = absurd (none_moves (device_of task.flash) (masks_by task) effect.stores stores moves)

    pub may_move_if : moving ≡ true → may_move task k g.node.state instr ≡ true
    may_move_if moves = moves_by done_so moves

    plain_row : is_call instr ≡ true → IsPlainRow task k g.node.state instr
    plain_row calls = row_of_pushing task k g.node.state instr here (sound.faultless g.node runs.present) (calls_push instr calls)

    -- a call that is flagged for its depth is one of a word with a `recur` line
    pub cut_if_deep : (x : ℕ) → deep_call task.flash task.assumptions m instr effect ≡ Some x → unlisted_transfer task.assumptions m.pc instr effect ≡ None
        → calls_cut task k g.node.state instr ≡ true
    cut_if_deep x deep listed =
        deep_is_cut task m g.origin k g.node.state runs.running (masked_by task m runs.device) b1 b2 runs.device instr plain_row x deep listed (stands 30 (omega arith)).small (stands 31 (omega arith)).small

    safe : IsClear task f g.node → IsSafe
    safe clear = ⊎_elim (λ s. s) harmless writes
      where
        harmless : IsStore → IsSafe
        harmless w =
            let free = harmless_free instr w.aim w.address w.aimed w.may (clear.store instr w.aim here w.at) in
            one_safe w.address w.byte w.has_byte free.dead (subst (λ p. is_flagged_address task (store_at p g.node.state instr) w.address ≡ false) (sym runs.running.place.pc) free.free) w.stores w.pushes

    -- an indirect transfer's word is listed
    word_listed : (e : ℕ) → IsClear task f g.node → is_indirect instr ≡ true → e ≤ eind_most (device_of task.flash) → has (target_bank g.node.state instr) e ≡ true
        → unless_listed (jump_line task.assumptions m.pc) (wrapped m.device (65536 * e + pair m 30)) ≡ None
    word_listed e clear indirect most third =
        let all = clear.transfer instr here indirect in
        subst (λ p. unless_listed (jump_line task.assumptions p) (wrapped m.device (65536 * e + pair m 30)) ≡ None) (sym runs.running.place.pc)
        (subst (λ device. unless_listed (jump_line task.assumptions k.pc) (wrapped device (65536 * e + pair m 30)) ≡ None) (sym runs.device)
        (goes_listed (device_of task.flash) g.node.state (target_bank g.node.state instr) (jump_line task.assumptions k.pc) e (pair m 30) all most third
        (omega (arith, (stands 30 (omega arith)).small, (stands 31 (omega arith)).small))
        (pair_permitted m g.origin k g.node.state (bare_frame m g.origin k g.node.state (masked_by task m runs.device) runs.running) 30 (omega arith, refl))))

    -- by Z alone
    z_listed : IsClear task f g.node → is_indirect instr ≡ true → target_bank g.node.state instr ≡ byte_known 0
        → unless_listed (jump_line task.assumptions m.pc) (wrapped m.device (pair m 30)) ≡ None
    z_listed clear indirect plain =
        subst (λ z. unless_listed (jump_line task.assumptions m.pc) (wrapped m.device z) ≡ None) (none_below (pair m 30))
        (word_listed 0 clear indirect (omega arith) (ap (λ b. has b 0) plain ∙ (tests_tell_members.bytes (byte_known 0) 0).1 ((bytes_are_sets.known 0 0 (omega arith) (omega arith)).1 refl)))

    -- by EIND and Z
    far_listed : IsClear task f g.node → is_indirect instr ≡ true → target_bank g.node.state instr ≡ bits g.node.state EIND
        → unless_listed (jump_line task.assumptions m.pc) (wrapped m.device (extended_word m)) ≡ None
    far_listed clear indirect far =
        word_listed (register m EIND) clear indirect (on_words (λ device. register m EIND ≤ eind_most device) runs.running.machine.banks.eind)
        (ap (λ b. has b (register m EIND)) far ∙ (tests_tell_members.bytes (bits g.node.state EIND) (register m EIND)).1 (stands EIND (omega arith)).bits)

  module _ (clear : IsClear task f g.node) (flag : Flag) where
    -- without an indirect transfer nothing is unlisted
    no_transfer : (b1 b2 : ℕ) (instr : Instr) → instruction_at task.flash m.pc ≡ Some instr → unlisted_transfer task.assumptions m.pc instr (effect_by task m instr b1 b2) ≡ None
    unfolding unlisted_transfer
    no_transfer b1 b2 i.Ijmp is = z_listed b1 b2 i.Ijmp is clear refl refl
    no_transfer b1 b2 i.Icall is = z_listed b1 b2 i.Icall is clear refl refl
    no_transfer b1 b2 i.Eijmp is = far_listed b1 b2 i.Eijmp is clear refl refl
    no_transfer b1 b2 i.Eicall is = far_listed b1 b2 i.Eicall is clear refl refl
    no_transfer b1 b2 _ is = refl

    -- and no call is too deep, since it enters no word with a `recur` line
    no_refusal : (b1 b2 : ℕ) (instr : Instr) → instruction_at task.flash m.pc ≡ Some instr → refused_transfer task.flash task.assumptions m instr (effect_by task m instr b1 b2) ≡ None
    unfolding refused_transfer
    no_refusal b1 b2 instr is =
        let listed = no_transfer b1 b2 instr is in
        ap (λ (o : Option ℕ). first_of o (deep_call task.flash task.assumptions m instr (effect_by task m instr b1 b2))) listed
        ∙ by listed (deep_call task.flash task.assumptions m instr (effect_by task m instr b1 b2)) refl
      where
        by : unlisted_transfer task.assumptions m.pc instr (effect_by task m instr b1 b2) ≡ None → (o : Option ℕ)
            → deep_call task.flash task.assumptions m instr (effect_by task m instr b1 b2) ≡ o → o ≡ None
        by listed None e = refl
        by listed (Some x) e =
            absurd (never_both (calls_cut task k g.node.state instr) (cut_if_deep b1 b2 instr is x e listed) (clear.calls instr (here b1 b2 instr is)))

    no_move : (b1 b2 : ℕ) (instr : Instr) → instruction_at task.flash m.pc ≡ Some instr
        → moves_vectors (device_of task.flash) (masks_by task) (effect_by task m instr b1 b2).stores ≡ false
    no_move b1 b2 instr is =
        never (moves_vectors (device_of task.flash) (masks_by task) (effect_by task m instr b1 b2).stores)
        (λ moves. never_both (may_move task k g.node.state instr) (may_move_if b1 b2 instr is moves) (clear.stays instr (here b1 b2 instr is)))

    not_going : (b1 b2 : ℕ) (instr : Instr) → instruction_at task.flash m.pc ≡ Some instr → go task.flash task.assumptions m (Some instr) b1 b2 ≢ Flagged flag
    not_going b1 b2 instr is =
        let effect = effect_by task m instr b1 b2 in
        let s = safe b1 b2 instr is clear in
        not_flagged (all_inside m.device effect.pushes || is_refused (refused_transfer task.flash task.assumptions m instr effect)) m.pc
        (live_write m.memory (effect.stores ++ effect.pushes)) (protected_write task.flash task.assumptions m.pc instr effect)
        (refused_transfer task.flash task.assumptions m instr effect) (moves_vectors (device_of task.flash) (masks_by task) effect.stores)
        (after m (is_guarding task.flash task.assumptions m.pc instr) effect) flag s.live s.protected (no_refusal b1 b2 instr is) (no_move b1 b2 instr is)

    pub by_instruction : (b1 b2 : ℕ) (x : Option Instr) → instruction_at task.flash m.pc ≡ x → go task.flash task.assumptions m x b1 b2 ≢ Flagged flag
    by_instruction b1 b2 None is = λ e. cc
    by_instruction b1 b2 (Some instr) is = not_going b1 b2 instr is

  by_interrupt : (flag : Flag) (v : ℕ) (clears t : Bool) → is_never task.assumptions (vector_word (device_of task.flash) v) ≡ false → may_take m v clears ≡ t
      → (if t then take task.assumptions m (entering m v clears) else Illegal) ≢ Flagged flag
  by_interrupt flag v clears false allowed legal = λ e. cc
  by_interrupt flag v clears true allowed legal =
      let place = runs.running.place in
      let all = all_four (is_enabled m.device m.enables v) (i_flag m) m.delay (not clears || (v == watchdog m.device)) legal in
      let form =
      whole_where_taken (device_of task.flash) task.assumptions k v k.sp refl (sym place.i ∙ all.1) (sym place.delay ∙ all.2) (on_words (λ device. is_enabled device k.masks v ≡ true) (enabled_too (reads_masks (device_of task.flash) task.assumptions) m.device m.enables k.masks v place.enables all.0))
      allowed (not_hung task k g.node.state (sound.faultless g.node runs.present)) in
      let e = entering m v clears in
      not_flagged (all_inside m.device e.pushes || is_refused (never_target task.assumptions e.pc)) m.pc (live_write m.memory e.pushes) None (never_target task.assumptions e.pc) false (after m true (entering m v clears)) flag
      (dead_writes m.memory (way_back m.device m.sp m.pc) (way_dead form m.device refl m.pc)) refl
      (ap (λ (b : Bool). if b then Some e.pc else None) (ap (is_never task.assumptions) (vector_is v all.0) ∙ allowed)) refl

  -- the choice takes a vector whose word has a `never` line
  pub record IsTaken (c : Choice) : Type 0 where
    pub vector : ℕ
    pub clears : Bool
    pub is : c ≡ Take vector clears
    pub i : k.i ≡ true
    pub delay : k.delay ≡ false
    pub enabled : is_enabled (device_of task.flash) k.masks vector ≡ true
    pub never : is_never task.assumptions (vector_word (device_of task.flash) vector) ≡ true

  -- a take is flagged only if the vector's word has such a line
  pub taken_here : (v : ℕ) (clears : Bool) (flag : Flag) (t b : Bool) → may_take m v clears ≡ t → is_never task.assumptions (vector_word (device_of task.flash) v) ≡ b
      → (if t then take task.assumptions m (entering m v clears) else Illegal) ≡ Flagged flag → IsTaken (Take v clears)
  taken_here v clears flag false b legal line e = absurd (cc)
  taken_here v clears flag true false legal line e = absurd (by_interrupt flag v clears true line legal e)
  taken_here v clears flag true true legal line e =
      let place = runs.running.place in
      let all = all_four (is_enabled m.device m.enables v) (i_flag m) m.delay (not clears || (v == watchdog m.device)) legal in
      record {
        vector = v;
        clears = clears;
        is = refl;
        i = sym place.i ∙ all.1;
        delay = sym place.delay ∙ all.2;
        enabled = on_words (λ device. is_enabled device k.masks v ≡ true) (enabled_too (reads_masks (device_of task.flash) task.assumptions) m.device m.enables k.masks v place.enables all.0);
        never = line;
      }
