-- A byte written to a known address: the rows cover the machine's step.
use Rattle.std.proofs.Common.{◌≡◌, refl, sym, ◌∙◌, ap, ap₂, subst, ℕ, ◌+◌, ◌-◌, ◌*◌, ◌^◌, ◌<◌, ◌≤◌, Bool, true, false, not, ◌&&◌, nat_le, if◌then◌else◌, ◌==◌, List, [], ◌∷◌, length, Option, Some, None, slice_set, slice_index, arith, Contains, eq-eqb, ◌≢◌, subst₂}
use Rattle.std.proofs.lemmas.Bool.{or_parts}
use Rattle.std.proofs.lemmas.Grind.{elements}
use Rattle.std.proofs.lemmas.Nat.Bits.{bit_at-lt, same_from_bits_below}
use Rattle.std.specs.Int.{bit_at}
use Rattle.basics.specs.Items.{first_in}
use Rattle.avr_model.specs.declared.device.Device.{Device}
use Rattle.avr_model.specs.Devices.{sreg_address, size_of}
use Rattle.avr_model.specs.declared.effect.Write.{Write}
use Rattle.avr_model.specs.declared.effect.Effect.{Effect}
use Rattle.avr_model.specs.Bits.{number_of}
use Rattle.avr_model.specs.Sreg.{flag}
use Rattle.avr_model.specs.Vectors.{enable_count, has_enables, enable_place_at, written_enable, written_enables}
use Rattle.avr_model.specs.declared.device.Special.{Special}
use Rattle.avr_model.specs.declared.device.Special.TheVariants.{Spl, Sph, Sreg}
use Rattle.avr_model.specs.State.{State, REGISTERS, register_at, special, kept_of, low, high, i_flag}
use Rattle.avr_model.specs.Effects.{set, delay_of_out}
use Rattle.avr_model.specs.Step.{after, with_registers, register_stored, registers_after, sreg_after}
use Rattle.vector_table.specs.Laws.{AreBits}
use Rattle.vector_table.proofs.AllLaws.{numbers_are_their_bits, enables_are_vectors}
use Rattle.bit_domain.specs.declared.bits.Tri.{Tri}
use Rattle.bit_domain.specs.declared.bits.Tri.TheVariants.{Zero, One, Any}
use Rattle.bit_domain.specs.Tri.{Permits}
use Rattle.bit_domain.specs.TriByte.{tri_at}
use Rattle.bit_domain.proofs.AllLaws.{writes_cover}
use Rattle.sp_domain.specs.declared.tags.Tag.{Tag}
use Rattle.sp_domain.specs.declared.tags.Tag.TheVariants as tag
use Rattle.sp_domain.specs.declared.tags.CarryTag.{CarryTag}
use Rattle.sp_domain.specs.Tags.{Origin, TagHolds, LessHolds, IsCarryWithin}
use Rattle.sp_domain.proofs.AllLaws.{carries_are_ordered, tags_say_less}
use Rattle.sp_domain.specs.Slots.{slot_at, resized}
use Rattle.pair_domain.specs.Rank.{KnownFits}
use Rattle.abs_state.specs.declared.values.AbsByte.{AbsByte}
use Rattle.abs_state.specs.declared.state.AbsState.{AbsState}
use Rattle.pair_domain.specs.declared.facts.PairFacts.{PairFacts}
use Rattle.pair_domain.proofs.AllLaws.{known_is_ordered}
use Rattle.abs_state.specs.Laws.{Keeps, HoldsAt}
use Rattle.abs_state.specs.Ended.{is_one_of, ended, written_hull}
use Rattle.abs_state.specs.Stands.{ByteStands, EntryHolds, FlagsStand, RegistersStand}
use Rattle.abs_state.proofs.AllLaws.{values_say_less, slots_follow, writes_end_facts}
use Rattle.node_keys.specs.declared.keys.NodeKey.{NodeKey}
use Rattle.node_keys.specs.declared.keys.High.{High}
use Rattle.node_keys.specs.declared.keys.SpForm.TheVariants.{Closed, Open}
use Rattle.node_keys.specs.Keys.{offset_of}
use Rattle.node_keys.specs.Place.{EnablesAre, SpIs}
use Rattle.node_keys.specs.Splits.{splits}
use Rattle.local_rules.specs.declared.local.Node.{Node}
use Rattle.local_rules.specs.declared.local.NodeFault.TheVariants.{TooDeep}
use Rattle.local_rules.specs.Raw.{Raw, at_word, one, fails}
use Rattle.local_rules.specs.Writes.{high_part, opening, closing_offset, closing, is_entry_flags, flags_written, with_i, sreg_written, masks_written, register_written as node_written, put_flags, special_written, written_behind, written_at}
use Rattle.local_rules.specs.Machine.{floor_of}
use Rattle.local_laws.proofs.Bare.{InBareFrame}
use Rattle.local_laws.proofs.Landing.{ArrivesWhere}
use Rattle.local_laws.proofs.Enables.{IsIo, io_written, same_enables, written_both}
use Rattle.local_laws.proofs.Frame.{second, set_stands, slot_kept, above_floor, frame_kept}
use Rattle.local_rules.specs.Registers.{forgotten}
use Rattle.local_rules.specs.Banks.{stored_value}
use Rattle.local_laws.proofs.BankSizes.{place_of}
use Rattle.local_laws.proofs.Specials.{none_special, register_core, special_core, flags_is, sreg_written_is, sp_written_is, open_written_is}
use Rattle.local_laws.proofs.BankValues.{stored_stands}
use Rattle.local_laws.proofs.Less.{less_set, forgotten_less, forgotten_spares}
use Rattle.local_laws.proofs.Targets.{in_map}
use Rattle.local_laws.proofs.SpWrites.{opened, closes}
use Rattle.local_laws.proofs.SplitMembers.{AreSplitsWritten}
use Rattle.local_rules.specs.Writes.{write_at}

-- The instruction goes to a word, sets registers, and stores a byte; `out` may give a delay.
abbrev pub stored : State → ℕ → List Write → Bool → ℕ → ℕ → Effect
stored m pc writes is_out a byte =
    record {
      pc = pc;
      registers = writes;
      sreg = m.sreg;
      sp = m.sp;
      is_open = m.is_open;
      enables = m.enables;
      delay = is_out && delay_of_out m a byte;
      stores = set a byte;
      pushes = [];
    }

-- the effect leads to one of these nodes, in the same instance
pub record ReachesNode (may : Bool) (m : State) (o : Origin) (x : Option PairFacts) (k : NodeKey) (guarded : Bool) (e : Effect) (r : Raw) : Type 0 where
  pub to : Node
  pub present : Contains r.moves to
  pub inst : to.key.inst ≡ k.inst
  pub at_node : ArrivesWhere may m o x guarded e to

-- ---- enable bits

-- a number of n bits is determined by its bits
by_bits : (n x : ℕ) (f : ℕ → ℕ) → x < 2 ^ n → ((j : ℕ) → j < n → bit_at x j ≡ f j) → number_of n f ≡ x
by_bits n x f h same =
    let bits : AreBits n f = λ j lt. subst (λ (b : ℕ). b < 2) (same j lt) (bit_at-lt x j) in
    same_from_bits_below n (number_of n f) x (numbers_are_their_bits.below n f bits) h (λ j lt. numbers_are_their_bits.bits n f bits j lt ∙ sym (same j lt))

-- a write of an address without enable bits keeps them
pub enables_kept : (device : Device) (enables a byte : ℕ) → enables < 2 ^ enable_count device → has_enables device a ≡ false → written_enables device enables a byte ≡ enables
unfolding written_enables
enables_kept device enables a byte small h =
    by_bits (enable_count device) enables (λ k. written_enable (enable_place_at device (k + 2) a) byte (bit_at enables k)) small
    (λ j lt. sym (ap (λ p. written_enable p byte (bit_at enables j)) (enables_are_vectors.none device (j + 2) a h)))

register_holds_none : (device : Device) (a r : ℕ) → register_at device a ≡ Some r → has_enables device a ≡ false
register_holds_none device a r here = enables_are_vectors.core device a (register_core device a r here)

special_holds_none : (device : Device) (a : ℕ) (x : Special) → special device a ≡ Some x → has_enables device a ≡ false
special_holds_none device a x here = enables_are_vectors.core device a (special_core device a x here)

-- ---- tests

no_delay : (is_out p q r : Bool) → p ≡ false → (is_out && (p && q && r)) ≡ false
no_delay true true q r h = absurd (cc)
no_delay true false q r h = refl
no_delay false p q r h = refl

delay_is : (is_out p q p' q' : Bool) → p ≡ p' → q ≡ q' → (is_out && (p && not q)) ≡ (is_out && p' && not q')
delay_is true p q p' q' e f = ap₂ (λ x y. x && not y) e f
delay_is false p q p' q' e f = refl

entry_written : (o : Origin) (t : Tag) (x : ℕ) → TagHolds o t x → EntryHolds o (is_entry_flags t) x
entry_written o tag.None x h = tt
entry_written o (tag.Entry r) x h = tt
entry_written o tag.EntryFlags x h = h
entry_written o (tag.SpLo j) x h = tt
entry_written o (tag.SpHi k) x h = tt

flags_stand : (o : Origin) (v : AbsByte) (x : ℕ) → ByteStands o v x → FlagsStand o (flags_written v) x
flags_stand o v x h =
    record {
      entry = entry_written o v.tag x h.tag;
      bits = writes_cover.members v.bits 7 Any x x h.bits tt (λ j lt other. refl);
      carry = tt;
    }

is_chosen : {A : Type 0} (p : Bool) (x y : A) → p ≡ true → (if p then x else y) ≡ x
is_chosen true x y h = refl
is_chosen false x y h = absurd (cc)

-- a register that isn't set stays
set_other : (registers : List ℕ) (a byte r : ℕ) → is_one_of (a ∷ []) r ≡ false → slice_index (slice_set registers a byte) r ≡ slice_index registers r
set_other registers a byte r e =
    let other = (or_parts (a == r) false e).0 in
    let apart : a ≢ r = λ same. (let hit : (a == r) ≡ true = eq-eqb a r same in absurd (let no = sym hit ∙ other in cc)) in
    grind (arith, elements)

-- the registers after a byte is stored
after_none : (device : Device) (registers : List ℕ) (a byte : ℕ) → register_at device a ≡ None → registers_after device registers (set a byte) ≡ registers
after_none device registers a byte e = ap (register_stored device registers byte) e

after_some : (device : Device) (registers : List ℕ) (a byte r : ℕ) → register_at device a ≡ Some r → registers_after device registers (set a byte) ≡ slice_set registers r (kept_of device r byte)
after_some device registers a byte r e = ap (register_stored device registers byte) e

module _ {may : Bool} (m : State) (o : Origin) (k : NodeKey) (s : AbsState) (at : InBareFrame may m o k s) (guarded : Bool) (pc pc' : ℕ) (pc_is : pc ≡ pc') (writes : List Write)
    (registers : List AbsByte) (stand : RegistersStand o registers (with_registers m.registers writes))
    (less : LessHolds (with_registers m.registers writes) s.flags.carry (flag m.sreg 0)) (told : Option PairFacts) (told_fits : KnownFits told) (is_out : Bool) where
  abbrev key : NodeKey
  key = at_word k pc'

  abbrev state : AbsState
  state = record s { registers = registers; facts = told }

  pub only : (e : Effect) (to : Node) → to.key.inst ≡ k.inst → ArrivesWhere may m o told guarded e to → ReachesNode may m o told k guarded e (record { moves = to ∷ []; calls = []; exit = None; faults = [] })
  only e to inst lands = record { to = to; present = first_in to []; inst = inst; at_node = lands }

  pub chosen : (e : Effect) (b : Bool) (r q : Raw) → (b ≡ true → r.faults ≡ [] → ReachesNode may m o told k guarded e r) → (b ≡ false → q.faults ≡ [] → ReachesNode may m o told k guarded e q)
      → (if b then r else q).faults ≡ [] → ReachesNode may m o told k guarded e (if b then r else q)
  chosen e true r q h g clean = h refl clean
  chosen e false r q h g clean = g refl clean

  -- an address outside the stack pointer and the status register
  pub elsewhere : (a byte masks : ℕ) (values : List AbsByte) (c : CarryTag) (x : Option PairFacts) → IsCarryWithin s.flags.carry c → special m.device a ≡ None
      → EnablesAre may (written_enables m.device m.enables a byte) masks
      → RegistersStand o values (registers_after m.device (with_registers m.registers writes) (set a byte))
      → LessHolds (registers_after m.device (with_registers m.registers writes) (set a byte)) c (flag m.sreg 0)
      → (HoldsAt told (with_registers m.registers writes) m.sreg → HoldsAt x (registers_after m.device (with_registers m.registers writes) (set a byte)) (sreg_after m.device m.sreg (set a byte)))
      → ArrivesWhere may m o told guarded (stored m pc writes is_out a byte)
      (record { key = record key { masks = masks }; state = record s { registers = values; flags = record s.flags { carry = c }; facts = x } })
  elsewhere a byte masks values c x over none enables values_stand still known =
      let flags = values_say_less.flags o s.flags (record s.flags { carry = c }) m.sreg (record { entry = λ e. e; bits = λ x small has. has; carry = over }) at.stands.flags in
      let sreg : sreg_after m.device m.sreg (set a byte) ≡ m.sreg = sreg_written_is m.device a byte m.sreg None none in
      frame_kept m o k s at told guarded (stored m pc writes is_out a byte)
      (record { key = record key { masks = masks }; state = record s { registers = values; flags = record s.flags { carry = c }; facts = x } }) refl refl refl
      (sp_written_is m.device a byte m.sp None none) (open_written_is m.device a byte m.is_open None none)
      pc_is enables (ap (λ x. flag x 7) sreg ∙ at.place.i) (no_delay is_out (a == sreg_address m.device) (flag byte 7) (not (i_flag m)) (flags_is m.device a None none))
      values_stand (subst (FlagsStand o (record s.flags { carry = c })) (sym sreg) flags)
      (subst (λ (x : ℕ). LessHolds (registers_after m.device (with_registers m.registers writes) (set a byte)) c (flag x 0)) (sym sreg) still) known

  -- an address outside the registers as well
  pub changes_none : (a byte : ℕ) → register_at m.device a ≡ None → RegistersStand o registers (registers_after m.device (with_registers m.registers writes) (set a byte))
  changes_none a byte beyond = subst (RegistersStand o registers) (sym (after_none m.device (with_registers m.registers writes) a byte beyond)) stand

  pub less_still : (a byte : ℕ) → register_at m.device a ≡ None → LessHolds (registers_after m.device (with_registers m.registers writes) (set a byte)) s.flags.carry (flag m.sreg 0)
  less_still a byte beyond =
      subst (λ (xs : List ℕ). LessHolds xs s.flags.carry (flag m.sreg 0)) (sym (after_none m.device (with_registers m.registers writes) a byte beyond)) less

  pub facts_still : (a byte : ℕ) → register_at m.device a ≡ None → sreg_after m.device m.sreg (set a byte) ≡ m.sreg → HoldsAt told (with_registers m.registers writes) m.sreg
      → HoldsAt told (registers_after m.device (with_registers m.registers writes) (set a byte)) (sreg_after m.device m.sreg (set a byte))
  facts_still a byte beyond sreg held = subst₂ (HoldsAt told) (sym (after_none m.device (with_registers m.registers writes) a byte beyond)) (sym sreg) held

  -- one of the splits, for these enable bits
  split_lands : (a byte left : ℕ) (v : AbsByte) → register_at m.device a ≡ None → special m.device a ≡ None
      → Contains (splits m.device k.masks a v.bits) left → EnablesAre may (written_enables m.device m.enables a byte) left
      → ReachesNode may m o told k guarded (stored m pc writes is_out a byte) (masks_written m.device key state a v)
  split_lands a byte left v beyond none present enables =
      record {
        to = record { key = record key { masks = left }; state = state };
        present = in_map (λ masks. record { key = record key { masks = masks }; state = state }) left (splits m.device k.masks a v.bits) present;
        inst = refl;
        at_node = elsewhere a byte left registers s.flags.carry told (carries_are_ordered.same s.flags.carry) none enables
            (changes_none a byte beyond) (less_still a byte beyond) (facts_still a byte beyond (sreg_written_is m.device a byte m.sreg None none));
      }

  -- a byte at an address of enable bits, with one of its splits
  pub split_written : (a byte left : ℕ) (v : AbsByte) → IsIo m.device a → Contains (splits m.device k.masks a v.bits) left → EnablesAre may (written_enables m.device m.enables a byte) left
      → ReachesNode may m o told k guarded (stored m pc writes is_out a byte) (written_at (write_at m.device k.pc key state v) is_out a)
  split_written a byte left v io present enables =
      subst (ReachesNode may m o told k guarded (stored m pc writes is_out a byte)) (sym (io_written m.device k.pc key state is_out a v io))
      (split_lands a byte left v io.0 io.1.0 present enables)

  module _ (byte : ℕ) (small : byte < 256) (v : AbsByte) (stands : ByteStands o v byte) (count_values : length registers ≡ REGISTERS)
      (count : length (with_registers m.registers writes) ≡ REGISTERS) where
    -- a write of an address without enable bits
    pub enables_stay : (a : ℕ) → has_enables m.device a ≡ false → EnablesAre may (written_enables m.device m.enables a byte) k.masks
    enables_stay a none = same_enables may (written_enables m.device m.enables a byte) m.enables k.masks (enables_kept m.device m.enables a byte at.machine.enable_bits none) at.place.enables

    register_written : (a r : ℕ) → register_at m.device a ≡ Some r
        → ArrivesWhere may m o told guarded (stored m pc writes is_out a byte) (record { key = key; state = node_written m.device state r v })
    register_written a r here =
        let place = place_of m.device a r here in
        let w : AbsByte = stored_value m.device r v in
        let x : ℕ = kept_of m.device r byte in
        let c : CarryTag = forgotten (r ∷ []) s.flags.carry in
        let old : List ℕ = with_registers m.registers writes in
        let new : List ℕ = slice_set old r x in
        let is : registers_after m.device old (set a byte) ≡ new = after_some m.device old a byte r here in
        let none : special m.device a ≡ None = none_special m.device a r here in
        let new_stand : RegistersStand o (slice_set registers r w) new = set_stands o registers old r w x count_values count (stored_stands m.device o r v byte at.banks place stands) stand in
        let left : Option PairFacts = ended (is_one_of (r ∷ [])) false false told in
        let known : HoldsAt told old m.sreg → HoldsAt (written_hull (slice_set registers r w) r left) (registers_after m.device old (set a byte)) (sreg_after m.device m.sreg (set a byte)) = λ held.
        subst₂ (HoldsAt (written_hull (slice_set registers r w) r left)) (sym is) (sym (sreg_written_is m.device a byte m.sreg None none))
        (writes_end_facts.hull_holds o (slice_set registers r w) new r left m.sreg (known_is_ordered.count left (writes_end_facts.fits (is_one_of (r ∷ [])) false false told told_fits)) new_stand
        (writes_end_facts.holds (is_one_of (r ∷ [])) false false told old new m.sreg m.sreg
        (record { kept = λ n other. set_other old r x n other; bytes = λ n inside. (new_stand n (omega (arith, inside))).small })
        (record { carry_kept = λ e. refl; others_kept = λ e. (refl, refl, refl) }) held)) in
        elsewhere a byte k.masks (slice_set registers r w) c (written_hull (slice_set registers r w) r left) (forgotten_less (r ∷ []) s.flags.carry)
        none (enables_stay a (register_holds_none m.device a r here))
        (subst (RegistersStand o (slice_set registers r w)) (sym is) new_stand)
        (subst (λ (xs : List ℕ). LessHolds xs c (flag m.sreg 0)) (sym is)
        (less_set old c (flag m.sreg 0) r x (forgotten_spares (r ∷ []) s.flags.carry).0
        (tags_say_less.less old s.flags.carry c (flag m.sreg 0) (forgotten_less (r ∷ []) s.flags.carry) less))) known

    -- ---- SPL

    closed_lands : (a n : ℕ) → register_at m.device a ≡ None → special m.device a ≡ Some Spl → closing_offset m.device k.inst.kind k.sp v ≡ Some n
        → ArrivesWhere may m o told guarded (stored m pc writes is_out a byte) (record { key = record key { sp = Closed n }; state = record state { slots = resized n s.slots } })
    closed_lands a n beyond here e =
        let at_base : n ≤ o.base → 256 * high m.sp + byte + n ≡ o.base = closes m.device o at.top at.base_word m.is_open m.sp at.machine.sp_fits byte n small v stands k.inst.kind k.sp e at.place.sp at.root in
        let sreg : sreg_after m.device m.sreg (set a byte) ≡ m.sreg = sreg_written_is m.device a byte m.sreg (Some Spl) here in
        record {
          lands = λ held. record {
            inside = λ room. refl;
            place = λ within.
                record {
                  pc = pc_is;
                  enables = enables_stay a (special_holds_none m.device a Spl here);
                  i = ap (λ x. flag x 7) sreg ∙ at.place.i;
                  delay = no_delay is_out (a == sreg_address m.device) (flag byte 7) (not (i_flag m)) (flags_is m.device a (Some Spl) here);
                  sp = subst₂ (λ x y. SpIs o.base x y (Closed n)) (sym (open_written_is m.device a byte m.is_open (Some Spl) here)) (sym (sp_written_is m.device a byte m.sp (Some Spl) here)) (refl, at_base within);
                };
            registers = changes_none a byte beyond;
            flags = subst (FlagsStand o s.flags) (sym sreg) at.stands.flags;
            less = subst (λ x. LessHolds (registers_after m.device (with_registers m.registers writes) (set a byte)) s.flags.carry (flag x 0)) (sym sreg) (less_still a byte beyond);
            facts = facts_still a byte beyond sreg held;
            slots = λ within inside kept.
                slots_follow.resized o (after m guarded (stored m pc writes is_out a byte)).memory s.slots n (λ d lt below.
                slot_kept o m.memory (after m guarded (stored m pc writes is_out a byte)).memory (256 * high m.sp + byte) (o.base - d) (slot_at s.slots d)
                (subst (Keeps m.memory (after m guarded (stored m pc writes is_out a byte)).memory) (ap₂ floor_of (open_written_is m.device a byte m.is_open (Some Spl) here) (sp_written_is m.device a byte m.sp (Some Spl) here)) kept)
                (λ live. omega (arith, at_base within)) (at.stands.slots d below));
          };
        }

    closed_written : (a : ℕ) → register_at m.device a ≡ None → special m.device a ≡ Some Spl → (n : Option ℕ) → closing_offset m.device k.inst.kind k.sp v ≡ n
        → (closing m.device n key state k.pc).faults ≡ [] → ReachesNode may m o told k guarded (stored m pc writes is_out a byte) (closing m.device n key state k.pc)
    closed_written a beyond here None e clean = absurd (cc)
    closed_written a beyond here (Some n) e clean =
        chosen (stored m pc writes is_out a byte) (nat_le n (size_of m.device)) (one (record key { sp = Closed n }) (record state { slots = resized n s.slots })) (fails (TooDeep k.pc n))
        (λ fits rest. only (stored m pc writes is_out a byte) _ refl (closed_lands a n beyond here e)) (λ deep rest. absurd (cc)) clean

    -- ---- SPH

    opened_lands : (a : ℕ) → register_at m.device a ≡ None → special m.device a ≡ Some Sph → (h : High) → high_part k.inst.kind v ≡ Some h
        → ArrivesWhere may m o told guarded (stored m pc writes is_out a byte) (record { key = record key { sp = Open (offset_of k.sp) h }; state = state })
    opened_lands a beyond here h e =
        let place = opened o k.inst.kind v byte h m.is_open m.sp k.sp at.base_word small e stands at.place.sp in
        let sreg : sreg_after m.device m.sreg (set a byte) ≡ m.sreg = sreg_written_is m.device a byte m.sreg (Some Sph) here in
        record {
          lands = λ held. record {
            inside = λ room. refl;
            place = λ within.
                record {
                  pc = pc_is;
                  enables = enables_stay a (special_holds_none m.device a Sph here);
                  i = ap (λ x. flag x 7) sreg ∙ at.place.i;
                  delay = no_delay is_out (a == sreg_address m.device) (flag byte 7) (not (i_flag m)) (flags_is m.device a (Some Sph) here);
                  sp = subst₂ (λ x y. SpIs o.base x y (Open (offset_of k.sp) h)) (sym (open_written_is m.device a byte m.is_open (Some Sph) here)) (sym (sp_written_is m.device a byte m.sp (Some Sph) here)) place;
                };
            registers = changes_none a byte beyond;
            flags = subst (FlagsStand o s.flags) (sym sreg) at.stands.flags;
            less = subst (λ x. LessHolds (registers_after m.device (with_registers m.registers writes) (set a byte)) s.flags.carry (flag x 0)) (sym sreg) (less_still a byte beyond);
            facts = facts_still a byte beyond sreg held;
            slots = λ within inside kept d lt.
                slot_kept o m.memory (after m guarded (stored m pc writes is_out a byte)).memory 0 (o.base - d) (slot_at s.slots d)
                (subst (Keeps m.memory (after m guarded (stored m pc writes is_out a byte)).memory) (ap₂ floor_of (open_written_is m.device a byte m.is_open (Some Sph) here) (sp_written_is m.device a byte m.sp (Some Sph) here)) kept)
                (above_floor o.base (256 * byte + low m.sp) d m.memory true (Open (offset_of k.sp) h) place (omega (arith, at.node.formed.count_slots))) (at.stands.slots d lt);
          };
        }

    opened_written : (a : ℕ) → register_at m.device a ≡ None → special m.device a ≡ Some Sph → (h : Option High) → high_part k.inst.kind v ≡ h → (opening h key state k.pc).faults ≡ []
        → ReachesNode may m o told k guarded (stored m pc writes is_out a byte) (opening h key state k.pc)
    opened_written a beyond here None e clean = absurd (cc)
    opened_written a beyond here (Some h) e clean = only (stored m pc writes is_out a byte) _ refl (opened_lands a beyond here h e)

    -- ---- SREG

    abbrev flagged : AbsState
    flagged = put_flags state (flags_written v)

    sreg_lands : (a : ℕ) → register_at m.device a ≡ None → special m.device a ≡ Some Sreg → (on : Bool) → flag byte 7 ≡ on
        → ArrivesWhere may m o told guarded (stored m pc writes is_out a byte) (record { key = with_i key is_out on; state = flagged })
    sreg_lands a beyond here on is =
        let sreg : sreg_after m.device m.sreg (set a byte) ≡ byte = sreg_written_is m.device a byte m.sreg (Some Sreg) here in
        let old : List ℕ = with_registers m.registers writes in
        frame_kept m o k s at told guarded (stored m pc writes is_out a byte) (record { key = with_i key is_out on; state = flagged }) refl refl refl
        (sp_written_is m.device a byte m.sp (Some Sreg) here) (open_written_is m.device a byte m.is_open (Some Sreg) here) pc_is
        (enables_stay a (special_holds_none m.device a Sreg here)) (ap (λ x. flag x 7) sreg ∙ is)
        (ap (λ y. is_out && (y && flag byte 7 && not (i_flag m))) (flags_is m.device a (Some Sreg) here) ∙ delay_is is_out (flag byte 7) (i_flag m) on k.i is at.place.i)
        (changes_none a byte beyond) (subst (FlagsStand o (flags_written v)) (sym sreg) (flags_stand o v byte stands)) tt
        (λ held. subst₂ (HoldsAt (ended (λ r. false) true true told)) (sym (after_none m.device old a byte beyond)) (sym sreg)
        (writes_end_facts.holds (λ r. false) true true told old old m.sreg byte
        (record { kept = λ r other. refl; bytes = λ r inside. (stand r (omega (arith, inside))).small }) (record { carry_kept = λ e. absurd (let no = e in cc); others_kept = λ e. absurd (let no = e in cc) }) held))

    flag_zero : bit_at byte 7 ≡ 0 → flag byte 7 ≡ false
    flag_zero e = ap (λ x. x == 1) e

    flag_one : bit_at byte 7 ≡ 1 → flag byte 7 ≡ true
    flag_one e = ap (λ x. x == 1) e

    sreg_by : (a : ℕ) → register_at m.device a ≡ None → special m.device a ≡ Some Sreg → (t : Tri) → Permits t (bit_at byte 7)
        → ReachesNode may m o told k guarded (stored m pc writes is_out a byte) (sreg_written t key flagged is_out)
    sreg_by a beyond here Zero can = only (stored m pc writes is_out a byte) _ refl (sreg_lands a beyond here false (flag_zero can))
    sreg_by a beyond here One can = only (stored m pc writes is_out a byte) _ refl (sreg_lands a beyond here true (flag_one can))
    sreg_by a beyond here Any can = either (flag byte 7) refl
      where
        either : (on : Bool) → flag byte 7 ≡ on → ReachesNode may m o told k guarded (stored m pc writes is_out a byte) (sreg_written Any key flagged is_out)
        either true is =
            record {
              to = record { key = with_i key is_out true; state = flagged };
              present = second (record { key = with_i key is_out false; state = flagged }) (record { key = with_i key is_out true; state = flagged }) [];
              inst = refl;
              at_node = sreg_lands a beyond here true is;
            }
        either false is =
            record {
              to = record { key = with_i key is_out false; state = flagged };
              present = first_in (record { key = with_i key is_out false; state = flagged }) (record { key = with_i key is_out true; state = flagged } ∷ []);
              inst = refl;
              at_node = sreg_lands a beyond here false is;
            }

    -- ---- enable bits, and all other addresses

    masks_lands : AreSplitsWritten → (a : ℕ) → register_at m.device a ≡ None → special m.device a ≡ None
        → ReachesNode may m o told k guarded (stored m pc writes is_out a byte) (masks_written m.device key state a v)
    masks_lands members a beyond none =
        let left : ℕ = written_enables m.device k.masks a byte in
        split_lands a byte left v beyond none (members m.device k.masks a v.bits left record { byte = byte; small = small; member = stands.bits; left = refl })
        (written_both may m.device m.enables k.masks a byte at.place.enables)

    -- a byte written to a known address
    pub written : AreSplitsWritten → (a : ℕ) → (written_at (write_at m.device k.pc key state v) is_out a).faults ≡ []
        → ReachesNode may m o told k guarded (stored m pc writes is_out a byte) (written_at (write_at m.device k.pc key state v) is_out a)
    unfolding written_at
    written members a clean = by (register_at m.device a) refl clean
      where
        by_special : (x : Option Special) → register_at m.device a ≡ None → special m.device a ≡ x → (special_written (write_at m.device k.pc key state v) is_out a x).faults ≡ []
            → ReachesNode may m o told k guarded (stored m pc writes is_out a byte) (special_written (write_at m.device k.pc key state v) is_out a x)
        by_special (Some Spl) beyond here rest = closed_written a beyond here (closing_offset m.device k.inst.kind k.sp v) refl rest
        by_special (Some Sph) beyond here rest = opened_written a beyond here (high_part k.inst.kind v) refl rest
        by_special (Some Sreg) beyond here rest = sreg_by a beyond here (tri_at v.bits 7) (stands.bits 7 (omega arith))
        by_special None beyond none rest = masks_lands members a beyond none

        by : (place : Option ℕ) → register_at m.device a ≡ place → (written_behind (write_at m.device k.pc key state v) is_out a place).faults ≡ []
            → ReachesNode may m o told k guarded (stored m pc writes is_out a byte) (written_behind (write_at m.device k.pc key state v) is_out a place)
        by (Some r) here rest = only (stored m pc writes is_out a byte) _ refl (register_written a r here)
        by None beyond rest = by_special (special m.device a) beyond refl rest
