-- Settling keeps each machine: where a high byte is settled, the machine's byte is 0.
use Rattle.std.proofs.Common.{◌≡◌, refl, sym, ◌∙◌, ap, ap₂, subst, ℕ, suc, zero, ◌<◌, ◌≤◌, Bool, true, false, List, [], ◌∷◌, length, Option, Some, None, slice_index, if◌then◌else◌, nat_le, arith, leb-true, Contains}
use Rattle.avr_model.specs.declared.effect.Effect.{Effect}
use Rattle.avr_model.specs.Sreg.{flag}
use Rattle.avr_model.specs.State.{State, REGISTERS, high, minus16}
use Rattle.avr_model.specs.Step.{after}
use Rattle.sp_domain.specs.declared.tags.Tag.{Tag}
use Rattle.sp_domain.specs.declared.tags.Tag.TheVariants as tag
use Rattle.sp_domain.specs.Tags.{Origin, TagHolds, LessHolds}
use Rattle.abs_state.specs.declared.values.AbsByte.{AbsByte}
use Rattle.abs_state.specs.declared.state.AbsState.{AbsState}
use Rattle.abs_state.specs.Frames.{with_value}
use Rattle.abs_state.specs.Laws.{HoldsAt}
use Rattle.abs_state.specs.Stands.{ByteStands, RegistersStand, FlagsStand, SlotsStand}
use Rattle.abs_state.specs.Values.{value_at, known, valued, set_of}
use Rattle.node_keys.specs.declared.keys.NodeKey.{NodeKey}
use Rattle.local_rules.specs.declared.local.Node.{Node}
use Rattle.local_rules.specs.HighBytes.{SpView, view_by}
use Rattle.local_rules.specs.Raw.{Raw}
use Rattle.local_rules.specs.Permitted.{may_be}
use Rattle.local_rules.specs.Settling.{settled_by, settled_value, settled_values, with_registers, settled_state, settling}
use Rattle.local_rules.specs.Cover.{ArrivesAt, Follows, stays, calls, leaves}
use Rattle.local_laws.proofs.Bare.{InBareFrame}
use Rattle.local_laws.proofs.HighBytes.{base_high}
use Rattle.local_laws.proofs.Permitted.{may_stand}
use Rattle.local_laws.proofs.ReadValues.{known_stands, range_stands}
use Rattle.local_laws.proofs.LeftNodes.{in_left}
use Rattle.local_laws.proofs.SettledValues.{is_settled}

-- the high byte of each address from the base down to the offset is 0
abbrev pub AreLow : Origin → ℕ → Type 0
AreLow o offset = (n : ℕ) → n ≤ offset → high (minus16 o.base n) ≡ 0

-- ---- one byte

abbrev IsLeft : Origin → Option AbsByte → ℕ → Type 0
IsLeft o left x = (w : AbsByte) × ((left ≡ Some w) × ByteStands o w x)

high_left : (o : Origin) (offset k : ℕ) (v : AbsByte) (x : ℕ) → AreLow o offset → x ≡ high (minus16 o.base k) → ByteStands o v x
    → (near may : Bool) → nat_le k offset ≡ near → may_be v 0 ≡ may → IsLeft o (if near then (if may then Some (known 0) else None) else Some (valued tag.None (set_of v))) x
high_left o offset k v x lows is h true true near may =
    let here : x ≡ 0 = is ∙ lows k (leb-true k offset near) in
    (known 0, (refl, subst (ByteStands o (known 0)) (sym here) (known_stands o 0 (omega arith))))
high_left o offset k v x lows is h true false near may =
    let here : x ≡ 0 = is ∙ lows k (leb-true k offset near) in
    let possible : may_be v 0 ≡ true = subst (λ y. may_be v y ≡ true) here (may_stand o v x h) in
    absurd (let no = sym possible ∙ may in cc)
high_left o offset k v x lows is h false may near e = (valued tag.None (set_of v), (refl, range_stands o v x h))

byte_left : (o : Origin) (offset : ℕ) (v : AbsByte) (x : ℕ) → AreLow o offset → ByteStands o v x → IsLeft o (settled_value offset v) x
byte_left o offset v x lows h = by v.tag h.tag
  where
    by : (t : Tag) → TagHolds o t x → IsLeft o (settled_by offset t v) x
    by tag.None is = (v, (refl, h))
    by (tag.Entry r) is = (v, (refl, h))
    by tag.EntryFlags is = (v, (refl, h))
    by (tag.SpLo j) is = (v, (refl, h))
    by (tag.SpHi k) is = high_left o offset k v x lows is h (nat_le k offset) (may_be v 0) refl refl

-- ---- all registers

abbrev AreLeft : Origin → Option (List AbsByte) → ℕ → (ℕ → ℕ) → Type 0
AreLeft o left n f = (ws : List AbsByte) × ((left ≡ Some ws) × ((r : ℕ) → r < n → ByteStands o (value_at ws r) (f r)))

bytes_left : (o : Origin) (offset : ℕ) (vs : List AbsByte) (f : ℕ → ℕ) → AreLow o offset → ((r : ℕ) → r < length vs → ByteStands o (value_at vs r) (f r))
    → AreLeft o (settled_values offset vs) (length vs) f
unfolding settled_values
bytes_left o offset [] f lows h = ([], (refl, λ r lt. absurd (omega (arith, lt))))
bytes_left o offset (v ∷ vs) f lows h =
    let first = byte_left o offset v (f 0) lows (h 0 (omega arith)) in
    let rest = bytes_left o offset vs (λ r. f (suc r)) lows (λ r lt. h (suc r) (omega (arith, lt))) in
    (first.0 ∷ rest.0, (ap₂ with_value first.1.0 rest.1.0, all first.0 rest.0 first.1.1 rest.1.1))
  where
    all : (w : AbsByte) (ws : List AbsByte) → ByteStands o w (f 0) → ((r : ℕ) → r < length vs → ByteStands o (value_at ws r) (f (suc r)))
        → (r : ℕ) → r < length (v ∷ vs) → ByteStands o (value_at (w ∷ ws) r) (f r)
    all w ws one others zero lt = one
    all w ws one others (suc r) lt = others r (omega (arith, lt))

-- something is left of a state that holds, and it holds
pub settled_stands : (o : Origin) (view : SpView) (s : AbsState) (registers : List ℕ) → (view.high ≡ false → AreLow o view.offset) → length s.registers ≡ REGISTERS
    → RegistersStand o s.registers registers → (u : AbsState) × ((settled_state view s ≡ Some u) × RegistersStand o u.registers registers)
unfolding settled_state
settled_stands o view s registers lows count h = by view.high refl
  where
    by : (has_high : Bool) → view.high ≡ has_high
        → (u : AbsState) × (((if has_high then Some s else with_registers s (settled_values view.offset s.registers)) ≡ Some u) × RegistersStand o u.registers registers)
    by true is = (s, (refl, h))
    by false is =
        let left = bytes_left o view.offset s.registers (slice_index registers) (lows is) (λ r lt. h r (omega (arith, lt, count))) in
        (record s { registers = left.0 }, (ap (with_registers s) left.1.0, λ r lt. left.1.1 r (omega (arith, lt, count))))

module _ {may : Bool} (m : State) (o : Origin) (k : NodeKey) (s : AbsState) (at : InBareFrame may m o k s) where
  -- for the machine at a node
  pub frame_settled : (t : AbsState) (registers : List ℕ) → length t.registers ≡ REGISTERS → RegistersStand o t.registers registers
      → (u : AbsState) × ((settled_state (view_by m.device k) t ≡ Some u) × RegistersStand o u.registers registers)
  frame_settled t registers count h = settled_stands o (view_by m.device k) t registers (base_high m o k s at) count h

  module _ (guarded : Bool) (b1 b2 : ℕ) (e : Effect) where
    arrives_settled : (to : Node) → length to.state.registers ≡ REGISTERS → ArrivesAt may m o guarded e to
        → (u : AbsState) × ((settled_state (view_by m.device k) to.state ≡ Some u) × ArrivesAt may m o guarded e (record { key = to.key; state = u }))
    arrives_settled to count lands =
        let left = frame_settled to.state (after m guarded e).registers count lands.registers in
        let u = left.0 in
        let is = is_settled (view_by m.device k) to.state u left.1.0 in (
          u,
          (
            left.1.0,
            record {
              inside = lands.inside;
              place = lands.place;
              registers = left.1.1;
              flags = subst (λ f. FlagsStand o f (after m guarded e).sreg) (sym is.flags) lands.flags;
              less = subst (λ f. LessHolds (after m guarded e).registers f.carry (flag (after m guarded e).sreg 0)) (sym is.flags) lands.less;
              facts = subst (λ f. HoldsAt f (after m guarded e).registers (after m guarded e).sreg) (sym is.facts) lands.facts;
              slots = λ within inside kept. subst (SlotsStand o (after m guarded e).memory) (sym is.slots) (lands.slots within inside kept);
            },
          ),
        )

    -- what a row covers, it covers where high bytes are settled behind it
    pub settling_follows : (r : Raw) → ((to : Node) → Contains r.moves to → length to.state.registers ≡ REGISTERS) → Follows may m o k guarded b1 b2 e r
        → Follows may m o k guarded b1 b2 e (settling (view_by m.device k) r)
    settling_follows r counts (stays to present inst lands) =
        let found = arrives_settled to (counts to present) lands in
        stays (record { key = to.key; state = found.0 }) (in_left (settled_state (view_by m.device k)) r.moves to found.0 present found.1.0) inst found.1.1
    settling_follows r counts (calls offset site present closed guards is) = calls offset site present closed guards is
    settling_follows r counts (leaves x exit kind closed returns) = leaves x exit kind closed returns
