-- With pairs each row covers the machine's step too.
use Rattle.std.proofs.Common.{◌≡◌, refl, sym, subst, subst₂, ap, ℕ, Bool, true, false, List, [], ◌∷◌, Option, Some, if◌then◌else◌, Contains, ⊎_elim}
use Rattle.std.proofs.lemmas.List.Elements.{Contains-append_left, Contains-append_right}
use Rattle.basics.specs.Items.{none_in, first_in, first_or_further}
use Rattle.avr_model.specs.declared.device.Device.{Device}
use Rattle.avr_model.specs.Devices.{Image, wrapped}
use Rattle.avr_model.specs.Marks.{marks}
use Rattle.avr_model.specs.declared.effect.Effect.{Effect}
use Rattle.avr_model.specs.declared.instruction.Instr.{Instr}
use Rattle.avr_model.specs.declared.instruction.Instr.TheVariants as i
use Rattle.avr_model.specs.declared.instruction.BinaryOp.{BinaryOp}
use Rattle.avr_model.specs.declared.instruction.BinaryOp.TheVariants as binary
use Rattle.avr_model.specs.declared.instruction.ImmediateOp.{ImmediateOp}
use Rattle.avr_model.specs.declared.instruction.ImmediateOp.TheVariants as immediate
use Rattle.avr_model.specs.declared.instruction.UnaryOp.{UnaryOp}
use Rattle.avr_model.specs.declared.instruction.UnaryOp.TheVariants as unary
use Rattle.avr_model.specs.Effects.{effect_of, binary_effect, immediate_effect, unary_effect, going_to}
use Rattle.avr_model.specs.State.{State}
use Rattle.avr_model.specs.Sreg.{flag}
use Rattle.avr_model.specs.Step.{after, registers_after, sreg_after, with_registers}
use Rattle.sp_domain.specs.Tags.{Origin, HasByteNumbers, LessHolds}
use Rattle.abs_state.specs.declared.state.AbsState.{AbsState}
use Rattle.abs_state.specs.Laws.{HoldsAt}
use Rattle.abs_state.specs.Formed.{IsFormed}
use Rattle.abs_state.specs.Stands.{RegistersStand, FlagsStand, SlotsStand}
use Rattle.pair_rules.specs.Fits.{HasRegisters}
use Rattle.pair_rules.specs.Refined.{refined}
use Rattle.pair_laws.specs.Laws.{registers_set, sreg_set, IsBefore, IsBehind}
use Rattle.pair_laws.specs.CutLaws.{StandsFor, IsLeftOf}
use Rattle.pair_laws.proofs.AllLaws.{refined_holds, refined_is_ordered}
use Rattle.node_keys.specs.declared.keys.NodeKey.{NodeKey}
use Rattle.node_keys.specs.Keys.{offset_of}
use Rattle.local_rules.specs.declared.local.Node.{Node}
use Rattle.local_rules.specs.Raw.{Raw, all_of, off_table}
use Rattle.local_rules.specs.Flow.{going_where}
use Rattle.local_rules.specs.Local.{refined_nodes, refining}
use Rattle.local_rules.specs.Settling.{node_where}
use Rattle.local_rules.specs.Machine.{AreWords}
use Rattle.local_rules.specs.Cover.{ArrivesAt, Follows, stays, calls, leaves}
use Rattle.local_laws.proofs.Bare.{IsBare, InBareFrame}
use Rattle.local_laws.proofs.Bytes.{byte_in_list}
use Rattle.local_laws.proofs.Frame.{turns_to}
use Rattle.local_laws.proofs.PlainRows.{IsRefinedInstr}

-- ---- refined nodes

pub in_refined : (image : Image) (instr : Instr) (s : AbsState) (nodes : List Node) (to : Node) (u : AbsState) → Contains nodes to
    → refined (marks image) image instr s to.state ≡ Some u → Contains (refined_nodes image instr s nodes) (record { key = to.key; state = u })
in_refined image instr s [] to u i e = absurd (none_in to i)
in_refined image instr s (n ∷ ns) to u i e =
    ⊎_elim
    (λ same.
    let here : Contains (node_where to.key (refined (marks image) image instr s to.state)) (record { key = to.key; state = u }) =
    subst (λ (x : Option AbsState). Contains (node_where to.key x) (record { key = to.key; state = u })) (sym e) (first_in (record { key = to.key; state = u }) []) in
    Contains-append_left (node_where n.key (refined (marks image) image instr s n.state)) (refined_nodes image instr s ns) (record { key = to.key; state = u })
    (subst (λ (x : Node). Contains (node_where x.key (refined (marks image) image instr s x.state)) (record { key = to.key; state = u })) same here))
    (λ rest. Contains-append_right (node_where n.key (refined (marks image) image instr s n.state)) (refined_nodes image instr s ns) (record { key = to.key; state = u }) (in_refined image instr s ns to u rest e))
    (first_or_further n to ns i)

-- ---- effects that store nothing

module _ (image : Image) (still : Bool) (m : State) (b1 b2 : ℕ) where
  binary_stores : (op : BinaryOp) (d r : ℕ) → (binary_effect image m op d r).stores ≡ []
  binary_stores binary.Cpc d r = refl
  binary_stores binary.Sbc d r = refl
  binary_stores binary.Add d r = refl
  binary_stores binary.Cpse d r = refl
  binary_stores binary.Cp d r = refl
  binary_stores binary.Sub d r = refl
  binary_stores binary.Adc d r = refl
  binary_stores binary.And d r = refl
  binary_stores binary.Eor d r = refl
  binary_stores binary.Or d r = refl
  binary_stores binary.Mov d r = refl
  binary_stores binary.Mul d r = refl

  immediate_stores : (op : ImmediateOp) (d n : ℕ) → (immediate_effect m op d n).stores ≡ []
  immediate_stores immediate.Cpi d n = refl
  immediate_stores immediate.Sbci d n = refl
  immediate_stores immediate.Subi d n = refl
  immediate_stores immediate.Ori d n = refl
  immediate_stores immediate.Andi d n = refl
  immediate_stores immediate.Ldi d n = refl

  unary_stores : (op : UnaryOp) (d : ℕ) → (unary_effect m op d).stores ≡ []
  unary_stores unary.Com d = refl
  unary_stores unary.Neg d = refl
  unary_stores unary.Swap d = refl
  unary_stores unary.Inc d = refl
  unary_stores unary.Asr d = refl
  unary_stores unary.Lsr d = refl
  unary_stores unary.Ror d = refl
  unary_stores unary.Dec d = refl

  no_stores : (instr : Instr) → IsRefinedInstr instr → (effect_of image still m instr b1 b2).stores ≡ []
  no_stores (i.Binary op d r) is = binary_stores op d r
  no_stores (i.Immediate op d n) is = immediate_stores op d n
  no_stores (i.Unary op d) is = unary_stores op d
  no_stores (i.Std b q r) is = absurd is
  no_stores (i.Sts a r) is = absurd is
  no_stores (i.St p r) is = absurd is
  no_stores (i.Out a r) is = absurd is
  no_stores (i.Cbi a b) is = absurd is
  no_stores (i.Sbi a b) is = absurd is
  no_stores instr is = refl

-- ---- a refined row

module _ {may : Bool} (image : Image) (are : AreWords image) (m : State) (o : Origin) (k : NodeKey) (s : AbsState) (at : InBareFrame may m o k s) (b1 b2 : ℕ) (guarded : Bool)
    (instr : Instr) (has : HasRegisters instr) where
  abbrev effect : Effect
  effect = effect_of image may m instr b1 b2

  pub is_before : IsBefore o s m
  is_before = record {
    count = at.machine.count_registers;
    bytes = λ r. byte_in_list m.registers r at.machine.register_bytes;
    registers = at.stands.registers;
    flags = at.stands.flags;
    facts = at.facts;
  }

  module _ (is : IsRefinedInstr instr) where
    abbrev Reached : List ℕ → ℕ → Type 0
    Reached registers sreg = (registers ≡ (after m guarded effect).registers) × (sreg ≡ (after m guarded effect).sreg)

    reached : Reached (registers_set image may m instr b1 b2) (sreg_set image may m instr b1 b2)
    reached =
        let none = no_stores image may m b1 b2 instr is in (
          sym (ap (registers_after m.device (with_registers m.registers effect.registers)) none),
          sym (ap (sreg_after m.device effect.sreg) none),
        )

    arrives_refined : (to : Node) (n : ℕ) → IsFormed to.state n → ArrivesAt may m o guarded effect to
        → (u : AbsState) × (refined (marks image) image instr s to.state ≡ Some u) × ArrivesAt may m o guarded effect (record { key = to.key; state = u })
    arrives_refined to n formed lands =
        let behind : IsBehind o to.state (registers_set image may m instr b1 b2) (sreg_set image may m instr b1 b2) = record {
          registers = subst (RegistersStand o to.state.registers) (sym reached.0) lands.registers;
          facts = subst₂ (HoldsAt to.state.facts) (sym reached.0) (sym reached.1) lands.facts;
        } in
        let found = refined_holds.holds (marks image) image may o m instr b1 b2 (offset_of k.sp) n s to.state are has at.node.formed formed is_before behind in
        let u = found.0 in
        let like = refined_is_ordered.like (marks image) image instr s to.state u found.1 in (
          u,
          found.1,
          record {
            inside = lands.inside;
            place = lands.place;
            registers = subst (RegistersStand o u.registers) reached.0 found.2.registers;
            flags = subst (λ f. FlagsStand o f (after m guarded effect).sreg) (sym like.flags) lands.flags;
            less = subst (λ f. LessHolds (after m guarded effect).registers f.carry (flag (after m guarded effect).sreg 0)) (sym like.flags) lands.less;
            facts = subst₂ (HoldsAt u.facts) reached.0 reached.1 found.2.facts;
            slots = λ within inside kept. subst (SlotsStand o (after m guarded effect).memory) (sym like.slots) (lands.slots within inside kept);
          },
        )

    pub refining_follows : (r : Raw) → ((to : Node) → Contains r.moves to → IsBare m.device to.key to.state) → Follows may m o k guarded b1 b2 effect r → Follows may m o k guarded b1 b2 effect (refining image instr s r)
    refining_follows r bares (stays to present inst lands) =
        let found = arrives_refined to (offset_of to.key.sp) (bares to present).formed lands in
        stays (record { key = to.key; state = found.0 }) (in_refined image instr s r.moves to found.0 present found.1) inst found.2
    refining_follows r bares (calls offset site present closed guards is) = calls offset site present closed guards is
    refining_follows r bares (leaves x exit kind closed returns) = leaves x exit kind closed returns

-- ---- what is left of a state

pub left_bare : {device : Device} (k : NodeKey) (s t : AbsState) → IsBare device k s → IsLeftOf s t (offset_of k.sp) → IsBare device k t
left_bare k s t h left =
    record {
      word = h.word;
      small = h.small;
      masks = h.masks;
      fits = h.fits;
      pick = h.pick;
      formed = left.formed;
      tags = left.fit h.tags;
      carry_bytes = subst HasByteNumbers (sym left.carry) h.carry_bytes;
      untagged = λ root. left.untagged (h.untagged root);
    }

pub left_frame : {may : Bool} (m : State) (o : Origin) (k : NodeKey) (s t : AbsState) → InBareFrame may m o k s → IsLeftOf s t (offset_of k.sp) → StandsFor o t m → InBareFrame may m o k t
left_frame m o k s t at left stands =
    record {
      machine = at.machine;
      node = left_bare k s t at.node left;
      place = at.place;
      stands = stands.stands;
      facts = stands.facts;
      banks = at.banks;
      root = at.root;
      top = at.top;
      base_word = at.base_word;
      room = at.room;
      sees = at.sees;
    }

module _ {may : Bool} (m : State) (o : Origin) (k : NodeKey) (s : AbsState) (at : InBareFrame may m o k s) (guarded : Bool) (b1 b2 : ℕ) where
  -- a test has two outcomes, each with its cut state
  pub two_ways : (test : Bool) (hit miss : Option AbsState) (taken taken' other other' : ℕ) → wrapped m.device taken ≡ taken' → wrapped m.device other ≡ other'
      → (t : AbsState) → (if test then hit else miss) ≡ Some t → IsLeftOf s t (offset_of k.sp) → StandsFor o t m
      → Follows may m o k guarded b1 b2 (going_to m (if test then taken else other)) (all_of (going_where k miss other' ∷ going_where k hit taken' ∷ []))
  two_ways true hit miss taken taken' other other' is is' t e left stands =
      let to : Node = record { key = off_table k taken'; state = t } in
      let here : Contains (going_where k hit taken').moves to = subst (λ (x : Option AbsState). Contains (going_where k x taken').moves to) (sym e) (first_in to []) in
      stays to (Contains-append_right (going_where k miss other').moves (all_of (going_where k hit taken' ∷ [])).moves to (Contains-append_left (going_where k hit taken').moves [] to here)) refl
      ((turns_to m o k t (left_frame m o k s t at left stands) guarded taken taken' is).lands stands.facts)
  two_ways false hit miss taken taken' other other' is is' t e left stands =
      let to : Node = record { key = off_table k other'; state = t } in
      let here : Contains (going_where k miss other').moves to = subst (λ (x : Option AbsState). Contains (going_where k x other').moves to) (sym e) (first_in to []) in
      stays to (Contains-append_left (going_where k miss other').moves (all_of (going_where k hit taken' ∷ [])).moves to here) refl
      ((turns_to m o k t (left_frame m o k s t at left stands) guarded other other' is').lands stands.facts)
