-- Nodes are visited in any order: the family remains built from the first one by targets of its edges.
use Rattle.std.proofs.Common.{◌≡◌, refl, sym, ap, ap₂, ◌∙◌, subst, ℕ, ◌^◌, ◌+◌, ◌-◌, ◌*◌, ◌<◌, ◌≤◌, ⊎_elim, Bool, true, false, ◌&&◌, ◌==◌, List, [], ◌∷◌, length, Option, Some, None, Contains, arith}
use Rattle.std.specs.FinMap.{get, empty}
use Rattle.std.proofs.lemmas.Option.{same_Some}
use Rattle.basics.specs.Items.{none_in, each_of_join}
use Rattle.basics.specs.Numbers.{zero_from_test}
use Rattle.avr_model.specs.declared.device.Device.{Device}
use Rattle.avr_model.proofs.AllLaws.{devices_are_alike}
use Rattle.avr_model.specs.Devices.{device_of, limit_of}
use Rattle.avr_model.specs.Vectors.{enable_count}
use Rattle.avr_model.specs.Assumptions.{has_pairs}
use Rattle.abs_state.specs.declared.state.AbsState.{AbsState}
use Rattle.abs_state.specs.PairsBack.{returned}
use Rattle.abs_state.specs.Formed.{IsFormed}
use Rattle.abs_state.specs.Banks.{IsStateOf}
use Rattle.abs_state.proofs.AllLaws.{returns_are_true, tags_stay_fit, states_are_ordered, hulls_hold_intervals, states_are_of, joins_are_formed}
use Rattle.node_keys.specs.declared.keys.InstKey.{InstKey}
use Rattle.node_keys.specs.declared.keys.NodeKey.{NodeKey}
use Rattle.node_keys.specs.declared.keys.EdgeKind.{EdgeKind}
use Rattle.node_keys.specs.declared.keys.EdgeKind.TheVariants as kind
use Rattle.node_keys.specs.declared.keys.SpForm.TheVariants.{Closed}
use Rattle.node_keys.specs.Keys.{root_inst, entry_key, offset_of, is_root, PickFits}
use Rattle.local_rules.specs.declared.local.Exit.{Exit}
use Rattle.local_rules.specs.declared.local.Node.{Node}
use Rattle.local_rules.specs.Cover.{IsNodeIn}
use Rattle.local_laws.specs.Laws.{AreNodesIn}
use Rattle.local_laws.proofs.AllLaws.{local_parts_fit, local_parts_are_monotone}
use Rattle.edge_rules.specs.Edges.{Enters, by_call, by_interrupt, pick_back, returned_key}
use Rattle.edge_rules.specs.Roots.{root_of}
use Rattle.edge_laws.specs.Laws.{with_state}
use Rattle.edge_laws.proofs.AllLaws.{edges_lead_to_nodes, edges_grow}
use Rattle.round_table.specs.declared.crossings.Crossing.{Crossing}
use Rattle.round_nesting.specs.Nestings.{Noted, AreOnce}
use Rattle.round_rules.specs.Families.{Family, nodes_of, FamilyHas, FamilyHasInst, FitsLimits, Lands, Below, AreFormed, HasNoFault, IsClosed, cells}
use Rattle.round_rules.specs.Rounds.{first, PassesTests}
use Rattle.round_laws.specs.Steps.{raised_all, weight}
use Rattle.round_laws.proofs.AllLaws.{lands_up, formed_nodes, member_has, rounds_are_joins, get_same}
use Rattle.round_steps.specs.declared.looking.Look.{Look}
use Rattle.round_steps.specs.declared.noting.Notes.{Notes}
use Rattle.round_steps.specs.Looks.{IsLook}
use Rattle.round_steps.specs.Notings.{blank, AnyHas, CallsAt, LeavesAt, AreNoted}
use Rattle.round_steps.specs.Targets.{targets_of, all_targets}
use Rattle.round_steps.specs.Gathers.{AreBeyond}
use Rattle.round_laws.specs.Closed.{LandWithEdges, IsMade}
use Rattle.fixpoint.specs.Order.{HasEntered, HasLeft, WereTrue, IsUnderWay}
use Rattle.fixpoint.specs.OrderLaws.{OrdersEnd}
use Rattle.fixpoint.specs.Progress.{comes_back, AreRoundsFound}
use Rattle.fixpoint.proofs.Looked.{seen_node, look_clean, look_exit, look_way}
use Rattle.fixpoint.proofs.Aims.{IsAim, own_aim, back_aim}
use Rattle.fixpoint.proofs.Cases.{look_cases}
use Rattle.round_laws.proofs.CloseLaws.{closed_families_end_rounds}
use Rattle.round_solutions.proofs.CloseLaws.{closed_families_are_solved}
use Rattle.local_rules.specs.Site.{Task}

-- by the test there is none
pub none_left : (l : List Node) (b : Bool) (n : ℕ) → b ≡ (n == 0) → n ≡ length l → b ≡ true → l ≡ []
none_left [] b n is all e = refl
none_left (x ∷ xs) b n is all e = absurd (let z = zero_from_test b n is e in omega (arith, z, all))

-- ---- returns lead to nodes

pick_fits : (way : EdgeKind) (pick : Option ℕ) → PickFits pick → PickFits (pick_back way pick)
pick_fits kind.Local pick fits = tt
pick_fits kind.Call pick fits = tt
pick_fits (kind.Interrupt v clears) pick fits = fits
pick_fits kind.Return pick fits = tt

both_same : (b : Bool) → (b && b) ≡ b
both_same true = refl
both_same false = refl

-- an instance that is entered isn't the root
entered_kind : {task : Task} {n : Node} {way : EdgeKind} {inst : InstKey} {back : ℕ} → Enters task n way inst back → is_root inst.kind ≡ false
entered_kind (by_call offset site faultless form member) = refl
entered_kind (by_interrupt offset v clears faultless form i delay enabled allowed clearable) = refl

-- the target of a return from a node of an entered instance at its base, by an exit that keeps the enable bits
returned_node : {device : Device} {followed : Bool} (way : EdgeKind) (k l : NodeKey) (s t after : AbsState) (back : ℕ) (x : Exit) → IsNodeIn device followed k s → back < limit_of device → IsNodeIn device followed l t → is_root l.inst.kind ≡ false → l.sp ≡ Closed 0 → x.masks ≡ l.masks
    → returned s t ≡ Some after → IsNodeIn device followed (returned_key way k back x) after
returned_node {device = device} {followed = followed} way k l s t after back x node word other kind sp masks is =
    let base : IsFormed t 0 = subst (IsFormed t) (ap offset_of sp) other.formed in
    record {
      word = word;
      small = node.small;
      masks = subst (λ (m : ℕ). m < 2 ^ enable_count device) (sym masks) other.masks;
      fits = node.fits;
      pick = pick_fits way k.pick node.pick;
      formed = returns_are_true.formed s t after (offset_of k.sp) node.formed base is;
      tags = tags_stay_fit.at_return s t after node.formed.count_registers node.tags is;
      carry_bytes = tags_stay_fit.carry_at_return s t after node.carry_bytes is;
      untagged = λ kind. returns_are_true.untagged s t after (offset_of k.sp) node.formed base (node.untagged kind) is;
      registers_of =
          states_are_of.returned device (is_root k.inst.kind) s t after (joins_are_formed.whole s (offset_of k.sp) node.formed) (joins_are_formed.whole t 0 base) node.registers_of
          (subst (λ b. IsStateOf device b t) kind other.registers_of) is;
      mode = returns_are_true.followed s t after is ∙ ap₂ (λ (f g : Bool). f && g) node.mode other.mode ∙ both_same followed;
      hulls = hulls_hold_intervals.returned s t after is;
    }

module _ (task : Task) where
  back_small : (n : Node) (way : EdgeKind) (inst : InstKey) (back : ℕ) → IsNodeIn (device_of task.flash) (has_pairs task.assumptions) n.key n.state → Enters task n way inst back → back < limit_of (device_of task.flash)
  back_small n _ _ _ node (by_call offset site faultless form member) =
      let lead = (local_parts_fit.fit task n.key n.state).calls site member in
      let few = devices_are_alike.in_limit (device_of task.flash) in
      omega (arith, lead.1, few)
  back_small n _ _ _ node (by_interrupt offset v clears faultless form i delay enabled allowed clearable) = node.word

  -- ---- what is noted

  entered_up : (f g : Family) → Below f g → (inst : InstKey) (p : Crossing) → HasEntered task f inst p → HasEntered task g inst p
  entered_up f g below inst p h = record { node = h.node; was = h.was; lands = lands_up f g h.node below h.lands; at = h.at; enters = h.enters }

  left_up : (f g : Family) → Below f g → (inst : InstKey) (p : Crossing) → HasLeft task f inst p → HasLeft task g inst p
  left_up f g below inst p h =
      record { node = h.node; was = h.was; lands = lands_up f g h.node below h.lands; at = h.at; of = h.of; clean = h.clean; exit = h.exit }

  were_up : (f g : Family) (notes : Notes) → Below f g → WereTrue task f notes → WereTrue task g notes
  were_up f g notes below were =
      record { callers = λ inst p i. entered_up f g below inst p (were.callers inst p i); leavers = λ inst p i. left_up f g below inst p (were.leavers inst p i) }

  there : (f : Family) (n : Node) → FamilyHas f n → Lands f n
  there f n has = record { at = n.state; is = has; above = states_are_ordered.same n.state }

  module _ (f : Family) (formed : AreFormed (device_of task.flash) (has_pairs task.assumptions) f) (xs : List Look) (looks : (x : Look) → Contains xs x → IsLook task f x) where
    calls_were : (y : InstKey × Crossing) → AnyHas xs CallsAt y → HasEntered task f y.0 y.1
    calls_were y h =
        let is = looks h.one h.member in
        let w = h.has.one in
        let n = seen_node task f h.one is in
        subst (λ (z : InstKey × Crossing). HasEntered task f z.0 z.1) (sym h.has.has)
        (record { node = n; was = formed n is.has; lands = there f n is.has; at = refl; enters = (look_way task f h.one is w).0 h.has.member })

    leaves_were : (y : InstKey × Crossing) → AnyHas xs LeavesAt y → HasLeft task f y.0 y.1
    leaves_were y h =
        let is = looks h.one h.member in
        let n = seen_node task f h.one is in
        subst (λ (z : InstKey × Crossing). HasLeft task f z.0 z.1) (sym h.has.1)
        (record {
          node = n;
          was = formed n is.has;
          lands = there f n is.has;
          at = refl;
          of = refl;
          clean = look_clean task f h.one is;
          exit = sym (look_exit task f h.one is) ∙ h.has.0;
        })

    were_more : (old new : Notes) → WereTrue task f old → AreNoted task.assumptions old xs new → WereTrue task f new
    were_more old new were noted = record {
      callers = λ i p h. ⊎_elim (were.callers i p) (calls_were (i, p)) ((noted.callers (i, p)).0 h);
      leavers = λ i p h. ⊎_elim (were.leavers i p) (leaves_were (i, p)) ((noted.leavers (i, p)).0 h);
    }

    -- ---- where looks lead

    module _ (notes : Notes) (were : WereTrue task f notes) where
      abbrev ns : List Node
      ns = all_targets f notes xs

      are_nodes : AreNodesIn (device_of task.flash) (has_pairs task.assumptions) ns
      are_nodes = each_of_join (targets_of f notes) (λ (to : Node). IsNodeIn (device_of task.flash) (has_pairs task.assumptions) to.key to.state) xs (λ x to i j. of_look x (looks x i) to j)
        where
          of_look : (x : Look) (is : IsLook task f x) (to : Node) → Contains (targets_of f notes x) to → IsNodeIn (device_of task.flash) (has_pairs task.assumptions) to.key to.state
          of_look x is =
              let n = seen_node task f x is in
              look_cases task f notes x is (λ (to : Node). IsNodeIn (device_of task.flash) (has_pairs task.assumptions) to.key to.state)
              (λ to own.
              let a = own_aim task f n to is.has own in
              subst (λ (t : Node). IsNodeIn (device_of task.flash) (has_pairs task.assumptions) t.key t.state) a.at
              (edges_lead_to_nodes.edges task (nodes_of f) a.from a.edge (formed_nodes f formed) (member_has f a.from a.has) a.is))
              (λ w p t after enters j at r.
              let h = were.leavers w.inst p j in
              let left = (local_parts_fit.fit task h.node.key h.node.state).exit p.exit h.exit in
              returned_node w.kind x.key p.node is.state t after w.back p.exit (formed n is.has) (back_small n w.kind w.inst w.back (formed n is.has) enters)
              (formed (record { key = p.node; state = t }) at)
              (ap (λ (k : NodeKey). is_root k.inst.kind) (sym h.at) ∙ ap (λ (i : InstKey). is_root i.kind) h.of ∙ entered_kind enters) (subst (λ (k : NodeKey). k.sp ≡ Closed 0) h.at left.0)
              (subst (λ (k : NodeKey). p.exit.masks ≡ k.masks) h.at left.1) r)
              (λ e p t after exit j at r.
              let h = were.callers x.key.inst p j in
              let left = (local_parts_fit.fit task x.key is.state).exit e exit in
              returned_node p.kind p.node x.key t is.state after p.back e (formed (record { key = p.node; state = t }) at)
              (back_small h.node p.kind x.key.inst p.back h.was h.enters) (formed n is.has) (entered_kind h.enters) left.0 left.1 r)

      -- if the family has no fault, an edge of it leads to each
      module _ (clean : HasNoFault task f) where
        aims : (to : Node) → Contains ns to → IsAim task f to
        aims = each_of_join (targets_of f notes) (IsAim task f) xs (λ x to i j. of_look x (looks x i) to j)
          where
            of_look : (x : Look) (is : IsLook task f x) (to : Node) → Contains (targets_of f notes x) to → IsAim task f to
            of_look x is =
                let n = seen_node task f x is in
                look_cases task f notes x is (IsAim task f)
                (λ to own. own_aim task f n to is.has own)
                (λ w p t after enters j at r.
                let h = were.leavers w.inst p j in
                let l = h.lands in
                let m = with_state h.node l.at in
                let same : l.at ≡ t = same_Some l.at t (sym l.is ∙ ap (get f) h.at ∙ at) in
                let within = (local_parts_are_monotone.below task h.node.key h.node.state l.at h.was (formed m l.is) l.above).within (clean m l.is) in
                back_aim task f n m _ is.has l.is
                (comes_back w.kind w.inst w.back p.exit after enters h.of (clean m l.is) (sym within.exit ∙ h.exit) (ap (returned is.state) same ∙ r)))
                (λ e p t after exit j at r.
                let h = were.callers x.key.inst p j in
                let l = h.lands in
                let c = with_state h.node l.at in
                let same : l.at ≡ t = same_Some l.at t (sym l.is ∙ ap (get f) h.at ∙ at) in
                let enters = edges_grow.enters task h.node l.at p.kind x.key.inst p.back h.was (formed c l.is) l.above (clean c l.is) h.enters in
                subst (λ (k : NodeKey). IsAim task f (record { key = returned_key p.kind k p.back e; state = after })) h.at
                (back_aim task f c n _ l.is is.has
                (comes_back p.kind x.key.inst p.back e after enters refl (look_clean task f x is) exit (ap (λ (u : AbsState). returned u is.state) same ∙ r))))

      land : (items : List Node) → AreBeyond (device_of task.flash) (has_pairs task.assumptions) f ns items → LandWithEdges task f items
      land items beyond clean h below lands = beyond.least h (λ to i. let a = aims clean to i in subst (Lands h) a.at (lands a.from a.edge a.has a.is))

      more : (items : List Node) (count : ℕ) → IsMade task f → AreOnce notes.nesting.insts → AreBeyond (device_of task.flash) (has_pairs task.assumptions) f ns items → count ≡ cells (raised_all f items)
          → IsUnderWay task (raised_all f items) count notes
      more items count made once beyond counted = record {
        made = closed_families_end_rounds.goes_on task f items made beyond.nodes (land items beyond);
        counted = counted;
        were = were_up f (raised_all f items) notes (rounds_are_joins.joined f items formed beyond.nodes).above were;
        once = once;
      }

  -- ---- begin and end

  begins : (count : ℕ) → count ≡ cells (first task.assumptions) → IsUnderWay task (first task.assumptions) count blank
  begins count counted = record {
    made = closed_families_end_rounds.begins task;
    counted = counted;
    were = record { callers = λ i p h. absurd (none_in p h); leavers = λ i p h. absurd (none_in p h) };
    once = λ i j inst a b. absurd (let never = a in cc);
  }

  ends : (f : Family) → IsMade task f → IsClosed task f → PassesTests task f → AreRoundsFound task None f
  ends f made closed passes = let s = closed_families_are_solved.solved task f made closed passes in record { number = s.0; within = tt; solved = s.1 }

  -- ---- in the words of the code

  pub way_first : (f : Family) (count : ℕ) (notes : Notes) → f ≡ first task.assumptions → count ≡ cells f → notes ≡ blank → IsUnderWay task f count notes
  way_first f count notes is counted none =
      subst (IsUnderWay task f count) (sym none)
      (subst (λ (x : Family). IsUnderWay task x count blank) (sym is) (begins count (counted ∙ ap cells is)))

  -- the nesting may be checked on the way
  pub way_asked : (f : Family) (count : ℕ) (notes : Notes) (nesting : Noted) → IsUnderWay task f count notes → AreOnce nesting.insts
      → IsUnderWay task f count (record { callers = notes.callers; leavers = notes.leavers; nesting = nesting })
  way_asked f count notes nesting way once = record {
    made = way.made;
    counted = way.counted;
    were = record { callers = way.were.callers; leavers = way.were.leavers };
    once = once;
  }

  pub made_root : (f : Family) → IsMade task f → FamilyHasInst f root_inst
  made_root f made =
      let n : Node = record { key = entry_key root_inst; state = root_of task.assumptions } in
      let l = made.above n (get_same empty (entry_key root_inst) (root_of task.assumptions)) in
      (with_state n l.at, l.is, refl)

  -- a visit removes an item of the worklist, and each item that is added raised the weight
  pub falls_again : (f g : Family) (c h now : ℕ) → AreFormed (device_of task.flash) (has_pairs task.assumptions) g → FitsLimits g → weight f + c ≤ weight g → now ≡ h + c
      → 2 * (9421119815681 - weight g) + now ≤ 2 * (9421119815681 - weight f) + h
  falls_again f g c h now formed fits more is =
      let top = rounds_are_joins.high g formed in
      let few = fits.few_cells in
      omega (arith, top, few, more, is)

pub orders_end : OrdersEnd
orders_end = record {
  begins = begins;
  noted = λ task f old new xs formed were looks noted. were_more task f formed xs looks old new were noted;
  nodes = λ task f notes xs formed were looks. are_nodes task f formed xs looks notes were;
  goes_on = λ task f count notes xs items made were once looks beyond counted. more task f made.formed xs looks notes were items count made once beyond counted;
  ends = ends;
}
