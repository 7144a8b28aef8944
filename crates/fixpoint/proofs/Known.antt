-- After a round the notes have all nodes, and the nesting is the family's.
use Rattle.std.proofs.Common.{◌≡◌, refl, sym, ◌∙◌, subst, subst₂, ℕ, inl, inr, ⊎_elim, List, Some, None, Contains}
use Rattle.node_keys.specs.declared.keys.InstKey.{InstKey}
use Rattle.node_keys.specs.declared.keys.NodeKey.{NodeKey}
use Rattle.node_keys.specs.Keys.{root_inst, offset_of, cut_at}
use Rattle.edge_rules.specs.Nest.{recurs, enters as by_node}
use Rattle.local_rules.specs.declared.local.Node.{Node}
use Rattle.family_edges.specs.declared.ways.Way.{Way}
use Rattle.round_table.specs.declared.crossings.Crossing.{Crossing}
use Rattle.round_nesting.specs.Nestings.{Spot, Entrance, IsSpotOf, IsNestingOf}
use Rattle.round_rules.specs.Families.{Family, FamilyHas, FamilyHasInst}
use Rattle.round_rules.specs.Rounds.{IsEntering}
use Rattle.round_steps.specs.declared.looking.Look.{Look}
use Rattle.round_steps.specs.declared.looking.SeenState.{SeenState}
use Rattle.round_steps.specs.declared.noting.Notes.{Notes}
use Rattle.round_steps.specs.Looks.{IsLook, HasLook, AreSeen}
use Rattle.round_steps.specs.Notings.{AnyHas, caller, leaver, CallsAt, LeavesAt, InstAt, SpotAt, EntersAt, AreNoted}
use Rattle.fixpoint.specs.Progress.{IsCaller, IsLeaver, AreTrue, IsKnown, AreKnown, Turn}
use Rattle.fixpoint.proofs.Looked.{seen_node, look_exit, look_way, look_node, none_faulty, looked}
use Rattle.local_rules.specs.Site.{Task}

module _ (task : Task) (f : Family) (old new : Notes) (xs : List Look) (noted : AreNoted task.assumptions old xs new) where
  module _ (looks : (x : Look) → Contains xs x → IsLook task f x) where
    -- ---- what was found is so

    calls_so : (y : InstKey × Crossing) → AnyHas xs CallsAt y → IsCaller task f y.0 y.1
    calls_so y h =
        let is = looks h.one h.member in
        let w = h.has.one in
        let at : y ≡ (w.inst, caller h.one.key w) = h.has.has in
        subst (λ (z : InstKey × Crossing). IsCaller task f z.0 z.1) (sym at)
        (record { node = seen_node task f h.one is; has = is.has; at = refl; enters = (look_way task f h.one is w).0 h.has.member })

    leaves_so : (y : InstKey × Crossing) → AnyHas xs LeavesAt y → IsLeaver task f y.0 y.1
    leaves_so y h =
        let is = looks h.one h.member in
        let at : y ≡ (h.one.key.inst, leaver h.one.key y.1.exit) = h.has.1 in
        subst (λ (z : InstKey × Crossing). IsLeaver task f z.0 z.1) (sym at)
        (record { node = seen_node task f h.one is; has = is.has; at = refl; of = refl; exit = sym (look_exit task f h.one is) ∙ h.has.0 })

    inst_so : (i : InstKey) → AnyHas xs InstAt i → FamilyHasInst f i
    inst_so i h = let is = looks h.one h.member in (seen_node task f h.one is, is.has, sym h.has)

    spot_so : (s : Spot) → AnyHas xs SpotAt s → IsSpotOf f s
    spot_so s h =
        let is = looks h.one h.member in
        record { node = seen_node task f h.one is; has = is.has; of = sym h.has.0; closed = h.has.1 }

    entrance_so : (e : Entrance) → AnyHas xs (EntersAt task.assumptions) e → IsEntering task f e.from e.into e.offset
    entrance_so e h =
        let is = looks h.one h.member in
        ⊎_elim
        (λ r. subst (λ (d : Entrance). IsEntering task f d.from d.into d.offset) (sym r.1) (recurs (seen_node task f h.one is) is.has refl r.0 refl))
        (λ b.
        let w = b.one in
        subst (λ (d : Entrance). IsEntering task f d.from d.into d.offset) (sym b.has.1)
        (by_node (seen_node task f h.one is) w.kind w.back is.has refl refl ((look_way task f h.one is w).0 b.member) b.has.0)) h.has

    pub notes_so : AreTrue task f old → AreTrue task f new
    notes_so so = record {
      callers = λ i p h. ⊎_elim (so.callers i p) (calls_so (i, p)) ((noted.callers (i, p)).0 h);
      leavers = λ i p h. ⊎_elim (so.leavers i p) (leaves_so (i, p)) ((noted.leavers (i, p)).0 h);
      insts = λ i h. ⊎_elim (so.insts i) (inst_so i) ((noted.insts i).0 h);
      spots = λ s h. ⊎_elim (so.spots s) (spot_so s) ((noted.spots s).0 h);
      entrances = λ e h. ⊎_elim (so.entrances e) (entrance_so e) ((noted.entrances e).0 h);
    }

    -- ---- each node is known

    pub look_known : (n : Node) → FamilyHas f n → HasLook xs n.key → IsKnown task new n
    look_known n has h =
        let is = looks h.look h.member in
        subst (IsKnown task new) (look_node task f h.look is n has h.at)
        (record {
          callers = λ way inst back e. let w : Way = record { kind = way; inst = inst; back = back } in
              (noted.callers (inst, caller h.look.key w)).1 (inr (record { one = h.look; member = h.member; has = record { one = w; member = (look_way task f h.look is w).1 e; has = refl } }));
          leavers = λ x e. (noted.leavers (h.look.key.inst, leaver h.look.key x)).1
              (inr (record { one = h.look; member = h.member; has = (look_exit task f h.look is ∙ e, refl) }));
          inst = (noted.insts h.look.key.inst).1 (inr (record { one = h.look; member = h.member; has = refl }));
          spot = λ offset e. (noted.spots (record { inst = h.look.key.inst; offset = offset })).1 (inr (record { one = h.look; member = h.member; has = (refl, e) }));
          entrances = λ way inst back e whole. let w : Way = record { kind = way; inst = inst; back = back } in
              (noted.entrances (record { from = h.look.key.inst; into = inst; offset = offset_of h.look.key.sp })).1
              (inr (record { one = h.look; member = h.member; has = inr (record { one = w; member = (look_way task f h.look is w).1 e; has = (whole, refl) }) }));
          recur = λ depth cut. (noted.entrances (record { from = root_inst; into = h.look.key.inst; offset = depth })).1
              (inr (record { one = h.look; member = h.member; has = inl (cut, refl) }));
        })

  pub still_known : (n : Node) → IsKnown task old n → IsKnown task new n
  still_known n k = record {
    callers = λ way inst back e. (noted.callers (inst, caller n.key (record { kind = way; inst = inst; back = back }))).1 (inl (k.callers way inst back e));
    leavers = λ x e. (noted.leavers (n.key.inst, leaver n.key x)).1 (inl (k.leavers x e));
    inst = (noted.insts n.key.inst).1 (inl k.inst);
    spot = λ offset e. (noted.spots (record { inst = n.key.inst; offset = offset })).1 (inl (k.spot offset e));
    entrances = λ way inst back e whole. (noted.entrances (record { from = n.key.inst; into = inst; offset = offset_of n.key.sp })).1 (inl (k.entrances way inst back e whole));
    recur = λ depth cut. (noted.entrances (record { from = root_inst; into = n.key.inst; offset = depth })).1 (inl (k.recur depth cut));
  }

-- the notes of a round without a fault
pub all_known : (task : Task) (f : Family) (work : List NodeKey) (old new : Notes) (seen : SeenState) → Turn task f work old → AreSeen task f work seen
    → seen.worst ≡ None → AreNoted task.assumptions old seen.looks.items new → AreKnown task f new
all_known task f work old new seen turn are none noted =
    let clean = none_faulty task f work old seen turn are none in
    record {
      faultless = clean;
      each = λ n has. ⊎_elim (λ i. look_known task f old new seen.looks.items noted are.looks n has (looked task f work old seen turn are none n has i))
          (λ held. still_known task f old new seen.looks.items noted n held.known) (turn.held n has);
      so = notes_so task f old new seen.looks.items noted are.looks (turn.so clean);
    }

pub nesting_is : (task : Task) (f : Family) (notes : Notes) → AreKnown task f notes → IsNestingOf task f notes.nesting
nesting_is task f notes known = record {
  insts = λ i. (known.so.insts i, λ h. subst (Contains notes.nesting.insts) h.2 (known.each h.0 h.1).inst);
  spots = λ s. (known.so.spots s, λ h. subst (λ (i : InstKey). Contains notes.nesting.spots (record { inst = i; offset = s.offset })) h.of ((known.each h.node h.has).spot s.offset h.closed));
  entrances = λ e. (known.so.entrances e, λ h. edge_noted e.from e.into e.offset h);
}
  where
    -- each edge of the nest is noted
    edge_noted : (i j : InstKey) (depth : ℕ) → IsEntering task f i j depth → Contains notes.nesting.entrances (record { from = i; into = j; offset = depth })
    edge_noted i j depth (by_node n way back has same at e whole) =
        subst₂ (λ (k : InstKey) (o : ℕ). Contains notes.nesting.entrances (record { from = k; into = j; offset = o })) same at ((known.each n has).entrances way j back e whole)
    edge_noted i j depth (recurs n has same cut top) =
        subst₂ (λ (k l : InstKey). Contains notes.nesting.entrances (record { from = k; into = l; offset = depth })) (sym top) same
        ((known.each n has).recur depth (subst (λ (k : InstKey). cut_at task.assumptions k ≡ Some depth) (sym same) cut))
