-- The parts of a verdict.
use Rattle.std.proofs.Common.{◌≡◌, Bool, true, false, refl, sym, ap, ◌∙◌, subst, ℕ, zero, suc, ◌<◌, ◌≤◌, List, [], ◌∷◌, length, Some, Result, Ok, Err, slice_get, IfOk, arith}
use Rattle.std.specs.List.{AllByRecursion}
use Rattle.std.proofs.lemmas.Option.{none-some, same_Some, slice_get_within}
use Rattle.basics.specs.Items.{place_of_contained}
use Rattle.avr_model.specs.declared.assumption.Entry.{Entry}
use Rattle.avr_model.specs.Assumptions.{has_pairs}
use Rattle.avr_model.specs.Devices.{device_of}
use Rattle.abs_state.specs.declared.state.AbsState.{AbsState}
use Rattle.node_keys.specs.declared.keys.InstKey.{InstKey}
use Rattle.node_keys.specs.declared.keys.NodeKey.{NodeKey}
use Rattle.node_keys.specs.Keys.{root_inst, entry_key}
use Rattle.local_rules.specs.declared.local.Node.{Node}
use Rattle.local_rules.specs.declared.local.NodeFault.{NodeFault}
use Rattle.local_rules.specs.Faults.{cause_of}
use Rattle.edge_rules.specs.declared.seeded.NodeForm.{NodeForm}
use Rattle.edge_rules.specs.Expansion.{Seeds, IsFilled}
use Rattle.edge_rules.specs.Roots.{root_by, root_of}
use Rattle.edge_rules.specs.Views.{AreShown}
use Rattle.edge_laws.proofs.ExpansionLaws.{filled_lists_are_shown}
use Rattle.family_edges.specs.Exits.{IsFirstFault as HasFirstFault}
use Rattle.certificate.specs.declared.instance.Inst.{Inst}
use Rattle.certificate.specs.Claims.{Claim, IsClaim, Belongs, seed_keys}
use Rattle.certificate.specs.Valid.{reset_node}
use Rattle.cert_check.specs.declared.demand.Demand.{Demand}
use Rattle.cert_check.specs.Reading.{read_seeds}
use Rattle.cert_check.specs.Verdict.{IsFirstFaultOfCause}
use Rattle.cert_check.specs.Demands.{AreBeside, HasSlots, AllBelong, AreDemandsInside, IsLeastOffered, MeetsRank, LowRank, PairBelow, MeetsNeed, LowNeed, NumberBelow}
use Rattle.cert_check.proofs.ReadAs.{seeds_read, ascending_read, beside_read, key_beside}
use Rattle.local_rules.specs.Site.{Task}

pub if_ok : {X E : Type 0} (P Q : X → Type 0) (r : Result X E) → ((x : X) → P x → Q x) → IfOk r P → IfOk r Q
if_ok P Q (Ok x) f h = f x h
if_ok P Q (Err e) f h = h

-- ---- numbers fit

pub inst_fits : (insts : List Inst) (demands : List Demand) (j l : ℕ) → length insts ≤ 65536 → AreDemandsInside insts demands
    → IsLeastOffered (MeetsRank insts) (LowRank insts) PairBelow demands (Some (j, l)) → (j < 65536) × (l < 65536)
inst_fits insts demands j l few inside h =
    let in_list = inside h.0.0 h.0.1.0 in
    let up = in_list.1 l h.0.1.1.1 in
    (omega (arith, in_list.0, few, h.0.1.1.0), omega (arith, up, few))

pub need_fits : (insts : List Inst) (demands : List Demand) (j : ℕ) → length insts ≤ 65536 → AreDemandsInside insts demands
    → IsLeastOffered (MeetsNeed insts) (LowNeed insts) NumberBelow demands (Some j) → j < 65536
need_fits insts demands j few inside h =
    let in_list = inside h.0.0 h.0.1.0 in
    omega (arith, in_list.0, few, h.0.1.1.0)

module _ (task : Task) (c : Claim) (nodes : List Node) (claim : IsClaim c)
    (filled : IsFilled task (read_seeds (has_pairs task.assumptions) c.nodes) nodes) where
  pub few_nodes : length nodes ≤ 65536
  few_nodes = omega (arith, filled.count, (seeds_read c claim (has_pairs task.assumptions)).few)

  pub node_fits : (j : ℕ) (n : Node) → slice_get nodes j ≡ Some n → j < 65536
  node_fits j n e = let lt = slice_get_within nodes j n e in omega (arith, lt, few_nodes)

  key_at : (P : NodeKey → Type 0) (es : Seeds) (j : ℕ) (k : NodeKey) (form : NodeForm) → AllByRecursion P (seed_keys es) → slice_get es j ≡ Some (k, form) → P k
  key_at P [] j k form h e = absurd (none-some (k, form) e)
  key_at P (x ∷ xs) zero k form h e = subst (λ (y : NodeKey × NodeForm). P y.0) (same_Some x (k, form) e) h.0
  key_at P (x ∷ xs) (suc j) k form h e = key_at P xs j k form h.1 e

  pub beside : AreBeside c.nodes nodes
  beside = beside_read c claim (has_pairs task.assumptions) task nodes filled

  pub shown : AreShown (device_of task.flash) nodes
  shown = filled_lists_are_shown.shown task (read_seeds (has_pairs task.assumptions) c.nodes) nodes filled (ascending_read c claim (has_pairs task.assumptions))

  pub nodes_belong : AllBelong c.instances nodes
  nodes_belong n h =
      let w = place_of_contained nodes n h in
      let e = key_beside c.nodes nodes w.0 n beside w.1 in
      key_at (Belongs c.instances) c.nodes w.0 n.key e.0 claim.nodes_belong e.1

-- ---- the node at reset

root_slots : (followed : Bool) → HasSlots (entry_key root_inst) (root_by followed)
root_slots false = refl
root_slots true = refl

pub reset_slots : (A : List Entry) (i : InstKey) (k : NodeKey) (s : AbsState) → i ≡ root_inst → k ≡ entry_key i → s ≡ root_of A → HasSlots k s
reset_slots A i k s ei ek es = subst (HasSlots k) (sym es) (subst (λ x. HasSlots x (root_of A)) (sym (ek ∙ ap entry_key ei)) (root_slots (has_pairs A)))

pub reset_is : (A : List Entry) (i : InstKey) (k : NodeKey) (s : AbsState) → i ≡ root_inst → k ≡ entry_key i → s ≡ root_of A → record { key = k; state = s } ≡ reset_node A
reset_is A i k s ei ek es = λ j. record { key = (ek ∙ ap entry_key ei) j; state = es j }

pub first_fault : (task : Task) (nodes : List Node) (j cause : ℕ) (f : NodeFault) → HasFirstFault task nodes j f → cause ≡ cause_of f
    → IsFirstFaultOfCause task nodes j cause
first_fault task nodes j cause f h e = record {
  node = h.node;
  is = h.present;
  fault = f;
  has = h.fault;
  which = sym e;
  earlier = λ i n is lt. h.before i n lt is;
}
