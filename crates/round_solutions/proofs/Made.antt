-- The parts of a certificate form one, which is that of the family.
use Rattle.std.proofs.Common.{◌≡◌, refl, sym, ap, ap₂, ◌∙◌, subst, ℕ, zero, suc, ◌+◌, ◌^◌, ◌<◌, ◌≤◌, Bool, true, false, ◌&&◌, nat_lt, if◌then◌else◌, List, [], ◌∷◌, length, map, Some, Contains, slice_get, slice_index, arith}
use Rattle.std.proofs.lemmas.Bool.Decides.{nat_tests}
use Rattle.std.proofs.lemmas.List.{length-map}
use Rattle.std.proofs.lemmas.Option.{same_Some, slice_get_within}
use Rattle.std.specs.Prelude.{◌↔◌}
use Rattle.std.specs.FinMap.{entries}
use Rattle.std.specs.List.{All, AllByRecursion}
use Rattle.std.specs.List.Sorted.{IsStrictlySortedBy}
use Rattle.basics.specs.Items.{contained_at}
use Rattle.basics.specs.Lists.{get_inside, one_at}
use Rattle.local_laws.proofs.AllLaws.{node_key}
use Rattle.family_graph.proofs.Graphs.{keys_long}
use Rattle.avr_model.specs.declared.device.Device.{Device}
use Rattle.avr_model.specs.Assumptions.{has_pairs}
use Rattle.avr_model.specs.Devices.{device_of, size_of, depth_of, back_of}
use Rattle.avr_model.specs.Vectors.{enable_count}
use Rattle.avr_model.proofs.AllLaws.{devices_are_alike}
use Rattle.abs_state.specs.declared.state.AbsState.{AbsState}
use Rattle.vector_table.specs.Entries.{AreEntries, fits_device}
use Rattle.node_keys.specs.declared.keys.InstKey.{InstKey}
use Rattle.node_keys.specs.declared.keys.NodeKey.{NodeKey}
use Rattle.node_keys.specs.Keys.{root_inst}
use Rattle.node_keys.specs.Order.{inst_cmp, node_cmp, same_inst}
use Rattle.local_rules.specs.declared.local.Node.{Node}
use Rattle.local_rules.specs.Cover.{IsNodeIn}
use Rattle.edge_rules.specs.declared.seeded.NodeForm.{NodeForm}
use Rattle.edge_rules.specs.declared.seeded.NodeForm.TheVariants.{State, From}
use Rattle.edge_rules.specs.Expansion.{Seeds, IsFilled}
use Rattle.edge_rules.specs.Views.{key_of}
use Rattle.edge_laws.proofs.ExpansionLaws.{filled_or_missing}
use Rattle.instance_graph.specs.declared.graph.GraphInst.{GraphInst}
use Rattle.family_graph.specs.Graphs.{insts_of}
use Rattle.round_laws.specs.Graphs.{IsGraphOver, valued}
use Rattle.round_laws.proofs.GraphLaws.{graphs_tell, valued_at}
use Rattle.certificate.specs.declared.instance.Inst.{Inst}
use Rattle.certificate.specs.Insts.{fits_kind, IsInst, inst_keys, rank_in, need_in}
use Rattle.certificate.specs.Versions.{written_by, is_first, is_third, AreOf}
use Rattle.certificate.specs.Claims.{seed_keys, cells_of, FitsAt, AreFrom, Belongs, IsClaim}
use Rattle.round_rules.specs.Families.{Family, node_of, nodes_of, FamilyHasInst}
use Rattle.round_rules.specs.Rounds.{AreRanks, AreNeeds, IsRootNeed}
use Rattle.round_rules.specs.Refusals.{IsSolved}
use Rattle.round_rules.specs.Solutions.{IsSolution}
use Rattle.round_laws.proofs.AllLaws.{rounds_are_least, has_member, member_has}
use Rattle.round_solutions.specs.Laws.{SolutionsAreMade}
use Rattle.round_solutions.specs.Parts.{IsForm, AreInsts, AreCertificateParts, claim_of}
use Rattle.round_solutions.proofs.Lists.{all_of}
use Rattle.round_solutions.proofs.Order.{key_at, ascending}
use Rattle.round_solutions.proofs.Lone.{formed}
use Rattle.round_solutions.proofs.Filled.{filled, sparse}
use Rattle.round_solutions.proofs.Graphs.{key_is, few, graph_is}
use Rattle.round_solutions.proofs.Insts.{insts_fit}
use Rattle.round_solutions.proofs.Ranks.{few_ranks, few_insts}
use Rattle.local_rules.specs.Site.{Task}

-- ---- instances with their ranks and needs

abbrev inst_of : GraphInst → ℕ → ℕ → Inst
inst_of g r d = record { key = g.key; rank = r; need = d }

rests : (g : GraphInst) (gs : List GraphInst) (r d : ℕ) (rs ds : List ℕ) (x : Inst) (xs : List Inst) → AreInsts (g ∷ gs) (r ∷ rs) (d ∷ ds) (x ∷ xs)
    → (x ≡ inst_of g r d) × AreInsts gs rs ds xs
rests g gs r d rs ds x xs are =
    (same_Some x (inst_of g r d) (are.each zero g refl), record { count = let c = are.count in omega (arith, c); each = λ i y e. are.each (suc i) y e })

same_keys : (gs : List GraphInst) (rs ds : List ℕ) (xs : List Inst) → length rs ≡ length gs → length ds ≡ length gs → AreInsts gs rs ds xs → inst_keys xs ≡ insts_of gs
same_keys [] rs ds [] a b are = refl
same_keys [] rs ds (x ∷ xs) a b are = absurd (let c = are.count in omega (arith, c))
same_keys (g ∷ gs) rs ds [] a b are = absurd (let c = are.count in omega (arith, c))
same_keys (g ∷ gs) [] ds (x ∷ xs) a b are = absurd (omega (arith, a))
same_keys (g ∷ gs) (r ∷ rs) [] (x ∷ xs) a b are = absurd (omega (arith, b))
same_keys (g ∷ gs) (r ∷ rs) (d ∷ ds) (x ∷ xs) a b are =
    let p = rests g gs r d rs ds x xs are in
    ap₂ (λ (k : InstKey) (l : List InstKey). k ∷ l) (ap (λ (y : Inst). y.key) p.0) (same_keys gs rs ds xs (omega (arith, a)) (omega (arith, b)) p.1)

ranks_are : (gs : List GraphInst) (rs ds : List ℕ) (xs : List Inst) (k : InstKey) → length rs ≡ length gs → length ds ≡ length gs → AreInsts gs rs ds xs
    → rank_in xs k ≡ valued (insts_of gs) rs k
ranks_are [] rs ds [] k a b are = refl
ranks_are [] rs ds (x ∷ xs) k a b are = absurd (let c = are.count in omega (arith, c))
ranks_are (g ∷ gs) rs ds [] k a b are = absurd (let c = are.count in omega (arith, c))
ranks_are (g ∷ gs) [] ds (x ∷ xs) k a b are = absurd (omega (arith, a))
ranks_are (g ∷ gs) (r ∷ rs) [] (x ∷ xs) k a b are = absurd (omega (arith, b))
ranks_are (g ∷ gs) (r ∷ rs) (d ∷ ds) (x ∷ xs) k a b are =
    let p = rests g gs r d rs ds x xs are in
    ap₂ (λ (y : Inst) (v : ℕ). if same_inst y.key k then y.rank else v) p.0 (ranks_are gs rs ds xs k (omega (arith, a)) (omega (arith, b)) p.1)

needs_are : (gs : List GraphInst) (rs ds : List ℕ) (xs : List Inst) (k : InstKey) → length rs ≡ length gs → length ds ≡ length gs → AreInsts gs rs ds xs
    → need_in xs k ≡ valued (insts_of gs) ds k
needs_are [] rs ds [] k a b are = refl
needs_are [] rs ds (x ∷ xs) k a b are = absurd (let c = are.count in omega (arith, c))
needs_are (g ∷ gs) rs ds [] k a b are = absurd (let c = are.count in omega (arith, c))
needs_are (g ∷ gs) [] ds (x ∷ xs) k a b are = absurd (omega (arith, a))
needs_are (g ∷ gs) (r ∷ rs) [] (x ∷ xs) k a b are = absurd (omega (arith, b))
needs_are (g ∷ gs) (r ∷ rs) (d ∷ ds) (x ∷ xs) k a b are =
    let p = rests g gs r d rs ds x xs are in
    ap₂ (λ (y : Inst) (v : ℕ). if same_inst y.key k then y.need else v) p.0 (needs_are gs rs ds xs k (omega (arith, a)) (omega (arith, b)) p.1)

no_more : (xs : List ℕ) → map (λ x. x + 0) xs ≡ xs
no_more [] = refl
no_more (x ∷ xs) = let first : x + 0 ≡ x = omega arith in ap₂ (λ (y : ℕ) (l : List ℕ). y ∷ l) first (no_more xs)

-- ---- nodes with their forms

from_all : (device : Device) (followed : Bool) (seeds : Seeds) (start : ℕ) → ((i : ℕ) (e : NodeKey × NodeForm) → slice_get seeds i ≡ Some e → FitsAt device followed (start + i) e.0 e.1) → AreFrom device followed start seeds
from_all device followed [] start h = tt
from_all device followed (e ∷ es) start h =
    let first : start + 0 ≡ start = omega arith in (
      subst (λ (i : ℕ). FitsAt device followed i e.0 e.1) first (h zero e refl),
      from_all device followed es (start + 1) (λ i x is. let at : start + suc i ≡ start + 1 + i = omega arith in subst (λ (j : ℕ). FitsAt device followed j x.0 x.1) at (h (suc i) x is)),
    )

keys_of_nodes : (es : List (NodeKey × AbsState)) → map key_of (map node_of es) ≡ map (λ (e : NodeKey × AbsState). e.0) es
keys_of_nodes [] = refl
keys_of_nodes (e ∷ es) = ap (λ (l : List NodeKey). e.0 ∷ l) (keys_of_nodes es)

fits_both : (a : Bool) (masks end : ℕ) → (a && nat_lt masks end) ≡ true → (a ≡ true) × (masks < end)
fits_both true masks end e = (refl, grind (arith, nat_tests))
fits_both false masks end e = absurd (cc)

-- ---- the version

written_third : (followed : Bool) → is_third (written_by followed) ≡ followed
written_third false = refl
written_third true = refl

written_later : (followed : Bool) → is_first (written_by followed) ≡ false
written_later false = refl
written_later true = refl

are_of : (followed : Bool) (seeds : Seeds) → AreOf (written_by followed) seeds
are_of false seeds = tt
are_of true seeds = tt

-- ---- the certificate

module _ (task : Task) (n : ℕ) (f : Family) (insts : List Inst) (seeds : Seeds) (solved : IsSolved task n f) (parts : AreCertificateParts task f insts seeds) where
  abbrev gs : List GraphInst
  gs = parts.graph

  abbrev keys : List InstKey
  keys = insts_of gs

  are_keys : inst_keys insts ≡ keys
  are_keys = same_keys gs parts.ranks parts.needs insts parts.least.ranks_length parts.least.needs_length parts.insts_are

  rank_is : (k : InstKey) → rank_in insts k ≡ valued keys parts.ranks k
  rank_is k = ranks_are gs parts.ranks parts.needs insts k parts.least.ranks_length parts.least.needs_length parts.insts_are

  need_is : (k : InstKey) → need_in insts k ≡ valued keys parts.needs k
  need_is k = needs_are gs parts.ranks parts.needs insts k parts.least.ranks_length parts.least.needs_length parts.insts_are

  told : IsGraphOver task f keys gs
  told = graph_is task n f solved gs parts.is_graph parts.of

  -- ---- ranks and needs

  ranks : AreRanks task f (rank_in insts)
  ranks i j offset e =
      let lt = graphs_tell.ranks task f keys gs parts.ranks parts.needs told parts.least i j offset e in
      omega (arith, lt, rank_is i, rank_is j)

  least_ranks : (rank : InstKey → ℕ) → AreRanks task f rank → (inst : InstKey) → rank_in insts inst ≤ rank inst
  least_ranks rank are inst = let le = graphs_tell.least_ranks task f keys gs parts.ranks parts.needs rank told parts.least are inst in omega (arith, le, rank_is inst)

  valued_needs : AreNeeds task f (valued keys parts.needs)
  valued_needs = subst (λ (l : List ℕ). AreNeeds task f (valued keys l)) (no_more parts.needs) (graphs_tell.needs task f keys gs parts.ranks parts.needs 0 told parts.least)

  needs : AreNeeds task f (need_in insts)
  needs = record {
    offsets = λ m offset has form. let le = valued_needs.offsets m offset has form in omega (arith, le, need_is m.key.inst);
    entered = λ i j offset e. let le = valued_needs.entered i j offset e in omega (arith, le, need_is i, need_is j);
  }

  least_needs : (need : InstKey → ℕ) → AreNeeds task f need → (inst : InstKey) → need_in insts inst ≤ need inst
  least_needs need are inst = let le = graphs_tell.least_needs task f keys gs parts.ranks parts.needs need told parts.least are inst in omega (arith, le, need_is inst)

  root_need : IsRootNeed task f (slice_index parts.needs 0)
  root_need = graphs_tell.root task f keys gs parts.ranks parts.needs told parts.least

  pub bound_small : slice_index parts.needs 0 ≤ size_of (device_of task.flash)
  bound_small = let s = solved.passes.shallow in let le = root_need.least s.need s.are in omega (arith, le, s.small)

  bound_fits : slice_index parts.needs 0 ≤ depth_of (device_of task.flash)
  bound_fits = omega (arith, bound_small, devices_are_alike.in_depth (device_of task.flash))

  bound_is : slice_index parts.needs 0 ≡ need_in insts root_inst
  bound_is =
      let le = root_need.least (need_in insts) needs in
      let ge = least_needs root_need.need root_need.are root_inst in
      omega (arith, le, ge, root_need.is)

  -- ---- instances

  has_inst : (inst : InstKey) → Contains (inst_keys insts) inst ↔ FamilyHasInst f inst
  has_inst inst = (
    λ i. let h = (parts.of.insts inst).0 (subst (λ (l : List InstKey). Contains l inst) are_keys i) in (h.0, has_member f h.0 h.1, h.2),
    λ h. subst (λ (l : List InstKey). Contains l inst) (sym are_keys) ((parts.of.insts inst).1 (h.0, member_has f h.0 h.1, h.2)),
  )

  few_graph : length gs ≤ 65536
  few_graph =
      let le = few_insts (nodes_of f) (ascending f) keys parts.of.ascending (λ inst i. (parts.of.insts inst).0 i) in
      omega (arith, le, keys_long gs, few task n f solved)

  inst_at : (i : ℕ) (x : Inst) → slice_get insts i ≡ Some x → (g : GraphInst) × ((slice_get gs i ≡ Some g) × (x ≡ inst_of g (slice_index parts.ranks i) (slice_index parts.needs i)))
  inst_at i x e =
      let g = get_inside gs i (omega (arith, slice_get_within insts i x e, parts.insts_are.count)) in
      (g.0, (g.1, one_at insts i x (inst_of g.0 (slice_index parts.ranks i) (slice_index parts.needs i)) e (parts.insts_are.each i g.0 g.1)))

  is_inst : (i : ℕ) (x : Inst) → slice_get insts i ≡ Some x → IsInst (device_of task.flash) x
  is_inst i x e =
      let g = inst_at i x e in
      let lt = slice_get_within gs i g.0 g.1.0 in
      let is = key_is gs i g.0 g.1.0 in
      let has = (has_inst g.0.key).0 (subst (λ (l : List InstKey). Contains l g.0.key) (sym are_keys) (contained_at keys i g.0.key is)) in
      let fit = fits_both (fits_kind (device_of task.flash) g.0.key.kind g.0.key.entry g.0.key.masks g.0.key.i) g.0.key.masks (2 ^ enable_count (device_of task.flash)) (insts_fit task n f solved g.0.key has) in
      let low = few_ranks (back_of (device_of task.flash)) gs parts.is_graph parts.ranks parts.needs parts.least i lt in
      let under = rounds_are_least.under_root task n f (valued keys parts.needs) solved.comes solved.passes.faultless valued_needs g.0.key has in
      let at = valued_at keys parts.needs i g.0.key told.once (omega (arith, lt, parts.least.needs_length)) is in
      subst (IsInst (device_of task.flash)) (sym g.1.1)
      (record {
        kind = fit.0;
        masks = fit.1;
        rank = omega (arith, low, few_graph);
        need = omega (arith, under, at, bound_fits, bound_is, need_is root_inst);
      })

  -- ---- nodes

  filled_nodes : IsFilled task seeds (nodes_of f)
  filled_nodes = filled task n f solved seeds parts.forms

  are_node_keys : seed_keys seeds ≡ map key_of (nodes_of f)
  are_node_keys = sym (filled_or_missing.keys task seeds (nodes_of f) filled_nodes)

  form_fits : (at : ℕ) (m : Node) (form : NodeForm) → IsNodeIn (device_of task.flash) (has_pairs task.assumptions) m.key m.state → IsForm task (nodes_of f) at m form → FitsAt (device_of task.flash) (has_pairs task.assumptions) at m.key form
  form_fits at m (State s) node h = subst (IsNodeIn (device_of task.flash) (has_pairs task.assumptions) m.key) (sym h.0) node
  form_fits at m (From j) node h = (node_key m.key m.state node, h.0)

  fits_at : (at : ℕ) (e : NodeKey × NodeForm) → slice_get seeds at ≡ Some e → FitsAt (device_of task.flash) (has_pairs task.assumptions) at e.0 e.1
  fits_at at e is =
      let m = get_inside (nodes_of f) at (omega (arith, slice_get_within seeds at e is, parts.forms.count)) in
      let h = parts.forms.each at m.0 m.1 in
      let node = formed task n f solved m.0 (has_member f m.0 (contained_at (nodes_of f) at m.0 m.1)) in
      subst (λ (x : NodeKey × NodeForm). FitsAt (device_of task.flash) (has_pairs task.assumptions) at x.0 x.1) (one_at seeds at (m.0.key, h.0) e h.1.0 is) (form_fits at m.0 h.0 node h.1.1)

  belongs : (i : ℕ) (k : NodeKey) → slice_get (map key_of (nodes_of f)) i ≡ Some k → Belongs insts k
  belongs i k e =
      let m = get_inside (nodes_of f) i (omega (arith, slice_get_within (map key_of (nodes_of f)) i k e, length-map (nodes_of f) key_of)) in
      let same = one_at (map key_of (nodes_of f)) i m.0.key k (key_at (nodes_of f) i m.0 m.1) e in
      (has_inst k.inst).1 (m.0, has_member f m.0 (contained_at (nodes_of f) i m.0 m.1), ap (λ (q : NodeKey). q.inst) same)

  pub claim : AreEntries task.assumptions → All (λ e. fits_device (device_of task.flash) e ≡ true) task.assumptions → IsClaim (claim_of (device_of task.flash) (slice_index parts.needs 0) task.assumptions insts seeds)
  claim entries_fit entries_of_device = record {
    bound_fits = bound_fits;
    entries_fit = entries_fit;
    entries_of_device = entries_of_device;
    insts_fit = all_of (IsInst (device_of task.flash)) insts is_inst;
    insts_ascend = subst (IsStrictlySortedBy inst_cmp) (sym are_keys) parts.of.ascending;
    few_insts = omega (arith, few_graph, parts.insts_are.count);
    nodes_fit = from_all (device_of task.flash) (has_pairs task.assumptions) seeds 0 (λ i e is. let at : i ≡ 0 + i = omega arith in subst (λ (j : ℕ). FitsAt (device_of task.flash) (has_pairs task.assumptions) j e.0 e.1) at (fits_at i e is));
    nodes_belong = subst (AllByRecursion (Belongs insts)) (sym are_node_keys) (all_of (Belongs insts) (map key_of (nodes_of f)) belongs);
    nodes_ascend = subst (IsStrictlySortedBy node_cmp) (sym are_node_keys) (ascending f);
    few_nodes = omega (arith, parts.forms.count, few task n f solved);
    few_cells = subst (λ (l : List NodeKey). cells_of l ≤ 8388608) (sym (are_node_keys ∙ keys_of_nodes (entries f))) solved.passes.fits.few_cells;
    of_version = are_of (has_pairs task.assumptions) seeds;
    of_list = written_third (has_pairs task.assumptions);
    of_device = λ says. written_later (has_pairs task.assumptions);
  }

  pub solution : IsSolution task f (claim_of (device_of task.flash) (slice_index parts.needs 0) task.assumptions insts seeds)
  solution = record {
    device = refl;
    version = refl;
    expands = filled_nodes;
    sparse = sparse task f seeds parts.forms;
    instances = has_inst;
    ranks = ranks;
    least_ranks = least_ranks;
    needs = needs;
    least_needs = least_needs;
    bound = bound_is;
    assumptions = refl;
    unwitnessed = refl;
  }

pub solutions_are_made : SolutionsAreMade
solutions_are_made = record {
  bound = λ task n f insts seeds solved parts. bound_small task n f insts seeds solved parts;
  claim = λ task n f insts seeds fit of solved parts. claim task n f insts seeds solved parts fit of;
  solution = λ task n f insts seeds solved parts. solution task n f insts seeds solved parts;
}
