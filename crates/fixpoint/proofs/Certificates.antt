-- The certificate of the computed parts.
use Rattle.std.proofs.Common.{◌≡◌, refl, sym, ap, ◌∙◌, subst, ℕ, ◌≤◌, true, List, length, get_or, Some, slice_get, slice_index, arith}
use Rattle.std.proofs.lemmas.Option.{slice_get_read}
use Rattle.std.specs.List.{All}
use Rattle.basics.specs.Lists.{get_inside, one_at}
use Rattle.avr_model.specs.declared.device.Device.{Device}
use Rattle.avr_model.specs.declared.assumption.Entry.{Entry}
use Rattle.avr_model.specs.Devices.{device_of}
use Rattle.avr_model.proofs.AllLaws.{devices_are_alike}
use Rattle.vector_table.specs.Entries.{AreEntries, fits_device}
use Rattle.local_rules.specs.declared.local.Node.{Node}
use Rattle.edge_rules.specs.Expansion.{Seeds}
use Rattle.family_graph.specs.Graphs.{IsPeopled, IsGraphOf}
use Rattle.certificate.specs.declared.instance.Inst.{Inst}
use Rattle.certificate.specs.Claims.{Claim, IsClaim}
use Rattle.round_rules.specs.Families.{Family, nodes_of}
use Rattle.round_rules.specs.Refusals.{IsSolved}
use Rattle.round_rules.specs.Solutions.{IsSolution}
use Rattle.round_solutions.specs.Laws.{SolvedFamiliesAreShown, SolutionsAreMade}
use Rattle.round_solutions.specs.Parts.{AreForms, AreCertificateParts, claim_of}
use Rattle.fixpoint.specs.Insts.{AreSolvedNodes, AreInstsOf}
use Rattle.local_rules.specs.Site.{Task}

pub peopled : (task : Task) (nodes : List Node) → AreSolvedNodes task nodes → SolvedFamiliesAreShown → IsPeopled task nodes
peopled task nodes s law = subst (IsPeopled task) (sym s.are) (law.peopled task s.rounds s.family s.solved)

module _ (task : Task) (f : Family) (nodes : List Node) (is : nodes ≡ nodes_of f) (solved : (n : ℕ) × IsSolved task n f) (insts : List Inst)
    (seeds : Seeds) (h : AreInstsOf task nodes insts) (forms : AreForms task nodes seeds) (law : SolutionsAreMade) where
  abbrev parts : AreCertificateParts task f insts seeds
  parts = record {
    graph = h.graph;
    ranks = h.ranks;
    needs = h.needs;
    is_graph = h.is_graph;
    of = subst (λ (ns : List Node). IsGraphOf task ns h.graph) is h.of;
    least = h.least;
    insts_are = h.insts_are;
    forms = subst (λ (ns : List Node). AreForms task ns seeds) is forms;
  }

  -- the first instance is the root
  pub root_at : (root : Inst) → root ≡ get_or insts 0 root → slice_get insts 0 ≡ Some root
  root_at root e = slice_get_read insts (length insts) 0 root refl (let some = h.is_graph.some in omega (arith, some, h.insts_are.count)) e

  root_need : (root : Inst) → slice_get insts 0 ≡ Some root → root.need ≡ slice_index h.needs 0
  root_need root e =
      let g = get_inside h.graph 0 h.is_graph.some in
      ap (λ (x : Inst). x.need) (one_at insts 0 root _ e (h.insts_are.each 0 g.0 g.1))

  pub bound_small : (root : Inst) → slice_get insts 0 ≡ Some root → root.need ≤ 32768
  bound_small root e =
      let le = law.bound task solved.0 f insts seeds solved.1 parts in
      omega (arith, le, root_need root e, devices_are_alike.most_bytes (device_of task.flash))

  pub claim : (device : Device) (root : Inst) (entries : List Entry) → device ≡ device_of task.flash → slice_get insts 0 ≡ Some root → entries ≡ task.assumptions → AreEntries task.assumptions → All (λ e. fits_device (device_of task.flash) e ≡ true) task.assumptions → IsClaim (claim_of device root.need entries insts seeds)
  claim device root entries is_device e same fit of =
      let need = root_need root e in
      subst IsClaim (λ i. claim_of (sym is_device i) (sym need i) (sym same i) insts seeds) (law.claim task solved.0 f insts seeds fit of solved.1 parts)

  pub solution : (c : Claim) (device : Device) (root : Inst) (entries : List Entry) → device ≡ device_of task.flash → slice_get insts 0 ≡ Some root → entries ≡ task.assumptions → c ≡ claim_of device root.need entries insts seeds → IsSolution task f c
  solution c device root entries is_device e same built =
      let need = root_need root e in
      subst (IsSolution task f) ((λ i. claim_of (sym is_device i) (sym need i) (sym same i) insts seeds) ∙ sym built) (law.solution task solved.0 f insts seeds solved.1 parts)
