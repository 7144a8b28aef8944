-- The invariants of the type are the premises of an expansion, and the conditions make a family sound.
use Rattle.std.proofs.Common.{Bool, ◌≡◌, refl, sym, subst, ℕ, zero, suc, ◌+◌, List, [], ◌∷◌, length, Some, Contains, arith}
use Rattle.std.specs.List.{slice_get}
use Rattle.std.proofs.lemmas.Option.{none-some, same_Some, slice_get_read}
use Rattle.avr_model.specs.Assumptions.{has_pairs}
use Rattle.avr_model.specs.declared.device.Device.{Device}
use Rattle.node_keys.specs.declared.keys.NodeKey.{NodeKey}
use Rattle.local_rules.specs.declared.local.Node.{Node}
use Rattle.edge_rules.specs.declared.seeded.NodeForm.{NodeForm}
use Rattle.edge_rules.specs.declared.seeded.NodeForm.TheVariants.{State, From}
use Rattle.edge_rules.specs.Expansion.{Seeds}
use Rattle.certificate.specs.Claims.{FitsAt, AreFrom}
use Rattle.certificate.specs.Laws.{ClaimsAreSeeds, ConditionsMakeFamiliesSound}

fits_at : (device : Device) (followed : Bool) (at i : ℕ) (es : Seeds) (k : NodeKey) (form : NodeForm) → AreFrom device followed at es → slice_get es i ≡ Some (k, form) → FitsAt device followed (at + i) k form
fits_at device followed at i [] k form h e = absurd (none-some (k, form) e)
fits_at device followed at zero (x ∷ es) k form h e =
    let same : x ≡ (k, form) = same_Some x (k, form) e in
    let here : FitsAt device followed (at + 0) x.0 x.1 = subst (λ n. FitsAt device followed n x.0 x.1) (omega (arith)) h.0 in
    subst (λ (y : NodeKey × NodeForm). FitsAt device followed (at + 0) y.0 y.1) same here
fits_at device followed at (suc i) (x ∷ es) k form h e = subst (λ n. FitsAt device followed n k form) (omega (arith)) (fits_at device followed (at + 1) i es k form h.1 e)

pub number_of : (ns : List Node) (n : Node) → Contains ns n → (at : ℕ) × (slice_get ns at ≡ Some n)
number_of ns n h = (h.0, slice_get_read ns (length ns) h.0 n refl h.1 (sym h.2))

pub claims_are_seeds : ClaimsAreSeeds
claims_are_seeds c h = record {
  few = h.few_nodes;
  own = λ at k s e. fits_at c.device (has_pairs c.assumptions) 0 at c.nodes k (State s) h.nodes_fit e;
  earlier = λ at m k e. omega (arith, (fits_at c.device (has_pairs c.assumptions) 0 at c.nodes k (From m) h.nodes_fit e).1);
}

pub conditions_make_families_sound : ConditionsMakeFamiliesSound
conditions_make_families_sound task c nodes claim filled m = record {
  formed = λ n h. let found : (at : ℕ) × (slice_get nodes at ≡ Some n) = number_of nodes n h in filled.formed found.0 n found.1;
  reset = m.reset;
  faultless = m.faultless;
  edges = m.edges;
  ranks = m.ranks;
  offsets = λ n offset h form. (m.needs n.key.inst).offsets n offset h refl form;
  needs = λ i j depth e. (m.needs i).entered j depth e;
  bounded = m.bounded.enough;
  small = m.bounded.small;
}
