-- The deepest chain of a family is unique.
use Rattle.std.proofs.Common.{sym, ap, subst, ◌∙◌, ◌≡◌, ℕ, List, slice_index}
use Rattle.avr_model.specs.Devices.{device_of, back_of}
use Rattle.local_rules.specs.declared.local.Node.{Node}
use Rattle.instance_graph.specs.declared.graph.Link.{Link}
use Rattle.instance_graph.specs.Chain.{IsChain}
use Rattle.instance_graph.specs.Least.{IsLeast}
use Rattle.instance_graph.specs.Laws.{LeastNeedsAreOne, ChainsAreOne}
use Rattle.family_graph.specs.Chains.{IsDeepest}
use Rattle.family_graph.specs.Laws.{GraphsAreAlike, DeepestChainsAreOne}
use Rattle.local_rules.specs.Site.{Task}

module _ (alike : GraphsAreAlike) (answers : LeastNeedsAreOne) (chains : ChainsAreOne) (task : Task) (nodes : List Node) (need need' : ℕ) (links links' : List Link)
    (x : IsDeepest task nodes need links) (y : IsDeepest task nodes need' links') where
  abbrev back : ℕ
  back = back_of (device_of task.flash)

  same_needs : y.needs ≡ x.needs
  same_needs =
      let least : IsLeast back x.graph y.ranks y.needs = alike.least task nodes x.graph y.graph back y.ranks y.needs x.family y.family y.least in
      answers.needs back x.graph y.ranks y.needs x.ranks x.needs least x.least

  same_need : need ≡ need'
  same_need = x.root ∙ (ap (λ (ns : List ℕ). slice_index ns 0) (sym same_needs) ∙ sym y.root)

  same_links : links ≡ links'
  same_links =
      chains back x.graph x.needs links links' x.chain
      (subst (λ (ns : List ℕ). IsChain back x.graph ns links') same_needs (alike.chain task nodes x.graph y.graph back y.needs links' x.family y.family y.chain))

pub deepest_chains_are_one : GraphsAreAlike → LeastNeedsAreOne → ChainsAreOne → DeepestChainsAreOne
deepest_chains_are_one alike answers chains =
    record {
      need = λ task nodes need need' links links' x y. same_need alike answers chains task nodes need need' links links' x y;
      links = λ task nodes need need' links links' x y. same_links alike answers chains task nodes need need' links links' x y;
    }
