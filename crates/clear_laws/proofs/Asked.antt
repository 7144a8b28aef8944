-- Conditions of nodes are met exactly if the nodes are clear.
use Rattle.std.proofs.Common.{◌≡◌, refl, sym, ap, ◌∙◌, subst, ℕ, ◌==◌, Bool, true, false, not, eqb-true}
use Rattle.std.proofs.lemmas.Bool.{both_ways, not-false}
use Rattle.basics.specs.Numbers.{equals_itself}
use Rattle.local_rules.specs.declared.local.Node.{Node}
use Rattle.edge_rules.specs.Families.{RankedFamily}
use Rattle.clear_laws.specs.Clear.{IsClear, is_clear}
use Rattle.clear_laws.specs.Held.{MayHold}
use Rattle.clear_laws.proofs.Told.{clear_nodes_are_told}
use Rattle.clear_laws.specs.declared.slots.Condition.{Condition}
use Rattle.clear_laws.specs.declared.slots.Condition.TheVariants.{Always, SlotFree, Never}
use Rattle.clear_laws.specs.Needs.{meets}
use Rattle.clear_laws.specs.CertificateLaws.{AskingsTellClearNodes}
use Rattle.clear_laws.specs.Meets.{Meets}
use Rattle.local_rules.specs.Site.{Task}

same_as : (d x : ℕ) → (x == d) ≡ true → x ≡ d
same_as d x h = eqb-true x d h

-- ---- one node

module _ (task : Task) (f : RankedFamily) (n : Node) where
  abbrev Holding : ℕ → Type 0
  Holding d = MayHold task f.nodes n.key d

  abbrev Asked : Condition → Type 0
  Asked a = (held : ℕ → Bool) → is_clear task f.bound n held ≡ meets a held

  clear_where_met : (a : Condition) → Asked a → Meets a Holding → IsClear task f n
  clear_where_met Always told met = clear_nodes_are_told.clear task f n (λ d. true) (λ d lt none may. absurd (cc)) (told (λ d. true))
  clear_where_met (SlotFree slot) told met =
      clear_nodes_are_told.clear task f n (λ d. not (d == slot))
      (λ d lt none may. met (subst Holding (same_as slot d (not-false (d == slot) none)) may))
      (told (λ d. not (d == slot)) ∙ ap (λ b. not (not b)) (equals_itself slot))
  clear_where_met Never told met = absurd met

  met_where_clear : (a : Condition) → Asked a → IsClear task f n → Meets a Holding
  met_where_clear Always told clear = tt
  met_where_clear (SlotFree slot) told clear =
      λ may.
      let passes = clear_nodes_are_told.told task f n (λ d. d == slot) (λ d lt is. subst Holding (sym (same_as slot d is)) may) clear in
      both_ways (not (slot == slot)) (ap not (equals_itself slot)) (sym (told (λ d. d == slot)) ∙ passes)
  met_where_clear Never told clear =
      let passes = clear_nodes_are_told.told task f n (λ d. false) (λ d lt is. absurd (cc)) clear in
      both_ways false refl (sym (told (λ d. false)) ∙ passes)

pub askings_tell_clear_nodes : AskingsTellClearNodes
askings_tell_clear_nodes task f n a asked = (clear_where_met task f n a asked, met_where_clear task f n a asked)
