-- The answer is unique.
use Rattle.std.proofs.Common.{◌≡◌, refl, ap, subst, ℕ, List, arith}
use Rattle.std.specs.Prelude.{◌↔◌}
use Rattle.basics.specs.Lists.{get_inside}
use Rattle.local_rules.specs.declared.local.Node.{Node}
use Rattle.edge_rules.specs.Expansion.{Seeds, IsFilled, IsMissing}
use Rattle.edge_laws.proofs.ExpansionLaws.{filled_or_missing}
use Rattle.family_edges.specs.declared.filled.Expanded.{Expanded}
use Rattle.family_edges.specs.declared.filled.Expanded.TheVariants.{Whole, Missing}
use Rattle.family_edges.specs.Expanding.{IsExpanded}
use Rattle.family_edges.specs.Laws.{HasAll, AnswersAreExact}
use Rattle.local_rules.specs.Site.{Task}

module _ (task : Task) (nodes : Seeds) where
  has_all : (filled : List Node) → IsFilled task nodes filled → HasAll task nodes
  has_all filled f at lt = let found = get_inside filled at (omega (arith, lt, f.count)) in (found.0.state, f.states at found.0 found.1)

  whole : (answer : Expanded) → IsExpanded task nodes answer → ((filled : List Node) × (answer ≡ Whole filled)) ↔ HasAll task nodes
  whole (Whole filled) f = (λ x. has_all filled f, λ h. (filled, refl))
  whole (Missing at) m =
      (λ x. let e : Missing at ≡ Whole x.0 = x.1 in absurd (cc), λ h. let x = h at m.inside in absurd (m.none x.0 x.1))

  missing : (answer : Expanded) (at : ℕ) → IsExpanded task nodes answer → (answer ≡ Missing at) ↔ IsMissing task nodes at
  missing (Whole filled) at f = (λ e. absurd (cc), λ m. absurd (filled_or_missing.apart task nodes filled at f m))
  missing (Missing i) at m =
      (λ e. let same : i ≡ at = cc in subst (IsMissing task nodes) same m, λ n. ap Missing (filled_or_missing.least task nodes i at m n))

  one : (a b : Expanded) → IsExpanded task nodes a → IsExpanded task nodes b → a ≡ b
  one (Whole f) (Whole g) a b = ap Whole (filled_or_missing.one task nodes f g a b)
  one (Whole f) (Missing at) a b = absurd (filled_or_missing.apart task nodes f at a b)
  one (Missing at) (Whole f) a b = absurd (filled_or_missing.apart task nodes f at b a)
  one (Missing i) (Missing j) a b = ap Missing (filled_or_missing.least task nodes i j a b)

pub answers_are_exact : AnswersAreExact
answers_are_exact = record { whole = whole; missing = missing; one = one }
