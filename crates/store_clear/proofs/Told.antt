-- Which nodes are clear, by the conditions that remain.
use Rattle.std.proofs.Common.{◌≡◌, refl, ◌∙◌, subst, ℕ, ◌<◌, true, List, length, Some, slice_get, arith}
use Rattle.std.specs.Prelude.{◌↔◌}
use Rattle.std.proofs.lemmas.Option.{slice_get_within}
use Rattle.local_rules.specs.declared.local.Node.{Node}
use Rattle.family_edges.specs.Shown.{AreOfSomeDevice}
use Rattle.certificate.specs.Claims.{Claim}
use Rattle.certificate.specs.Valid.{family_of}
use Rattle.clear_laws.specs.Clear.{IsClear}
use Rattle.clear_laws.specs.Held.{MayHold}
use Rattle.clear_laws.specs.declared.slots.SlotSeed.{SlotSeed}
use Rattle.clear_laws.specs.Reach.{SlotReaches}
use Rattle.clear_laws.specs.declared.slots.Condition.{Condition}
use Rattle.clear_laws.specs.declared.slots.Condition.TheVariants.{Always, SlotFree, Never}
use Rattle.clear_laws.specs.Meets.{Meets}
use Rattle.clear_laws.proofs.AllLaws.{slots_spread_along_links, askings_tell_clear_nodes}
use Rattle.store_clear.specs.Conditions.{SpreadsAlong, condition_at, AreConditions, IsDone, AreDischarged, is_discharged, AreConditionsLeft}
use Rattle.local_rules.specs.Site.{Task}

-- equivalent tests of slots meet the same conditions
meets_as : (P Q : ℕ → Type 0) → ((d : ℕ) → P d → Q d) → ((d : ℕ) → Q d → P d) → (a : Condition) → Meets a P → Meets a Q
meets_as P Q to from Always h = tt
meets_as P Q to from (SlotFree d) h = λ q. h (from d q)
meets_as P Q to from Never h = absurd h

met_passing : (P : ℕ → Type 0) (a : Condition) → is_discharged a ≡ true → Meets a P
met_passing P Always e = tt
met_passing P (SlotFree d) e = absurd cc
met_passing P Never e = absurd cc

passing_met : (P : ℕ → Type 0) (a : Condition) → IsDone a → Meets a P → is_discharged a ≡ true
passing_met P Always done h = refl
passing_met P (SlotFree d) done h = absurd done
passing_met P Never done h = absurd h

module _ (task : Task) (c : Claim) (nodes : List Node) (shown : AreOfSomeDevice nodes) (links : List (List ℕ)) (offsets : List ℕ) (seeds : List SlotSeed)
    (along : SpreadsAlong task nodes links offsets seeds) (old new : List Condition) (conditions_of : AreConditions task c.bound nodes old)
    (left : AreDischarged links offsets seeds (length old) old new) where
  each : (at : ℕ) (n : Node) → slice_get nodes at ≡ Some n → (is_discharged (condition_at new at) ≡ true) ↔ IsClear task (family_of c nodes) n
  each at n e = (
    λ is. law.0 (meets_as Along Holding up down (condition_at old at) ((left.met at).0 (met_passing Along (condition_at new at) is))),
    λ clear. passing_met Along (condition_at new at) (left.done at in_old) ((left.met at).1 (meets_as Holding Along down up (condition_at old at) (law.1 clear))),
  )
    where
      Along : ℕ → Type 0
      Along d = SlotReaches links offsets seeds d at

      Holding : ℕ → Type 0
      Holding d = MayHold task nodes n.key d

      up : (d : ℕ) → Along d → Holding d
      up d = (slots_spread_along_links shown.0 task nodes links offsets seeds along.are shown.1 at d n e).0

      down : (d : ℕ) → Holding d → Along d
      down d = (slots_spread_along_links shown.0 task nodes links offsets seeds along.are shown.1 at d n e).1

      in_nodes : at < length nodes
      in_nodes = slice_get_within nodes at n e

      in_old : at < length old
      in_old = let same = conditions_of.count_is in omega (arith, same, in_nodes)

      law : Meets (condition_at old at) Holding ↔ IsClear task (family_of c nodes) n
      law = askings_tell_clear_nodes task (family_of c nodes) n (condition_at old at) (conditions_of.each at n in_nodes e)

  pub are_told : AreConditionsLeft task c nodes new
  are_told = record { count = left.same ∙ conditions_of.count_is; each = each }

-- conditions behind a reference
pub told_as : (task : Task) (c : Claim) (nodes : List Node) → AreOfSomeDevice nodes → (links : List (List ℕ)) (offsets : List ℕ) (seeds : List SlotSeed)
    → SpreadsAlong task nodes links offsets seeds → (old old' new : List Condition) → old' ≡ old → AreConditions task c.bound nodes old → AreDischarged links offsets seeds (length old') old' new
    → AreConditionsLeft task c nodes new
told_as task c nodes shown links offsets seeds along old old' new same conditions_of left =
    are_told task c nodes shown links offsets seeds along old new conditions_of (subst (λ (xs : List Condition). AreDischarged links offsets seeds (length xs) xs new) same left)
