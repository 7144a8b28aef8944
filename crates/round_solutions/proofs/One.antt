-- The answer is unique.
use Rattle.std.proofs.Common.{arith, refl, sym, ap, subst, ◌∙◌, ◌≡◌, ◌≢◌, ℕ, ◌<◌, ◌≤◌, Option, Some, slice_get}
use Rattle.std.proofs.lemmas.Option.{slice_get_within, same_Some}
use Rattle.basics.specs.Lists.{get_inside}
use Rattle.family_graph.proofs.Alike.{same_lists}
use Rattle.avr_model.specs.Devices.{device_of}
use Rattle.abs_state.specs.declared.state.AbsState.{AbsState}
use Rattle.node_keys.specs.declared.keys.InstKey.{InstKey}
use Rattle.node_keys.specs.declared.keys.NodeKey.{NodeKey}
use Rattle.node_keys.specs.Keys.{root_inst}
use Rattle.local_rules.specs.declared.local.Node.{Node}
use Rattle.edge_rules.specs.declared.seeded.NodeForm.{NodeForm}
use Rattle.edge_rules.specs.declared.seeded.NodeForm.TheVariants.{State, From}
use Rattle.edge_laws.proofs.ExpansionLaws.{expansions_follow, filled_or_missing}
use Rattle.certificate.specs.Claims.{Claim, IsClaim}
use Rattle.certificate.specs.Insts.{inst_keys, rank_in, need_in}
use Rattle.round_rules.specs.declared.refusal.Refusal.{Refusal}
use Rattle.round_rules.specs.declared.refusal.Refusal.TheVariants as refusal
use Rattle.round_rules.specs.Families.{Family, nodes_of}
use Rattle.round_rules.specs.Refusals.{GoesBeyond}
use Rattle.round_rules.specs.Solutions.{IsSolution, IsWithinBudget, IsAnswer, IsRefusal, AllFit, IsFirstMisfit, IsWhyNot}
use Rattle.round_laws.proofs.AllLaws.{rounds_end_once}
use Rattle.round_solutions.proofs.Misfits.{misfit_fits, one_misfit}
use Rattle.round_solutions.proofs.Parts.{same_insts, same_seeds}
use Rattle.round_solutions.specs.Answers.{AnswersAreOne}
use Rattle.local_rules.specs.Site.{Task}

from_is : (s : AbsState) (m : ℕ) → State s ≡ From m → ⊥
from_is s m e = cc

state_is : (s t u : AbsState) → u ≡ s → u ≡ t → State s ≡ State t
state_is s t u a b = cc

module _ (task : Task) (f : Family) (c d : Claim) (claim_c : IsClaim c) (claim_d : IsClaim d) (has_c : IsSolution task f c) (has_d : IsSolution task f d) where
  keys : inst_keys c.instances ≡ inst_keys d.instances
  keys = same_lists (inst_keys c.instances) (inst_keys d.instances) claim_c.insts_ascend claim_d.insts_ascend
      (λ k h. (has_d.instances k).1 ((has_c.instances k).0 h)) (λ k h. (has_c.instances k).1 ((has_d.instances k).0 h))

  ranks : (k : InstKey) → rank_in c.instances k ≡ rank_in d.instances k
  ranks k = omega (arith, has_c.least_ranks (rank_in d.instances) has_d.ranks k, has_d.least_ranks (rank_in c.instances) has_c.ranks k)

  needs : (k : InstKey) → need_in c.instances k ≡ need_in d.instances k
  needs k = omega (arith, has_c.least_needs (need_in d.instances) has_d.needs k, has_d.least_needs (need_in c.instances) has_c.needs k)

  insts : c.instances ≡ d.instances
  insts = same_insts c.instances d.instances keys claim_c.insts_ascend (λ k h. ranks k) (λ k h. needs k)

  node_at : (at : ℕ) (k : NodeKey) (a : NodeForm) → slice_get c.nodes at ≡ Some (k, a) → (n : Node) × (slice_get (nodes_of f) at ≡ Some n)
  node_at at k a e = get_inside (nodes_of f) at (omega (arith, slice_get_within c.nodes at (k, a) e, has_c.expands.count))

  forms : (at : ℕ) (k : NodeKey) (a b : NodeForm) → slice_get c.nodes at ≡ Some (k, a) → slice_get d.nodes at ≡ Some (k, b) → a ≡ b
  forms at k (From m) b e g = sym ((has_d.sparse at m k b g).1 ((has_c.sparse at m k (From m) e).0 refl))
  forms at k (State s) (From m) e g = (has_c.sparse at m k (State s) e).1 ((has_d.sparse at m k (From m) g).0 refl)
  forms at k (State s) (State t) e g =
      let there : (n : Node) × (slice_get (nodes_of f) at ≡ Some n) = node_at at k (State s) e in
      state_is s t there.0.state
      ((expansions_follow.own task c.nodes at k s there.0.state e).0 (has_c.expands.states at there.0 there.1))
      ((expansions_follow.own task d.nodes at k t there.0.state g).0 (has_d.expands.states at there.0 there.1))

  nodes : c.nodes ≡ d.nodes
  nodes = same_seeds c.nodes d.nodes (sym (filled_or_missing.keys task c.nodes (nodes_of f) has_c.expands) ∙ filled_or_missing.keys task d.nodes (nodes_of f) has_d.expands) forms

  devices : c.device ≡ d.device
  devices = has_c.device ∙ sym has_d.device

  versions : c.version ≡ d.version
  versions = has_c.version ∙ sym has_d.version

  bounds : c.bound ≡ d.bound
  bounds = has_c.bound ∙ needs root_inst ∙ sym has_d.bound

  assumed : c.assumptions ≡ d.assumptions
  assumed = has_c.assumptions ∙ sym has_d.assumptions

  unwitnessed : c.witness ≡ d.witness
  unwitnessed = has_c.unwitnessed ∙ sym has_d.unwitnessed

claim_is : (c d : Claim) → c.device ≡ d.device → c.version ≡ d.version → c.bound ≡ d.bound → c.assumptions ≡ d.assumptions → c.instances ≡ d.instances → c.nodes ≡ d.nodes → c.witness ≡ d.witness → c ≡ d
claim_is c d z v a b e f g =
    ap (λ x. record { device = x; version = c.version; bound = c.bound; assumptions = c.assumptions; instances = c.instances; nodes = c.nodes; witness = c.witness }) z
    ∙ ap (λ x. record { device = d.device; version = x; bound = c.bound; assumptions = c.assumptions; instances = c.instances; nodes = c.nodes; witness = c.witness }) v
    ∙ ap (λ x. record { device = d.device; version = d.version; bound = x; assumptions = c.assumptions; instances = c.instances; nodes = c.nodes; witness = c.witness }) a
    ∙ ap (λ x. record { device = d.device; version = d.version; bound = d.bound; assumptions = x; instances = c.instances; nodes = c.nodes; witness = c.witness }) b
    ∙ ap (λ x. record { device = d.device; version = d.version; bound = d.bound; assumptions = d.assumptions; instances = x; nodes = c.nodes; witness = c.witness }) e
    ∙ ap (λ x. record { device = d.device; version = d.version; bound = d.bound; assumptions = d.assumptions; instances = d.instances; nodes = x; witness = c.witness }) f
    ∙ ap (λ x. record { device = d.device; version = d.version; bound = d.bound; assumptions = d.assumptions; instances = d.instances; nodes = d.nodes; witness = x }) g

solution : (task : Task) (f : Family) (c d : Claim) → IsClaim c → IsClaim d → IsSolution task f c → IsSolution task f d → c ≡ d
solution task f c d p q h i =
    claim_is c d (devices task f c d p q h i) (versions task f c d p q h i) (bounds task f c d p q h i) (assumed task f c d p q h i) (insts task f c d p q h i) (nodes task f c d p q h i) (unwitnessed task f c d p q h i)

answer : (task : Task) (steps : Option ℕ) (c d : Claim) → IsClaim c → IsClaim d → IsAnswer task steps c → IsAnswer task steps d → c ≡ d
answer task steps c d p q h i =
    let same : (h.number ≡ i.number) × (h.family ≡ i.family) = rounds_end_once.solved task h.number i.number h.family i.family h.solved i.solved in
    solution task i.family c d p q (subst (λ (f : Family). IsSolution task f c) same.1 h.solution) i.solution

-- a refusal other than a spent budget or running out of memory
beyond : (task : Task) (n m : ℕ) (steps : Option ℕ) → steps ≡ Some n → IsWithinBudget steps m → n < m → ⊥
beyond task n m steps e within less = let le : m ≤ n = subst (λ (o : Option ℕ). IsWithinBudget o m) e within in omega (arith, le, less)

spent_refused : (task : Task) (steps : Option ℕ) (n : ℕ) (r : Refusal) → (steps ≡ Some n) × GoesBeyond task n → IsRefusal task steps r → ⊥
spent_refused task steps n r spent h = beyond task n h.number steps spent.0 h.within (rounds_end_once.refused_beyond task h.number n r h.refused spent.1)

spent_answered : (task : Task) (steps : Option ℕ) (n : ℕ) (c : Claim) → (steps ≡ Some n) × GoesBeyond task n → IsAnswer task steps c → ⊥
spent_answered task steps n c spent h = beyond task n h.number steps spent.0 h.within (rounds_end_once.solved_beyond task h.number n h.family h.solved spent.1)

refused_answered : (task : Task) (steps : Option ℕ) (r : Refusal) (c : Claim) → IsRefusal task steps r → IsAnswer task steps c → ⊥
refused_answered task steps r c h i = rounds_end_once.either task i.number h.number i.family r i.solved h.refused

-- the answer without a certificate
data Why (task : Task) (steps : Option ℕ) (r : Refusal) : Type 0 where
  misfit : (at : ℕ) → r ≡ refusal.Misfit at → IsFirstMisfit (device_of task.flash) task.assumptions at → Why task steps r
  refused : AllFit (device_of task.flash) task.assumptions → IsRefusal task steps r → Why task steps r
  spent : (n : ℕ) → r ≡ refusal.Spent n → AllFit (device_of task.flash) task.assumptions → (steps ≡ Some n) × GoesBeyond task n → Why task steps r
  wanting : r ≡ refusal.Memory → Why task steps r

why : (task : Task) (steps : Option ℕ) (r : Refusal) → IsWhyNot task steps r → Why task steps r
why task steps (refusal.Misfit at) h = misfit at refl h
why task steps (refusal.Node x) h = refused h.0 h.1
why task steps (refusal.Recursion pc) h = refused h.0 h.1
why task steps (refusal.ReEntry v pc) h = refused h.0 h.1
why task steps (refusal.TooLarge l) h = refused h.0 h.1
why task steps (refusal.Spent n) h = spent n refl h.0 h.1
why task steps refusal.Memory h = wanting refl

two : (task : Task) (steps : Option ℕ) (r s : Refusal) → Why task steps r → Why task steps s → r ≢ refusal.Memory → s ≢ refusal.Memory → r ≡ s
two task steps r s (misfit i e h) (misfit j g k) not_r not_s = e ∙ ap refusal.Misfit (one_misfit (device_of task.flash) task.assumptions i j h k) ∙ sym g
two task steps r s (misfit i e h) (refused fit k) not_r not_s = absurd (misfit_fits (device_of task.flash) task.assumptions i h fit)
two task steps r s (misfit i e h) (spent n g fit k) not_r not_s = absurd (misfit_fits (device_of task.flash) task.assumptions i h fit)
two task steps r s (misfit i e h) (wanting g) not_r not_s = absurd (not_s g)
two task steps r s (refused fit h) (misfit j g k) not_r not_s = absurd (misfit_fits (device_of task.flash) task.assumptions j k fit)
two task steps r s (refused fit h) (refused more i) not_r not_s = (rounds_end_once.refused task h.number i.number r s h.refused i.refused).1
two task steps r s (refused fit h) (spent n e more i) not_r not_s = absurd (spent_refused task steps n r i h)
two task steps r s (refused fit h) (wanting e) not_r not_s = absurd (not_s e)
two task steps r s (spent n e fit h) (misfit j g k) not_r not_s = absurd (misfit_fits (device_of task.flash) task.assumptions j k fit)
two task steps r s (spent n e fit h) (refused more i) not_r not_s = absurd (spent_refused task steps n s h i)
two task steps r s (spent m e fit h) (spent n g more i) not_r not_s = let same : m ≡ n = same_Some m n (sym h.0 ∙ i.0) in e ∙ ap refusal.Spent same ∙ sym g
two task steps r s (spent m e fit h) (wanting g) not_r not_s = absurd (not_s g)
two task steps r s (wanting e) i not_r not_s = absurd (not_r e)

none : (task : Task) (steps : Option ℕ) (c : Claim) (r : Refusal) → IsAnswer task steps c → Why task steps r → r ≡ refusal.Memory
none task steps c r h (misfit at e i) = absurd (misfit_fits (device_of task.flash) task.assumptions at i h.fit)
none task steps c r h (refused fit i) = absurd (refused_answered task steps r c i h)
none task steps c r h (spent n e fit i) = absurd (spent_answered task steps n c i h)
none task steps c r h (wanting e) = e

pub answers_are_one : AnswersAreOne
answers_are_one = record {
  solution = solution;
  answer = answer;
  why_not = λ task steps r s h i. two task steps r s (why task steps r h) (why task steps s i);
  either = λ task steps c r h i. none task steps c r h (why task steps r i);
}
