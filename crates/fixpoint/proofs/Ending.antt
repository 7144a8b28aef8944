-- The beginning, the steps and the end of the rounds.
use Rattle.std.proofs.Common.{◌≡◌, ◌≢◌, refl, sym, ap, ◌∙◌, subst, ℕ, suc, ◌+◌, ◌-◌, ◌<◌, ◌≤◌, Bool, true, false, ◌==◌, List, [], ◌∷◌, ◌++◌, length, map, Option, Some, None, add-one, arith}
use Rattle.std.specs.FinMap.{get, insert, empty, entries, get-empty, len-entries, len-empty}
use Rattle.basics.specs.Numbers.{zero_from_test}
use Rattle.basics.specs.Items.{none_in}
use Rattle.avr_model.specs.declared.device.Device.{Device}
use Rattle.avr_model.specs.declared.assumption.Entry.{Entry}
use Rattle.avr_model.specs.Assumptions.{has_pairs}
use Rattle.avr_model.specs.Devices.{device_of}
use Rattle.abs_state.specs.declared.state.AbsState.{AbsState}
use Rattle.node_keys.specs.declared.keys.InstKey.{InstKey}
use Rattle.node_keys.specs.declared.keys.NodeKey.{NodeKey}
use Rattle.node_keys.specs.Keys.{root_inst, entry_key}
use Rattle.node_keys.specs.Order.{node_cmp}
use Rattle.local_rules.specs.declared.local.Node.{Node}
use Rattle.local_rules.specs.Cover.{IsNodeIn}
use Rattle.local_laws.specs.Laws.{AreNodesIn}
use Rattle.local_laws.proofs.AllLaws.{each_of}
use Rattle.edge_rules.specs.Roots.{root_of}
use Rattle.edge_laws.specs.Laws.{with_state}
use Rattle.edge_laws.proofs.AllLaws.{edges_lead_to_nodes}
use Rattle.certificate.specs.Claims.{cells_of}
use Rattle.round_rules.specs.declared.refusal.Refusal.{Refusal}
use Rattle.round_rules.specs.declared.refusal.Refusal.TheVariants as refusal
use Rattle.round_rules.specs.Families.{Family, FamilyHasInst, AreFormed, IsClosed, cells}
use Rattle.round_rules.specs.Rounds.{first, IsNext, Comes}
use Rattle.round_rules.specs.Refusals.{Test, over, faulty, re_entry, recursion, too_deep, refusal_of}
use Rattle.round_rules.specs.Solutions.{IsWithinBudget, AreRoundsWithout, IsRefusal}
use Rattle.round_laws.specs.Steps.{joined_with, raised_all, HaveOwnKeys, weight}
use Rattle.round_laws.proofs.AllLaws.{rounds_are_joins, rounds_are_least, comes_root}
use Rattle.round_steps.specs.declared.noting.Notes.{Notes}
use Rattle.round_steps.specs.Notings.{blank}
use Rattle.round_steps.specs.Joins.{AreNew, KeptBut}
use Rattle.fixpoint.specs.Progress.{Turn, IsBudgetLeft, RoundsProgress, IsSpent, AreRoundsFound}
use Rattle.fixpoint.specs.Checks.{AreRoundsStopped, IsReady}
use Rattle.fixpoint.proofs.Next.{next_turn, first_turn, not_closed, unchanged, closed_then}
use Rattle.local_rules.specs.Site.{Task}

-- ---- the first family

abbrev root_node : List Entry → Node
root_node A = record { key = entry_key root_inst; state = root_of A }

cells_none : (es : List (NodeKey × AbsState)) → length es ≡ 0 → cells_of (map (λ (x : NodeKey × AbsState). x.0) es) ≡ 0
unfolding cells_of
cells_none [] e = refl
cells_none (x ∷ es) e = absurd (omega (arith, e))

pub no_cells : cells empty ≡ 0
no_cells = cells_none (entries empty) (sym (len-entries (empty {R = node_cmp})) ∙ len-empty node_cmp AbsState)

pub pushed_root : (A : List Entry) (items before : List Node) (k : NodeKey) (inst : InstKey) (s : AbsState) → items ≡ before ++ record { key = k; state = s } ∷ [] → before ≡ []
    → k ≡ entry_key inst → inst ≡ root_inst → s ≡ root_of A → items ≡ root_node A ∷ []
pushed_root A items before k inst s is none key at state =
    is ∙ ap (λ (l : List Node). l ++ record { key = k; state = s } ∷ []) none ∙ ap (λ (q : NodeKey). record { key = q; state = s } ∷ []) (key ∙ ap entry_key at)
    ∙ ap (λ (t : AbsState). record { key = entry_key root_inst; state = t } ∷ []) state

-- ---- whether something changed

pub none_if : (l : List NodeKey) (b : Bool) (n : ℕ) → b ≡ (n == 0) → n ≡ length l → b ≡ true → l ≡ []
none_if [] b n is all e = refl
none_if (k ∷ ks) b n is all e = absurd (let z = zero_from_test b n is e in omega (arith, z, all))

pub some_if : (l : List NodeKey) (b : Bool) (n : ℕ) → b ≡ (n == 0) → n ≡ length l → b ≡ false → l ≢ []
some_if l b n is all e none = absurd (let same : n ≡ 0 = all ∙ ap length none in let never : true ≡ false = ap (λ m. m == 0) (sym same) ∙ sym is ∙ e in cc)

pub no_nodes : (device : Device) (followed : Bool) → AreFormed device followed empty
no_nodes device followed n has = absurd (let never = sym (get-empty {X = AbsState} node_cmp n.key) ∙ has in cc)

pub root_nodes : (device : Device) (A : List Entry) (ns : List Node) → ns ≡ root_node A ∷ [] → AreNodesIn device (has_pairs A) ns
root_nodes device A ns is =
    subst (AreNodesIn device (has_pairs A)) (sym is)
    (each_of (λ n. IsNodeIn device (has_pairs A) n.key n.state) (root_node A) [] (edges_lead_to_nodes.reset device (has_pairs A)) (λ n i. absurd (none_in n i)))

pub root_fresh : (f : Family) (ns : List Node) → f ≡ empty → AreNew f ns
root_fresh f ns is n i l =
    absurd (let never = sym (get-empty {X = AbsState} node_cmp n.key) ∙ sym (ap (λ (g : Family). get g n.key) is) ∙ l.is in cc)

pub root_apart : (A : List Entry) (ns : List Node) → ns ≡ root_node A ∷ [] → HaveOwnKeys ns
root_apart A ns is = subst HaveOwnKeys (sym is) (λ m i. absurd (none_in m i), tt)

pub first_is : (A : List Entry) (ns : List Node) → ns ≡ root_node A ∷ [] → raised_all empty ns ≡ first A
first_is A ns is = ap (raised_all empty) is ∙ ap (λ o. insert empty (entry_key root_inst) (joined_with o (root_of A))) (get-empty {X = AbsState} node_cmp (entry_key root_inst))

-- ---- the budget

pub within_left : (steps left : Option ℕ) (n : ℕ) → IsBudgetLeft steps left n → IsWithinBudget steps n
within_left None left n h = tt
within_left (Some steps) None n h = absurd h
within_left (Some steps) (Some left) n h = omega (arith, h)

all_left : (steps : Option ℕ) → IsBudgetLeft steps steps 0
all_left None = tt
all_left (Some steps) = omega arith

module _ (task : Task) where
  -- ---- refusals

  never_spent : (n : ℕ) (t : Test) → refusal.Spent n ≡ refusal_of t → ⊥
  never_spent n (over limit) e = absurd cc
  never_spent n (faulty x) e = absurd cc
  never_spent n (re_entry v word) e = absurd cc
  never_spent n (recursion word) e = absurd cc
  never_spent n (too_deep d) e = absurd cc

  spent_no_memory : (n : ℕ) → refusal.Spent n ≡ refusal.Memory → ⊥
  spent_no_memory n e = cc

  refused_by : (steps : Option ℕ) (n : ℕ) (f : Family) (r : Refusal) → IsWithinBudget steps n → Comes task n f → (r ≢ refusal.Memory → IsRefusal task steps r)
      → (r ≢ refusal.Memory → AreRoundsStopped task f r) → AreRoundsWithout task steps r
  refused_by steps n f (refusal.Spent m) within comes refused stopped =
      let s = stopped (spent_no_memory m) in absurd (never_spent m s.test s.is)
  refused_by steps n f refusal.Memory within comes refused stopped = tt
  refused_by steps n f (refusal.Misfit at) within comes refused stopped = refused (λ e. let never = e in cc)
  refused_by steps n f (refusal.Node x) within comes refused stopped = refused (λ e. let never = e in cc)
  refused_by steps n f (refusal.Recursion word) within comes refused stopped = refused (λ e. let never = e in cc)
  refused_by steps n f (refusal.ReEntry v word) within comes refused stopped = refused (λ e. let never = e in cc)
  refused_by steps n f (refusal.TooLarge limit) within comes refused stopped = refused (λ e. let never = e in cc)

  module _ (steps left : Option ℕ) (f : Family) (count : ℕ) (work : List NodeKey) (notes : Notes) (p : RoundsProgress task steps left f count work notes) where
    within : IsWithinBudget steps p.number
    within = within_left steps left p.number p.budget

    pub why_stopped : (r : Refusal) → (r ≢ refusal.Memory → AreRoundsStopped task f r) → AreRoundsWithout task steps r
    why_stopped r stopped =
        refused_by steps p.number f r within p.comes
        (λ real. let s = stopped real in
        record { number = p.number; within = within; refused = record { test = s.test; ends = record { family = f; comes = p.comes; holds = s.holds }; is = s.is } }) stopped

    pub formed : AreFormed (device_of task.flash) (has_pairs task.assumptions) f
    formed = rounds_are_least.formed task p.number f p.comes

    pub rooted : FamilyHasInst f root_inst
    rooted = let l = comes_root task p.number f p.comes in (with_state (root_node task.assumptions) l.at, l.is, refl)

    -- ---- a round

    module _ (g : Family) (mid : Notes) (nodes : List Node) (changed : List NodeKey) (ready : IsReady task f mid nodes) (joined : g ≡ raised_all f nodes) (kept : KeptBut f g changed)
        (more : weight f + length changed ≤ weight g) where
      next : IsNext task f g
      next = subst (IsNext task f) (sym joined) (rounds_are_joins.next task f nodes formed ready.round)

      pub is_found : changed ≡ [] → AreRoundsFound task steps g
      is_found none =
          let same = unchanged task f g changed none kept in
          subst (AreRoundsFound task steps) (sym same)
          (record { number = p.number; within = within; solved = record { comes = p.comes; passes = ready.passes; closed = closed_then task f g next same } })

      module _ (some : changed ≢ []) where
        rises : weight f < weight g
        rises = let lt = some_length changed some in omega (arith, more, lt)
          where
            some_length : (l : List NodeKey) → l ≢ [] → 0 < length l
            some_length [] ne = absurd (ne refl)
            some_length (k ∷ ks) ne = omega arith

        still_open : IsClosed task f → ⊥
        still_open = not_closed task f g formed next rises

        pub progress_more : (less : Option ℕ) (now : ℕ) → ((n : ℕ) → IsBudgetLeft steps left n → IsBudgetLeft steps less (n + 1)) → now ≡ cells g
            → RoundsProgress task steps less g now changed mid
        progress_more less now spent counted = record {
          number = suc p.number;
          comes = (f, p.comes, ready.passes, still_open, next);
          budget = subst (IsBudgetLeft steps less) (add-one p.number) (spent p.number p.budget);
          turn = next_turn task f g mid changed formed next ready.known ready.once kept;
          counted = counted;
        }

        pub why_spent : (r : Refusal) → ((n : ℕ) → IsBudgetLeft steps left n → IsSpent steps n r) → AreRoundsWithout task steps r
        why_spent r spent =
            let s = spent p.number p.budget in
            subst (AreRoundsWithout task steps) (sym s.0) (s.1, record { family = f; comes = p.comes; passes = ready.passes; more = still_open })

        pub falls : 9421119815681 - weight g < 9421119815681 - weight f
        falls =
            let top = rounds_are_joins.high f formed in
            let few = ready.passes.fits.few_cells in
            let lt = rises in
            omega (arith, top, few, lt)

  pub progress_first : (steps : Option ℕ) (f : Family) (count : ℕ) (work : List NodeKey) (notes : Notes) → f ≡ first task.assumptions → count ≡ cells f → KeptBut empty f work → notes ≡ blank
      → RoundsProgress task steps steps f count work notes
  progress_first steps f count work notes is counted kept no_notes = record {
    number = 0;
    comes = is;
    budget = all_left steps;
    turn = subst (Turn task f work) (sym no_notes) (first_turn task f work kept);
    counted = counted;
  }
