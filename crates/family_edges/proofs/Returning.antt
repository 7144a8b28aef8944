-- The exits of a family's nodes.
use Rattle.std.proofs.Common.{◌≡◌, refl, sym, ap, ◌∙◌, subst, ℕ, zero, suc, ◌+◌, ◌<◌, ⊎_elim, List, [], ◌∷◌, ◌++◌, length, Option, Some, Result, Ok, Err, slice_get, length-append, arith}
use Rattle.std.specs.Prelude.{◌↔◌}
use Rattle.std.proofs.lemmas.Option.{slice_get_read, slice_get_within, same_Some, none-some}
use Rattle.basics.specs.Numbers.{before_or_last, same_if_neither}
use Rattle.basics.specs.Lists.{get_pushed, get_inside}
use Rattle.basics.specs.Items.{contained_at}
use Rattle.edge_rules.specs.Families.{AreFaultless}
use Rattle.local_rules.specs.declared.local.Node.{Node}
use Rattle.local_rules.specs.declared.local.Local.{Local}
use Rattle.local_rules.specs.declared.local.Exit.{Exit}
use Rattle.local_rules.specs.declared.local.NodeFault.{NodeFault}
use Rattle.local_rules.specs.Raw.{Raw}
use Rattle.local_rules.specs.Local.{local, settled}
use Rattle.edge_rules.specs.Edges.{IsFaultless, raw_of}
use Rattle.edge_laws.proofs.ExpansionLaws.{same_list}
use Rattle.family_edges.specs.declared.exit_list.Leaving.{Leaving}
use Rattle.family_edges.specs.declared.exit_list.Leaving.TheVariants.{All, Fault}
use Rattle.family_edges.specs.Next.{exit_in}
use Rattle.family_edges.specs.Exits.{AreExits, IsFirstFault, GivesExits, exit_or, AreExitsKnown, ExitsSoFar}
use Rattle.family_edges.specs.Laws.{ExitsAreExact}
use Rattle.local_rules.specs.Site.{Task}

-- ---- lists

pub get_kept : {X : Type 0} (xs : List X) (y : X) (i : ℕ) (x : X) → slice_get xs i ≡ Some x → slice_get (xs ++ y ∷ []) i ≡ Some x
get_kept [] y i x e = absurd (none-some x e)
get_kept (z ∷ zs) y zero x e = e
get_kept (z ∷ zs) y (suc i) x e = get_kept zs y i x e

fault_is : (f g : NodeFault) (o : Result Local NodeFault) → o ≡ Err f → o ≡ Err g → f ≡ g
fault_is f g o a b = cc

-- ---- one node

exit_by : (r : Raw) (x : Option Exit) (fs : List NodeFault) → exit_or (settled r fs) ≡ Ok x → (fs ≡ []) × (r.exit ≡ x)
exit_by r x [] e = let h : r.exit ≡ x = cc in (refl, h)
exit_by r x (f ∷ fs) e = absurd cc

fault_by : (f : NodeFault) (o : Result Local NodeFault) → exit_or o ≡ Err f → o ≡ Err f
fault_by f (Ok l) e = absurd cc
fault_by f (Err g) e = cc

not_both : (r : Raw) (f : NodeFault) (fs : List NodeFault) → fs ≡ [] → settled r fs ≡ Err f → ⊥
not_both r f [] e h = cc
not_both r f (g ∷ gs) e h = cc

module _ (task : Task) where
  exit_is : (n : Node) → IsFaultless task n → exit_in (local task n.key n.state) ≡ (raw_of task n).exit
  unfolding local
  exit_is n f = ap (λ fs. exit_in (settled (raw_of task n) fs)) f

  exit_ok : (n : Node) (x : Option Exit) → exit_or (local task n.key n.state) ≡ Ok x → IsFaultless task n × ((raw_of task n).exit ≡ x)
  unfolding local
  exit_ok n x e = exit_by (raw_of task n) x (raw_of task n).faults e

  clean_or_fault : (n : Node) (f : NodeFault) → IsFaultless task n → local task n.key n.state ≡ Err f → ⊥
  unfolding local
  clean_or_fault n f clean e = not_both (raw_of task n) f (raw_of task n).faults clean e

  -- ---- exits that are known

  module _ (nodes : List Node) where
    pub none_known : AreExitsKnown task nodes []
    none_known at n x there e = absurd (none-some x e)

    pub all_known : (exits : List (Option Exit)) → AreExits task nodes exits → AreExitsKnown task nodes exits
    all_known exits e at n x there is =
        same_Some x (raw_of task n).exit (sym is ∙ e.each at n there) ∙ sym (exit_is n (e.faultless n (contained_at nodes at n there)))

    -- ---- one node more

    pub none_yet : ExitsSoFar task nodes 0 []
    none_yet = record { count = refl; clean = λ i n lt there. absurd (omega (arith, lt)); each = λ i n lt there. absurd (omega (arith, lt)) }

    module _ (at : ℕ) (done : List (Option Exit)) (so : ExitsSoFar task nodes at done) (n : Node) (there : slice_get nodes at ≡ Some n) where
      pub one_more : (x : Option Exit) (new : List (Option Exit)) → exit_or (local task n.key n.state) ≡ Ok x → new ≡ done ++ x ∷ []
          → ExitsSoFar task nodes (at + 1) new
      one_more x new ok e = subst (ExitsSoFar task nodes (at + 1)) (sym e) more
        where
          is : IsFaultless task n × ((raw_of task n).exit ≡ x)
          is = exit_ok n x ok

          this : (i : ℕ) (m : Node) → i ≡ at → slice_get nodes i ≡ Some m → n ≡ m
          this i m same e = same_Some n m (sym there ∙ (ap (slice_get nodes) (sym same) ∙ e))

          more : ExitsSoFar task nodes (at + 1) (done ++ x ∷ [])
          more = record {
            count = omega (arith, length-append done (x ∷ []), so.count);
            clean = λ i m lt e. ⊎_elim (λ below. so.clean i m below e) (λ same. subst (IsFaultless task) (this i m same e) is.0) (before_or_last i at lt);
            each = λ i m lt e. ⊎_elim (λ below. get_kept done x i (raw_of task m).exit (so.each i m below e))
                (λ same. subst (λ (k : Node). slice_get (done ++ x ∷ []) i ≡ Some (raw_of task k).exit) (this i m same e)
                (subst (λ j. slice_get (done ++ x ∷ []) j ≡ Some (raw_of task n).exit) (so.count ∙ sym same) (get_pushed done x ∙ ap (λ y. Some y) (sym is.1))))
                (before_or_last i at lt);
          }

      pub first_fault : (f : NodeFault) → exit_or (local task n.key n.state) ≡ Err f → IsFirstFault task nodes at f
      first_fault f e = record { node = n; present = there; fault = fault_by f (local task n.key n.state) e; before = so.clean }

    pub whole : (at : ℕ) (done : List (Option Exit)) → at ≡ length nodes → ExitsSoFar task nodes at done → AreExits task nodes done
    whole at done full so = record {
      count = so.count ∙ full;
      faultless = λ n i. so.clean i.0 n (omega (arith, i.1, full)) (slice_get_read nodes (length nodes) i.0 n refl i.1 (sym i.2));
      each = λ i n there. so.each i n (let inside = slice_get_within nodes i n there in omega (arith, inside, full)) there;
    }

    -- ---- there is one answer

    pub apart : AreFaultless task nodes → (at : ℕ) (f : NodeFault) → IsFirstFault task nodes at f → ⊥
    apart clean at f m = clean_or_fault m.node f (clean m.node (contained_at nodes at m.node m.present)) m.fault

    not_before : (i j : ℕ) (f g : NodeFault) → IsFirstFault task nodes i f → IsFirstFault task nodes j g → i < j → ⊥
    not_before i j f g a b lt = clean_or_fault a.node f (b.before i a.node lt a.present) a.fault

    one_place : (i j : ℕ) (f g : NodeFault) → IsFirstFault task nodes i f → IsFirstFault task nodes j g → i ≡ j
    one_place i j f g a b = same_if_neither i j (not_before i j f g a b) (not_before j i g f b a)

    one_fault : (i j : ℕ) (f g : NodeFault) → IsFirstFault task nodes i f → IsFirstFault task nodes j g → f ≡ g
    one_fault i j f g a b =
        let n : a.node ≡ b.node = same_Some a.node b.node (sym a.present ∙ (ap (slice_get nodes) (one_place i j f g a b) ∙ b.present)) in
        fault_is f g (local task a.node.key a.node.state) a.fault ((λ x. local task (n x).key (n x).state) ∙ b.fault)

    one_exits : (a b : List (Option Exit)) → AreExits task nodes a → AreExits task nodes b → a ≡ b
    one_exits a b p q =
        same_list a b (p.count ∙ sym q.count)
        (λ i x y e f. let inside = slice_get_within a i x e in
        let n = get_inside nodes i (omega (arith, inside, p.count)) in
        same_Some x y (sym e ∙ (p.each i n.0 n.1 ∙ (sym (q.each i n.0 n.1) ∙ f))))

    exact_whole : (answer : Leaving) → GivesExits task nodes answer → ((exits : List (Option Exit)) × (answer ≡ All exits)) ↔ AreFaultless task nodes
    exact_whole (All exits) g = (λ x. g.faultless, λ clean. (exits, refl))
    exact_whole (Fault at f) g = (λ x. let e : Fault at f ≡ All x.0 = x.1 in absurd (cc), λ clean. absurd (apart clean at f g))

    exact_fault : (answer : Leaving) (at : ℕ) (f : NodeFault) → GivesExits task nodes answer → (answer ≡ Fault at f) ↔ IsFirstFault task nodes at f
    exact_fault (All exits) at f g = (λ e. absurd (cc), λ m. absurd (apart g.faultless at f m))
    exact_fault (Fault i e) at f g = (
      λ same. let place : i ≡ at = cc in let fault : e ≡ f = cc in subst (λ j. IsFirstFault task nodes j f) place (subst (IsFirstFault task nodes i) fault g),
      λ m. (λ x. Fault (one_place i at e f g m x) (one_fault i at e f g m x)),
    )

    exact_one : (a b : Leaving) → GivesExits task nodes a → GivesExits task nodes b → a ≡ b
    exact_one (All a) (All b) p q = ap (λ x. All x) (one_exits a b p q)
    exact_one (All a) (Fault at f) p q = absurd (apart p.faultless at f q)
    exact_one (Fault at f) (All b) p q = absurd (apart q.faultless at f p)
    exact_one (Fault i f) (Fault j g) p q = (λ x. Fault (one_place i j f g p q x) (one_fault i j f g p q x))

pub exits_are_exact : ExitsAreExact
exits_are_exact = record { whole = exact_whole; fault = exact_fault; one = exact_one }
