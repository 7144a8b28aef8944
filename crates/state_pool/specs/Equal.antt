-- The test of states decides equality.
use Rattle.std.proofs.Common.{◌≡◌, refl, ap, ◌∙◌, subst, true}
use Rattle.std.specs.Prelude.{IsTrue}
use Rattle.std.specs.Bool.{Decides}
use Rattle.std.specs.Cmp.{IsEquivalence, IsPartialEquivalence, partial_equiv_from_equiv, decided}
use Rattle.std.proofs.lemmas.Bool.Decides.{Decides-eqb}
use Rattle.basics.specs.Booleans.{left_of_and, right_of_and}
use Rattle.std.proofs.lemmas.Bool.{and_from}
use base.Stored.{Gv}
use base.Stored.Gv.{gnil, gnum, gcons}
use Rattle.abs_state.specs.contracts.state.AbsState as abs_state
use Rattle.abs_state.specs.declared.state.AbsState.{AbsState}
use Rattle.state_pool.specs.SameState.{same_tree, same_state}
use Rattle.state_pool.specs.Digest.{state_hash}

same_tree_is : (a b : Gv) → same_tree a b ≡ true → a ≡ b
unfolding same_tree
same_tree_is gnil gnil e = refl
same_tree_is (gnum n) (gnum m) e = ap gnum ((Decides-eqb n m).0 e)
same_tree_is (gcons a b) (gcons c d) e =
    ap (λ x. gcons x b) (same_tree_is a c (left_of_and (same_tree a c) (same_tree b d) e)) ∙ ap (gcons c) (same_tree_is b d (right_of_and (same_tree a c) (same_tree b d) e))
same_tree_is gnil (gnum m) e = absurd (cc)
same_tree_is gnil (gcons c d) e = absurd (cc)
same_tree_is (gnum n) gnil e = absurd (cc)
same_tree_is (gnum n) (gcons c d) e = absurd (cc)
same_tree_is (gcons a b) gnil e = absurd (cc)
same_tree_is (gcons a b) (gnum m) e = absurd (cc)

tree_is_same : (a : Gv) → same_tree a a ≡ true
unfolding same_tree
tree_is_same gnil = refl
tree_is_same (gnum n) = (Decides-eqb n n).1 refl
tree_is_same (gcons a b) = and_from (same_tree a a) (same_tree b b) (tree_is_same a) (tree_is_same b)

pub same_state_decides : (s t : AbsState) → Decides (same_state s t) (s ≡ t)
unfolding same_state
same_state_decides s t =
    let code = abs_state.the_row.coded in (
      (λ e. code.inj s t (same_tree_is (code.code s) (code.code t) e)),
      (λ e. subst (λ (u : AbsState). same_tree (code.code s) (code.code u) ≡ true) e (tree_is_same (code.code s))),
    )

pub state_equivalence : IsPartialEquivalence same_state × IsEquivalence same_state
state_equivalence = let all = decided same_state same_state_decides in (partial_equiv_from_equiv all, all)

-- equal states feed a hasher alike
pub fed_alike : (s t : AbsState) → IsTrue (same_state s t) → state_hash s ≡ state_hash t
fed_alike s t e = ap state_hash ((same_state_decides s t).0 e)
