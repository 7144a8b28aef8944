-- Marking of reached instances.
use Rattle.std.proofs.Common.{◌≡◌, ℕ, zero, suc, ◌+◌, ◌<◌, Bool, true, false, Some, List, [], ◌∷◌, ◌++◌, length, get_or, set, take, replicate, slice_get, refl, sym, ap, ◌∙◌, subst, arith, inl, inr, ⊎_elim, get_or-set_other, get_or-set_same, length-append}
use Rattle.std.specs.List.{Contains}
use Rattle.std.proofs.lemmas.Bool.{cases_eq}
use Rattle.std.proofs.lemmas.List.{take_more, length-set}
use Rattle.std.proofs.lemmas.List.Sums.{sum_by-set}
use Rattle.std.proofs.lemmas.List.Elements.{Contains-push_cases, Contains-push, Contains-append_left}
use Rattle.basics.specs.Items.{none_within}
use Rattle.instance_graph.specs.declared.graph.GraphInst.{GraphInst}
use Rattle.instance_graph.specs.declared.graph.Entered.{Entered}
use Rattle.instance_graph.specs.Graph.{EntersAlong, ReachesBy, once, more, IsGraph}
use Rattle.instance_graph.specs.Reach.{marked, one_if_new, IsMarked, IsSpread}
use Rattle.instance_graph.proofs.Walk.{reaches_on}
use Rattle.instance_graph.proofs.Table.{more_within}

only_one : (e x : Entered) → Contains (e ∷ []) x → e ≡ x
only_one e x (zero, lt, is) = is
only_one e x (suc k, lt, is) = absurd (omega (arith, lt))

pub spread_old : (e : Entered) (seen : List Bool) (stack : List ℕ) → marked seen e.into ≡ true → IsSpread (e ∷ []) seen stack seen stack
spread_old e seen stack is =
    record {
      same = refl;
      kept = λ j h. h;
      stack_kept = λ j h. h;
      all = λ x h. subst (λ y. marked seen y.into ≡ true) (only_one e x h) is;
      only = λ j h. inl h;
      stack_only = λ j h. inl h;
      less = omega arith;
    }

pub spread_new : (e : Entered) (seen : List Bool) (stack : List ℕ) → e.into < length seen → marked seen e.into ≡ false → IsSpread (e ∷ []) seen stack (set seen e.into true) (stack ++ e.into ∷ [])
spread_new e seen stack lt is =
    record {
      same = length-set seen e.into true;
      kept = λ j h. ⊎_elim (λ same. subst (λ x. marked (set seen e.into true) x ≡ true) (sym same) here) (λ ne. get_or-set_other seen e.into j true false ne ∙ h) (cases_eq j e.into);
      stack_kept = λ j h. Contains-append_left stack (e.into ∷ []) j h;
      all = λ x h. subst (λ y. marked (set seen e.into true) y.into ≡ true) (only_one e x h) here;
      only = λ j h. ⊎_elim (λ same. inr (e, (0, omega arith, refl), sym same, subst (Contains (stack ++ e.into ∷ [])) (sym same) (Contains-push stack e.into))) (λ ne. inl (sym (get_or-set_other seen e.into j true false ne) ∙ h)) (cases_eq j e.into);
      stack_only = λ j h. ⊎_elim (λ h. inl h) (λ same. inr (subst (λ x. marked (set seen e.into true) x ≡ true) same here)) (Contains-push_cases stack e.into j h);
      less = omega (arith, sum_by-set one_if_new seen e.into true false lt, ap one_if_new is, length-append stack (e.into ∷ []));
    }
  where
    here : marked (set seen e.into true) e.into ≡ true
    here = get_or-set_same seen e.into true false lt

pub spread_none : (seen : List Bool) (stack : List ℕ) → IsSpread [] seen stack seen stack
spread_none seen stack =
    record {
      same = refl;
      kept = λ j h. h;
      stack_kept = λ j h. h;
      all = λ x h. absurd (none_within h);
      only = λ j h. inl h;
      stack_only = λ j h. inl h;
      less = omega arith;
    }

pub spread_more : (es es0 : List Entered) (i : ℕ) (d : Entered) (a b c : List Bool) (sa sb sc : List ℕ) → es0 ≡ es → i < length es0 → IsSpread (take i es) a sa b sb → IsSpread (get_or es0 i d ∷ []) b sb c sc → IsSpread (take (i + 1) es) a sa c sc
spread_more es es0 i d a b c sa sb sc e lt so one =
    let into : IsSpread (get_or es i d ∷ []) b sb c sc = subst (λ ys. IsSpread (get_or ys i d ∷ []) b sb c sc) e one in
    let lt' : i < length es = subst (λ ys. i < length ys) e lt in
    both lt' into
  where
    both : i < length es → IsSpread (get_or es i d ∷ []) b sb c sc → IsSpread (take (i + 1) es) a sa c sc
    both lt one =
        record {
          same = one.same ∙ so.same;
          kept = λ j h. one.kept j (so.kept j h);
          stack_kept = λ j h. one.stack_kept j (so.stack_kept j h);
          all = λ x h. ⊎_elim (λ h. one.kept x.into (so.all x h)) (λ is. one.all x (0, omega arith, is)) (more_within es i d x lt h);
          only = λ j h. ⊎_elim
              (λ h. ⊎_elim (λ h. inl h) (λ p. inr (p.0, within_first p.0 p.1, p.2, one.stack_kept j p.3)) (so.only j h))
              (λ p. inr (p.0, subst (Contains (take (i + 1) es)) (only_one (get_or es i d) p.0 p.1) within_last, p.2, p.3))
              (one.only j h);
          stack_only = λ j h. ⊎_elim (λ h. ⊎_elim (λ h. inl h) (λ m. inr (one.kept j m)) (so.stack_only j h)) (λ m. inr m) (one.stack_only j h);
          less = omega (arith, so.less, one.less);
        }
      where
        within_first : (x : Entered) → Contains (take i es) x → Contains (take (i + 1) es) x
        within_first x h = subst (λ ys. Contains ys x) (sym (take_more es i d lt)) (Contains-append_left (take i es) (get_or es i d ∷ []) x h)

        within_last : Contains (take (i + 1) es) (get_or es i d)
        within_last = subst (λ ys. Contains ys (get_or es i d)) (sym (take_more es i d lt)) (Contains-push (take i es) (get_or es i d))

-- ---- all that is reached
it_enters : (gs : List GraphInst) (j : ℕ) (inst : GraphInst) (e : Entered) → slice_get gs j ≡ Some inst → Contains inst.entered e → EntersAlong gs j e
it_enters gs j inst e is h = record { inst = inst; is = is; has = h }

of_inst : (gs : List GraphInst) (j : ℕ) (inst : GraphInst) (e : Entered) → slice_get gs j ≡ Some inst → EntersAlong gs j e → Contains inst.entered e
of_inst gs j inst e is enters = let same : enters.inst ≡ inst = let a = enters.is in cc in subst (λ x. Contains x.entered e) same enters.has

pub marked_first : (gs : List GraphInst) (from : ℕ) (inst : GraphInst) (old new : List Bool) (stack : List ℕ) → slice_get gs from ≡ Some inst → length old ≡ length gs → ((j : ℕ) → marked old j ≡ false) → IsSpread inst.entered old [] new stack → IsMarked gs from new stack
marked_first gs from inst old new stack is size none s =
    record {
      same = s.same ∙ size;
      reached = λ j h. ⊎_elim (λ m. absurd (let e = none j in cc)) (λ p. subst (ReachesBy gs from) p.2 (once from p.0 (it_enters gs from inst p.0 is p.1))) (s.only j h);
      stacked = λ j h. ⊎_elim (λ h. absurd (none_within h)) (λ m. m) (s.stack_only j h);
      first = λ e enters. s.all e (of_inst gs from inst e is enters);
      rest = λ j e h enters. ⊎_elim (λ m. absurd (let e' = none j in cc)) (λ p. inl p.3) (s.only j h);
    }

pub marked_more : (gs : List GraphInst) (from number : ℕ) (inst : GraphInst) (old new : List Bool) (stack rest stack' : List ℕ) → slice_get gs number ≡ Some inst → stack ≡ rest ++ number ∷ [] → IsMarked gs from old stack → IsSpread inst.entered old rest new stack' → IsMarked gs from new stack'
marked_more gs from number inst old new stack rest stack' is e m s =
    record {
      same = s.same ∙ m.same;
      reached = λ j h. ⊎_elim (λ o. m.reached j o) (λ p. subst (ReachesBy gs from) p.2 (reaches_on gs from number p.0 (m.reached number (m.stacked number on_stack)) (it_enters gs number inst p.0 is p.1))) (s.only j h);
      stacked = λ j h. ⊎_elim (λ h. s.kept j (m.stacked j (on_rest j h))) (λ o. o) (s.stack_only j h);
      first = λ d enters. s.kept d.into (m.first d enters);
      rest = λ j d h enters. ⊎_elim
          (λ o. ⊎_elim
          (λ h. ⊎_elim (λ h. inl (s.stack_kept j h)) (λ same. inr (s.all d (of_inst gs number inst d is (subst (λ x. EntersAlong gs x d) (sym same) enters)))) (Contains-push_cases rest number j (subst (λ xs. Contains xs j) e h)))
          (λ o. inr (s.kept d.into o))
          (m.rest j d o enters))
          (λ p. inl p.3)
          (s.only j h);
    }
  where
    on_stack : Contains stack number
    on_stack = subst (λ xs. Contains xs number) (sym e) (Contains-push rest number)

    on_rest : (j : ℕ) → Contains rest j → Contains stack j
    on_rest j h = subst (λ xs. Contains xs j) (sym e) (Contains-append_left rest (number ∷ []) j h)

pub all_marked : (gs : List GraphInst) (from : ℕ) (seen : List Bool) → IsMarked gs from seen [] → (j : ℕ) → ReachesBy gs from j → marked seen j ≡ true
all_marked gs from seen m j (once _ e enters) = m.first e enters
all_marked gs from seen m j (more _ _ e enters rest) = on e.into j (m.first e enters) rest
  where
    on : (i k : ℕ) → marked seen i ≡ true → ReachesBy gs i k → marked seen k ≡ true
    on i k h (once _ d en) = ⊎_elim (λ h. absurd (none_within h)) (λ o. o) (m.rest i d h en)
    on i k h (more _ _ d en r) = on d.into k (⊎_elim (λ h. absurd (none_within h)) (λ o. o) (m.rest i d h en)) r

pub marked_inside : (seen : List Bool) (j : ℕ) → marked seen j ≡ true → j < length seen
marked_inside [] j e = absurd (let e' = e in cc)
marked_inside (b ∷ seen) zero e = omega arith
marked_inside (b ∷ seen) (suc j) e = omega (arith, marked_inside seen j e)

pub none_marked : (n j : ℕ) → marked (replicate n false) j ≡ false
none_marked zero j = refl
none_marked (suc n) zero = refl
none_marked (suc n) (suc j) = none_marked n j

pub into_seen : (gs : List GraphInst) (seen : List Bool) → IsGraph gs → length seen ≡ length gs → (i : ℕ) (inst : GraphInst) → slice_get gs i ≡ Some inst → (e : Entered) → Contains inst.entered e → e.into < length seen
into_seen gs seen graph same i inst is e h = omega (arith, same, graph.within i e (it_enters gs i inst e is h))

pub number_inside : (gs : List GraphInst) (from number : ℕ) (seen : List Bool) (stack rest : List ℕ) → IsMarked gs from seen stack → stack ≡ rest ++ number ∷ [] → number < length gs
number_inside gs from number seen stack rest m e =
    let lt = marked_inside seen number (m.stacked number (subst (λ xs. Contains xs number) (sym e) (Contains-push rest number))) in
    omega (arith, m.same)

pub nothing_left : (gs : List GraphInst) (from : ℕ) (seen : List Bool) (stack : List ℕ) → length stack ≡ 0 → IsMarked gs from seen stack → IsMarked gs from seen []
nothing_left gs from seen [] e m = m
nothing_left gs from seen (x ∷ stack) e m = absurd (omega arith)
