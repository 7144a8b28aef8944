-- The conditions that remain.
use Rattle.std.proofs.Common.{◌≡◌, ◌≢◌, refl, sym, ap, ◌∙◌, subst, ℕ, ◌+◌, ◌<◌, ◌≤◌, ⊎_elim, ◌==◌, Bool, true, false, List, length, set, get_or-set_other, get_or-set_same, eqb-true, arith}
use Rattle.std.specs.Prelude.{◌↔◌, if◌then◌else◌}
use Rattle.std.proofs.lemmas.Bool.{cases_lt}
use Rattle.std.proofs.lemmas.List.{get_or_past, length-set}
use Rattle.basics.specs.Numbers.{equals_itself, before_or_last}
use Rattle.clear_laws.specs.declared.slots.SlotSeed.{SlotSeed}
use Rattle.clear_laws.specs.Reach.{is_on, SlotReaches, AreInside, AreReachMarks}
use Rattle.clear_laws.specs.declared.slots.Condition.{Condition}
use Rattle.clear_laws.specs.declared.slots.Condition.TheVariants.{Always, SlotFree, Never}
use Rattle.store_clear.specs.Conditions.{condition_at, discharged, AreMarkedOff, IsDone, IsMet, IsSlotDischarged, AreDischarged}

-- ---- one after the other

pub marked_none : (slot : ℕ) (marks : List Bool) (old : List Condition) → AreMarkedOff slot marks 0 old old
marked_none slot marks old = record { same = refl; done = λ i lt. absurd (omega (arith, lt)); rest = λ i le. refl }

pub marked_more : (slot : ℕ) (marks : List Bool) (at : ℕ) (old mid : List Condition) (a : Condition) → AreMarkedOff slot marks at old mid → at < length mid
    → a ≡ discharged (condition_at mid at) slot (is_on marks at) → AreMarkedOff slot marks (at + 1) old (set mid at a)
marked_more slot marks at old mid a m lt is =
    record {
      same = length-set mid at a ∙ m.same;
      done = λ i less. ⊎_elim (λ l. other i (omega (arith, l)) ∙ m.done i l) (λ e. here i e) (before_or_last i at less);
      rest = λ i le. other i (omega (arith, le)) ∙ m.rest i (omega (arith, le));
    }
  where
    other : (i : ℕ) → i ≢ at → condition_at (set mid at a) i ≡ condition_at mid i
    other i ne = get_or-set_other mid at i a Always ne

    at_last : condition_at (set mid at a) at ≡ discharged (condition_at old at) slot (is_on marks at)
    at_last = get_or-set_same mid at a Always lt ∙ (is ∙ ap (λ (x : Condition). discharged x slot (is_on marks at)) (m.rest at (omega arith)))

    here : (i : ℕ) → i ≡ at → condition_at (set mid at a) i ≡ discharged (condition_at old i) slot (is_on marks i)
    here i e = subst (λ k. condition_at (set mid at a) k ≡ discharged (condition_at old k) slot (is_on marks k)) (sym e) at_last

-- ---- by the marks of a slot

same_as : (d x : ℕ) → (d == x) ≡ true → d ≡ x
same_as d x h = eqb-true d x h

module _ (links : List (List ℕ)) (offsets : List ℕ) (seeds : List SlotSeed) (slot : ℕ) (marks : List Bool) (reached : AreReachMarks links offsets seeds slot marks) where
  Asked : ℕ → Condition → Type 0
  Asked i a = IsMet links offsets seeds i a

  -- the condition names this slot, whose mark is b
  met_here : (i d : ℕ) (b : Bool) → d ≡ slot → is_on marks i ≡ b
      → IsMet links offsets seeds i (if b then Never else Always) ↔ IsMet links offsets seeds i (SlotFree d)
  met_here i d true same on = (λ h. absurd h, λ free. free (subst (λ x. SlotReaches links offsets seeds x i) (sym same) ((reached.exact i).0 on)))
  met_here i d false same on = (
    λ h r. absurd (let is = (reached.exact i).1 (subst (λ x. SlotReaches links offsets seeds x i) same r) in cc),
    λ h. tt,
  )

  met_free : (i d : ℕ) (b : Bool) → (d == slot) ≡ b
      → IsMet links offsets seeds i (if b then (if is_on marks i then Never else Always) else SlotFree d) ↔ IsMet links offsets seeds i (SlotFree d)
  met_free i d true is = met_here i d (is_on marks i) (same_as d slot is) refl
  met_free i d false is = (λ h. h, λ h. h)

  met_as : (i : ℕ) (a : Condition) → IsMet links offsets seeds i (discharged a slot (is_on marks i)) ↔ IsMet links offsets seeds i a
  met_as i Always = (λ h. h, λ h. h)
  met_as i (SlotFree d) = met_free i d (d == slot) refl
  met_as i Never = (λ h. h, λ h. h)

  done_if : (b : Bool) → IsDone (if b then Never else Always)
  done_if true = tt
  done_if false = tt

  done_kept : (i : ℕ) (a : Condition) → IsDone a → IsDone (discharged a slot (is_on marks i))
  done_kept i Always h = tt
  done_kept i (SlotFree d) h = absurd h
  done_kept i Never h = tt

  done_here : (i : ℕ) → IsDone (discharged (SlotFree slot) slot (is_on marks i))
  done_here i = subst (λ (b : Bool). IsDone (if b then (if is_on marks i then Never else Always) else SlotFree slot)) (sym (equals_itself slot)) (done_if (is_on marks i))

  pub is_settled : (old new : List Condition) → AreMarkedOff slot marks (length old) old new → IsSlotDischarged links offsets seeds slot old new
  is_settled old new m =
      record {
        same = m.same;
        met = λ i. subst (λ (a : Condition). IsMet links offsets seeds i a ↔ IsMet links offsets seeds i (condition_at old i)) (sym (all i)) (met_as i (condition_at old i));
        kept = λ i h. subst IsDone (sym (all i)) (done_kept i (condition_at old i) h);
        done = λ i e. subst IsDone (sym (all i ∙ ap (λ (a : Condition). discharged a slot (is_on marks i)) e)) (done_here i);
      }
    where
      past : (i : ℕ) → length old ≤ i → condition_at new i ≡ discharged (condition_at old i) slot (is_on marks i)
      past i le =
          let none : condition_at old i ≡ Always = get_or_past old i Always le in
          m.rest i le ∙ (none ∙ sym (ap (λ (a : Condition). discharged a slot (is_on marks i)) none))

      all : (i : ℕ) → condition_at new i ≡ discharged (condition_at old i) slot (is_on marks i)
      all i = ⊎_elim (λ lt. m.done i lt) (λ le. past i le) (cases_lt i (length old))

-- ---- all slots

module _ (links : List (List ℕ)) (offsets : List ℕ) (seeds : List SlotSeed) where
  pub settled_none : (old : List Condition) → AreDischarged links offsets seeds 0 old old
  settled_none old = record { same = refl; met = λ i. (λ h. h, λ h. h); done = λ i lt. absurd (omega (arith, lt)) }

  pub settled_more : (at slot : ℕ) (old mid new : List Condition) → AreDischarged links offsets seeds at old mid → condition_at mid at ≡ SlotFree slot → IsSlotDischarged links offsets seeds slot mid new
      → AreDischarged links offsets seeds (at + 1) old new
  settled_more at slot old mid new so is one =
      record {
        same = one.same ∙ so.same;
        met = λ i. (λ h. (so.met i).0 ((one.met i).0 h), λ h. (one.met i).1 ((so.met i).1 h));
        done = λ i lt. ⊎_elim (λ l. one.kept i (so.done i l)) (λ e. subst (λ k. IsDone (condition_at new k)) (sym e) (one.done at is)) (before_or_last i at lt);
      }

  -- the node's condition names no slot
  pub settled_same : (at : ℕ) (old mid : List Condition) → AreDischarged links offsets seeds at old mid → ((d : ℕ) → condition_at mid at ≢ SlotFree d) → AreDischarged links offsets seeds (at + 1) old mid
  settled_same at old mid so none =
      record {
        same = so.same;
        met = so.met;
        done = λ i lt. ⊎_elim (λ l. so.done i l) (λ e. subst (λ k. IsDone (condition_at mid k)) (sym e) (done_unless (condition_at mid at) none)) (before_or_last i at lt);
      }
    where
      done_unless : (a : Condition) → ((d : ℕ) → a ≢ SlotFree d) → IsDone a
      done_unless Always h = tt
      done_unless (SlotFree d) h = absurd (h d refl)
      done_unless Never h = tt

-- ---- the same lists behind references

pub inside_as : (links links' : List (List ℕ)) (offsets offsets' : List ℕ) (seeds seeds' : List SlotSeed) → links' ≡ links → offsets' ≡ offsets → seeds' ≡ seeds
    → AreInside links offsets seeds → AreInside links' offsets' seeds'
inside_as links links' offsets offsets' seeds seeds' l o s h =
    subst (λ (xs : List (List ℕ)). AreInside xs offsets' seeds') (sym l) (subst (λ (xs : List ℕ). AreInside links xs seeds') (sym o) (subst (AreInside links offsets) (sym s) h))

pub reached_as : (links links' : List (List ℕ)) (offsets offsets' : List ℕ) (seeds seeds' : List SlotSeed) (slot : ℕ) (marks marks' : List Bool) → links' ≡ links → offsets' ≡ offsets
    → seeds' ≡ seeds → marks' ≡ marks → AreReachMarks links' offsets' seeds' slot marks → AreReachMarks links offsets seeds slot marks'
reached_as links links' offsets offsets' seeds seeds' slot marks marks' l o s m h =
    subst (λ (xs : List (List ℕ)). AreReachMarks xs offsets seeds slot marks') l
    (subst (λ (xs : List ℕ). AreReachMarks links' xs seeds slot marks') o
    (subst (λ (xs : List SlotSeed). AreReachMarks links' offsets' xs slot marks') s (subst (AreReachMarks links' offsets' seeds' slot) (sym m) h)))
