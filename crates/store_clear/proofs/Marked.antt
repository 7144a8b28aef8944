-- Marked words, and the places of marks.
use Rattle.std.proofs.Common.{◌≡◌, refl, sym, ap, ◌∙◌, subst, ℕ, zero, suc, ◌+◌, ◌<◌, ◌⊎◌, inl, inr, ⊎_elim, Bool, true, false, List, [], ◌∷◌, length, set, get_or-set_other, get_or-set_same, Option, Some, None, slice_get, Contains, arith}
use Rattle.std.specs.Option.{option_map}
use Rattle.std.specs.List.{AllByRecursion}
use Rattle.std.specs.List.Sorted.{IsStrictlySortedBy}
use Rattle.std.specs.Ordering.{nat_cmp}
use Rattle.std.specs.declared.cmp.Ordering.TheVariants.{Less}
use Rattle.std.proofs.lemmas.Bool.{cases_eq}
use Rattle.std.proofs.lemmas.Bool.Decides.{nat_tests}
use Rattle.std.proofs.lemmas.List.{length-set}
use Rattle.std.proofs.lemmas.Option.{none-some, same_Some}
use Rattle.basics.specs.Items.{none_in, first_in, further_in, first_or_further, contained_at}
use Rattle.basics.specs.Lists.{one_at}
use Rattle.basics.specs.Numbers.{before_or_last}
use Rattle.avr_model.proofs.AllLaws.{devices_are_alike}
use Rattle.avr_model.specs.Image.{WORDS}
use Rattle.node_keys.specs.declared.keys.NodeKey.{NodeKey}
use Rattle.local_rules.specs.declared.local.Node.{Node}
use Rattle.edge_rules.specs.Views.{key_of}
use Rattle.family_edges.specs.Shown.{AreOfSomeDevice}
use Rattle.clear_laws.specs.Reach.{is_on}
use Rattle.clear_laws.specs.declared.slots.Condition.{Condition}
use Rattle.store_clear.specs.Conditions.{condition_at, is_discharged, IsWordOf, AreWordsMarked, places_from}

-- ---- words

module _ (nodes : List Node) (conditions : List Condition) where
  weaker : (at pc : ℕ) → IsWordOf nodes conditions at pc → IsWordOf nodes conditions (at + 1) pc
  weaker at pc w = record { at = w.at; node = w.node; below = let lt = w.below in omega (arith, lt); is = w.is; fails = w.fails; word = w.word }

  pub words_none : (old : List Bool) → AreWordsMarked nodes conditions 0 old old
  words_none old =
      record {
        same = refl;
        exact = λ pc. (λ h. inl h, λ h. ⊎_elim (λ o. o) (λ w. absurd (let lt = w.below in omega (arith, lt))) h);
      }

  pub words_marked : (at : ℕ) (n : Node) (old mid : List Bool) → slice_get nodes at ≡ Some n → is_discharged (condition_at conditions at) ≡ false → n.key.pc < length mid
      → AreWordsMarked nodes conditions at old mid → AreWordsMarked nodes conditions (at + 1) old (set mid n.key.pc true)
  words_marked at n old mid is fails lt m = record { same = length-set mid n.key.pc true ∙ m.same; exact = λ pc. (down pc, up pc) }
    where
      on_here : (pc : ℕ) → pc ≡ n.key.pc → is_on (set mid n.key.pc true) pc ≡ true
      on_here pc e = subst (λ x. is_on (set mid n.key.pc true) x ≡ true) (sym e) (get_or-set_same mid n.key.pc true false lt)

      kept : (pc : ℕ) → is_on mid pc ≡ true → is_on (set mid n.key.pc true) pc ≡ true
      kept pc h = ⊎_elim (λ e. on_here pc e) (λ ne. get_or-set_other mid n.key.pc pc true false ne ∙ h) (cases_eq pc n.key.pc)

      down : (pc : ℕ) → is_on (set mid n.key.pc true) pc ≡ true → (is_on old pc ≡ true) ⊎ IsWordOf nodes conditions (at + 1) pc
      down pc h =
          ⊎_elim (λ e. inr (record { at = at; node = n; below = omega arith; is = is; fails = fails; word = sym e }))
          (λ ne. ⊎_elim (λ o. inl o) (λ w. inr (weaker at pc w)) ((m.exact pc).0 (sym (get_or-set_other mid n.key.pc pc true false ne) ∙ h)))
          (cases_eq pc n.key.pc)

      up : (pc : ℕ) → (is_on old pc ≡ true) ⊎ IsWordOf nodes conditions (at + 1) pc → is_on (set mid n.key.pc true) pc ≡ true
      up pc h = ⊎_elim (λ o. kept pc ((m.exact pc).1 (inl o))) (λ w. by w (before_or_last w.at at w.below)) h
        where
          by : (w : IsWordOf nodes conditions (at + 1) pc) → (w.at < at) ⊎ (w.at ≡ at) → is_on (set mid n.key.pc true) pc ≡ true
          by w (inl l) = kept pc ((m.exact pc).1 (inr (record { at = w.at; node = w.node; below = l; is = w.is; fails = w.fails; word = w.word })))
          by w (inr e) =
              let one : w.node ≡ n = one_at nodes at w.node n (subst (λ k. slice_get nodes k ≡ Some w.node) e w.is) is in
              on_here pc (sym w.word ∙ ap (λ (x : Node). x.key.pc) one)

  pub words_passed : (at : ℕ) (old mid : List Bool) → is_discharged (condition_at conditions at) ≡ true → AreWordsMarked nodes conditions at old mid → AreWordsMarked nodes conditions (at + 1) old mid
  words_passed at old mid is m = record { same = m.same; exact = λ pc. (λ h. ⊎_elim (λ o. inl o) (λ w. inr (weaker at pc w)) ((m.exact pc).0 h), up pc) }
    where
      up : (pc : ℕ) → (is_on old pc ≡ true) ⊎ IsWordOf nodes conditions (at + 1) pc → is_on mid pc ≡ true
      up pc h = ⊎_elim (λ o. (m.exact pc).1 (inl o)) (λ w. by w (before_or_last w.at at w.below)) h
        where
          by : (w : IsWordOf nodes conditions (at + 1) pc) → (w.at < at) ⊎ (w.at ≡ at) → is_on mid pc ≡ true
          by w (inl l) = (m.exact pc).1 (inr (record { at = w.at; node = w.node; below = l; is = w.is; fails = w.fails; word = w.word }))
          by w (inr e) = absurd (let no : true ≡ false = sym is ∙ (ap (λ k. is_discharged (condition_at conditions k)) (sym e) ∙ w.fails) in cc)

-- ---- the numbers of what is marked

pub placed : (n : ℕ) (marks : List Bool) (x : ℕ) → Contains (places_from n marks) x → (i : ℕ) × ((x ≡ n + i) × (is_on marks i ≡ true))
placed n [] x h = absurd (none_in x h)
placed n (true ∷ marks) x h =
    ⊎_elim (λ e. (0, (let same = e in omega (arith, same), refl)))
    (λ i. let w = placed (n + 1) marks x i in (suc w.0, (let e = w.1.0 in omega (arith, e), w.1.1))) (first_or_further n x (places_from (n + 1) marks) h)
placed n (false ∷ marks) x h = let w = placed (n + 1) marks x h in (suc w.0, (let e = w.1.0 in omega (arith, e), w.1.1))

pub placing : (n : ℕ) (marks : List Bool) (i : ℕ) → is_on marks i ≡ true → Contains (places_from n marks) (n + i)
placing n [] i e = absurd (let no : false ≡ true = e in cc)
placing n (true ∷ marks) zero e = subst (Contains (n ∷ places_from (n + 1) marks)) (let same : n ≡ n + 0 = omega arith in same) (first_in n (places_from (n + 1) marks))
placing n (false ∷ marks) zero e = absurd (let no : false ≡ true = e in cc)
placing n (true ∷ marks) (suc i) e =
    further_in n (n + suc i) (places_from (n + 1) marks)
    (subst (Contains (places_from (n + 1) marks)) (let same : n + 1 + i ≡ n + suc i = omega arith in same) (placing (n + 1) marks i e))
placing n (false ∷ marks) (suc i) e = subst (Contains (places_from (n + 1) marks)) (let same : n + 1 + i ≡ n + suc i = omega arith in same) (placing (n + 1) marks i e)

all_by : (P : ℕ → Type 0) (xs : List ℕ) → ((x : ℕ) → Contains xs x → P x) → AllByRecursion P xs
all_by P [] h = tt
all_by P (x ∷ xs) h = (h x (first_in x xs), all_by P xs (λ y i. h y (further_in x y xs i)))

less : (x y : ℕ) → x < y → nat_cmp x y ≡ Less
less x y h = grind (arith, nat_tests)

pub ascending : (n : ℕ) (marks : List Bool) → IsStrictlySortedBy nat_cmp (places_from n marks)
unfolding IsStrictlySortedBy
ascending n [] = tt
ascending n (true ∷ marks) = (
  all_by (λ y. nat_cmp n y ≡ Less) (places_from (n + 1) marks) (λ y h. let w = placed (n + 1) marks y h in less n y (let e = w.1.0 in omega (arith, e))),
  ascending (n + 1) marks,
)
ascending n (false ∷ marks) = ascending (n + 1) marks

-- ---- the word of a node that is there

pub word_within : (nodes : List Node) → AreOfSomeDevice nodes → (at : ℕ) (k : NodeKey) → option_map key_of (slice_get nodes at) ≡ Some k → (marks : List Bool) → length marks ≡ WORDS
    → k.pc < length marks
word_within nodes shown at k e marks size = by (slice_get nodes at) refl e
  where
    by : (o : Option Node) → slice_get nodes at ≡ o → option_map key_of o ≡ Some k → k.pc < length marks
    by None is h = absurd (none-some k h)
    by (Some n) is h =
        let word = (shown.1.all n (contained_at nodes at n is)).word in
        let same : n.key.pc ≡ k.pc = ap (λ (x : NodeKey). x.pc) (same_Some n.key k h) in
        omega (arith, word, same, size, devices_are_alike.most_limit shown.0)
