-- The nodes that aren't clear, linked by their words.
use Rattle.std.proofs.Common.{◌≡◌, sym, ap, ◌∙◌, subst, ℕ, ◌+◌, ◌<◌, ◌≤◌, ⊎_elim, ◌==◌, Bool, true, false, not, List, length, get_or, set, replicate, get_or-set_other, get_or-set_same, Some, slice_get, eqb-true, arith}
use Rattle.std.proofs.lemmas.Bool.{cases_eq, cases_lt, and_parts, and_from, not-true}
use Rattle.std.proofs.lemmas.Grind.{get_or_default_zero}
use Rattle.std.proofs.lemmas.List.{length-set, get_or-replicate}
use Rattle.std.proofs.lemmas.Option.{slice_get_within}
use Rattle.basics.specs.Booleans.{never_both}
use Rattle.basics.specs.Items.{contained_at}
use Rattle.basics.specs.Lists.{one_at}
use Rattle.basics.specs.Numbers.{equals_itself}
use Rattle.avr_model.proofs.AllLaws.{devices_are_alike}
use Rattle.avr_model.specs.Image.{WORDS}
use Rattle.node_keys.specs.declared.keys.NodeKey.{NodeKey}
use Rattle.local_rules.specs.declared.local.Node.{Node}
use Rattle.family_edges.specs.Shown.{AreOfSomeDevice}
use Rattle.certificate.specs.Claims.{Claim}
use Rattle.certificate.specs.Valid.{family_of}
use Rattle.clear_laws.specs.Clear.{MayBeFlagged}
use Rattle.clear_laws.specs.declared.slots.Condition.{Condition}
use Rattle.store_clear.specs.Conditions.{condition_at, is_discharged}
use Rattle.store_clear.specs.Causing.{is_unclear_at, PassesBelow}
use Rattle.store_clear.specs.ByWord.{IsNextAsk, AreLinked, IsAskChain, IsOnChain}
use Rattle.local_rules.specs.Site.{Task}

passing_clear : (pc : ℕ) (k : NodeKey) (a : Condition) → is_discharged a ≡ true → is_unclear_at pc k a ≡ true → ⊥
passing_clear pc k a p u = never_both (is_discharged a) p (not-true (is_discharged a) (and_parts (not (is_discharged a)) (k.pc == pc) u).0)

-- a list of one number alone
pub each_alone : (many x : ℕ) (old first : List ℕ) → old ≡ replicate many x → first ≡ old → (at : ℕ) → at < many → get_or first at 0 ≡ x
each_alone many x old first are begins at lt = ap (λ (xs : List ℕ). get_or xs at 0) (begins ∙ are) ∙ get_or-replicate many at x 0 lt

module _ (nodes : List Node) (conditions : List Condition) where
  -- ---- as they are linked

  pub linked_none : (first later : List ℕ) → length conditions ≡ length nodes → length first ≡ WORDS → length later ≡ length conditions → ((pc : ℕ) → pc < WORDS → get_or first pc 0 ≡ length conditions)
      → AreLinked nodes conditions (length conditions) first later
  linked_none first later same words each none =
      record {
        inside = omega arith;
        words = words;
        each = each;
        first_is = λ pc lt. subst (IsNextAsk nodes conditions pc (length conditions)) (sym (none pc lt)) (none_further pc);
        later_is = λ i n le e fails. absurd (let inside = slice_get_within nodes i n e in omega (arith, inside, le, same));
      }
    where
      none_further : (pc : ℕ) → IsNextAsk nodes conditions pc (length conditions) (length conditions)
      none_further pc =
          record {
            beyond = omega arith;
            within = omega arith;
            is = λ n e. absurd (let inside = slice_get_within nodes (length conditions) n e in omega (arith, inside, same));
            none = λ i n le lt e u. omega (arith, le, lt);
          }

  module _ (at : ℕ) (n : Node) (is : slice_get nodes at ≡ Some n) where
    here : (i : ℕ) (m : Node) → i ≡ at → slice_get nodes i ≡ Some m → m ≡ n
    here i m same e = one_at nodes at m n (subst (λ k. slice_get nodes k ≡ Some m) same e) is

    -- a node is put before the others that isn't one of the word's
    next_before : (pc p : ℕ) → (is_unclear_at pc n.key (condition_at conditions at) ≡ true → ⊥) → IsNextAsk nodes conditions pc (at + 1) p → IsNextAsk nodes conditions pc at p
    next_before pc p differs next =
        record {
          beyond = let b = next.beyond in omega (arith, b);
          within = next.within;
          is = next.is;
          none = λ i m le lt e u. ⊎_elim (λ (further : at < i). next.none i m (omega (arith, further)) lt e u) (λ (last : i ≤ at). not_here i m (omega (arith, le, last)) e u) (cases_lt at i);
        }
      where
        not_here : (i : ℕ) (m : Node) → i ≡ at → slice_get nodes i ≡ Some m → is_unclear_at pc m.key (condition_at conditions i) ≡ true → ⊥
        not_here i m same e u =
            differs
            (subst (λ (x : Node). is_unclear_at pc x.key (condition_at conditions at) ≡ true) (here i m same e)
            (subst (λ k. is_unclear_at pc m.key (condition_at conditions k) ≡ true) same u))

    module _ (first later : List ℕ) (l : AreLinked nodes conditions (at + 1) first later) where
      pub linked_passed : is_discharged (condition_at conditions at) ≡ true → AreLinked nodes conditions at first later
      linked_passed clear =
          record {
            inside = let b = l.inside in omega (arith, b);
            words = l.words;
            each = l.each;
            first_is = λ pc lt. next_before pc (get_or first pc 0) (passing_clear pc n.key (condition_at conditions at) clear) (l.first_is pc lt);
            later_is = λ i m le e fails. ⊎_elim (λ (further : at < i). l.later_is i m (omega (arith, further)) e fails)
                (λ (last : i ≤ at). absurd (never_both (is_discharged (condition_at conditions at)) clear (subst (λ k. is_discharged (condition_at conditions k) ≡ false) (omega (arith, le, last)) fails))) (cases_lt at i);
          }

      module _ (fails : is_discharged (condition_at conditions at) ≡ false) (word : n.key.pc < WORDS) (below : at < length conditions) where
        abbrev value : ℕ
        value = get_or first n.key.pc 0

        unclear : is_unclear_at n.key.pc n.key (condition_at conditions at) ≡ true
        unclear = and_from (not (is_discharged (condition_at conditions at))) (n.key.pc == n.key.pc) (ap not fails) (equals_itself n.key.pc)

        now_first : IsNextAsk nodes conditions n.key.pc at at
        now_first =
            record {
              beyond = omega arith;
              within = omega (arith, below);
              is = λ m e. subst (λ (x : Node). is_unclear_at n.key.pc x.key (condition_at conditions at) ≡ true) (sym (one_at nodes at m n e is)) unclear;
              none = λ i m le lt e u. omega (arith, le, lt);
            }

        first_same : (pc : ℕ) → pc ≡ n.key.pc → IsNextAsk nodes conditions pc at (get_or (set first n.key.pc at) pc 0)
        first_same pc e =
            subst (λ w. IsNextAsk nodes conditions w at (get_or (set first n.key.pc at) w 0)) (sym e)
            (subst (IsNextAsk nodes conditions n.key.pc at) (sym (get_or-set_same first n.key.pc at 0 (let size = l.words in omega (arith, word, size)))) now_first)

        first_other : (pc : ℕ) → pc < WORDS → (pc ≡ n.key.pc → ⊥) → IsNextAsk nodes conditions pc at (get_or (set first n.key.pc at) pc 0)
        first_other pc lt ne =
            subst (IsNextAsk nodes conditions pc at) (sym (get_or-set_other first n.key.pc pc at 0 ne))
            (next_before pc (get_or first pc 0) (λ u. ne (sym (eqb-true n.key.pc pc (and_parts (not (is_discharged (condition_at conditions at))) (n.key.pc == pc) u).1))) (l.first_is pc lt))

        later_same : (i : ℕ) (m : Node) → i ≡ at → slice_get nodes i ≡ Some m → IsNextAsk nodes conditions m.key.pc (i + 1) (get_or (set later at value) i 0)
        later_same i m same e =
            subst (λ k. IsNextAsk nodes conditions m.key.pc (k + 1) (get_or (set later at value) k 0)) (sym same)
            (subst (λ (x : Node). IsNextAsk nodes conditions x.key.pc (at + 1) (get_or (set later at value) at 0)) (sym (here i m same e))
            (subst (IsNextAsk nodes conditions n.key.pc (at + 1)) (sym (get_or-set_same later at value 0 (let size = l.each in omega (arith, below, size)))) (l.first_is n.key.pc word)))

        later_other : (i : ℕ) (m : Node) → at < i → slice_get nodes i ≡ Some m → is_discharged (condition_at conditions i) ≡ false → IsNextAsk nodes conditions m.key.pc (i + 1) (get_or (set later at value) i 0)
        later_other i m further e too =
            subst (IsNextAsk nodes conditions m.key.pc (i + 1)) (sym (get_or-set_other later at i value 0 (λ same. omega (arith, same, further))))
            (l.later_is i m (omega (arith, further)) e too)

        pub linked_here : AreLinked nodes conditions at (set first n.key.pc at) (set later at value)
        linked_here =
            record {
              inside = omega (arith, below);
              words = length-set first n.key.pc at ∙ l.words;
              each = length-set later at value ∙ l.each;
              first_is = λ pc lt. ⊎_elim (first_same pc) (first_other pc lt) (cases_eq pc n.key.pc);
              later_is = λ i m le e too. ⊎_elim (λ (further : at < i). later_other i m further e too) (λ (last : i ≤ at). later_same i m (omega (arith, le, last)) e) (cases_lt at i);
            }

  -- ---- as they are followed

  chain_of : (pc : ℕ) (first later : List ℕ) → pc < WORDS → AreLinked nodes conditions 0 first later → IsAskChain nodes conditions pc (get_or first pc 0) later
  chain_of pc first later lt l =
      record {
        each = l.each;
        first_is = l.first_is pc lt;
        later_is = λ i n e u.
            let parts = and_parts (not (is_discharged (condition_at conditions i))) (n.key.pc == pc) u in
            subst (λ w. IsNextAsk nodes conditions w (i + 1) (get_or later i 0)) (eqb-true n.key.pc pc parts.1)
            (l.later_is i n (omega arith) e (not-true (is_discharged (condition_at conditions i)) parts.0));
      }

  -- as it is read
  pub chain_read : (pc at value : ℕ) (first later read : List ℕ) → pc < WORDS → AreLinked nodes conditions 0 first later → at ≡ pc → value ≡ get_or first at value → read ≡ later → IsAskChain nodes conditions pc value read
  chain_read pc at value first later read lt l same is whole =
      subst (λ v. IsAskChain nodes conditions pc v read) (sym (is ∙ ap (λ k. get_or first k value) same ∙ get_or_default_zero first pc value (let size = l.words in omega (arith, lt, size))))
      (subst (IsAskChain nodes conditions pc (get_or first pc 0)) (sym whole) (chain_of pc first later lt l))

  module _ (pc start at : ℕ) (next : IsNextAsk nodes conditions pc start at) where
    pub on_chain : IsOnChain nodes conditions pc at
    on_chain = record { within = next.within; is = next.is }

    -- one that passes a test before this one is there before that number
    pub skipped : (test : Node → Bool) → PassesBelow nodes conditions pc test at → PassesBelow nodes conditions pc test start
    skipped test t =
        ⊎_elim (λ lt. record { at = t.at; node = t.node; below = lt; is = t.is; unclear = t.unclear; passes = t.passes })
        (λ le. absurd (next.none t.at t.node le t.below t.is t.unclear)) (cases_lt t.at start)

    pub reached : (test : Node → Bool) → PassesBelow nodes conditions pc test start → PassesBelow nodes conditions pc test at
    reached test t =
        record {
          at = t.at;
          node = t.node;
          below = let lt = t.below in let b = next.beyond in omega (arith, lt, b);
          is = t.is;
          unclear = t.unclear;
          passes = t.passes;
        }

-- the word of a node
pub word_small : (nodes : List Node) → AreOfSomeDevice nodes → (at : ℕ) (n : Node) → slice_get nodes at ≡ Some n → n.key.pc < WORDS
word_small nodes shown at n is = let word = (shown.1.all n (contained_at nodes at n is)).word in omega (arith, word, devices_are_alike.most_limit shown.0)

-- the word of a node that may flag a step
pub word_of_flagged : (task : Task) (c : Claim) (nodes : List Node) (pc : ℕ) → AreOfSomeDevice nodes → MayBeFlagged task (family_of c nodes) pc → pc < WORDS
word_of_flagged task c nodes pc shown m =
    let word = (shown.1.all m.node m.present).word in subst (λ w. w < WORDS) m.is (omega (arith, word, devices_are_alike.most_limit shown.0))
