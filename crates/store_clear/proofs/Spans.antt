-- The numbers of a pointer.
use Rattle.std.proofs.Common.{◌≡◌, refl, sym, ap, ◌∙◌, subst, ℕ, ◌+◌, ◌*◌, ◌/◌, ◌<◌, ◌≤◌, ◌⊎◌, inl, inr, ⊎_elim, ◌==◌, min, max, Bool, true, false, not, nat_le, List, length, replicate, Option, Some, None, slice_get, Contains, eqb-true, arith}
use Rattle.std.proofs.lemmas.Bool.{cases_lt, and_parts, and_from}
use Rattle.std.proofs.lemmas.List.{get_or-replicate, length-replicate}
use Rattle.std.proofs.lemmas.Option.{same_Some, slice_get_within}
use Rattle.basics.specs.Booleans.{never_both, left_of_and, right_of_and}
use Rattle.basics.specs.Items.{contained_at, place_of_contained}
use Rattle.basics.specs.Lists.{one_at}
use Rattle.basics.specs.Numbers.{before_or_last, equals_itself, at_most_from_test, test_from_at_most}
use Rattle.avr_model.specs.declared.instruction.Instr.{Instr}
use Rattle.avr_model.specs.Sites.{instruction_at}
use Rattle.avr_model.specs.State.{high}
use Rattle.pair_domain.specs.declared.facts.PairFacts.{PairFacts}
use Rattle.abs_state.specs.declared.state.AbsState.{AbsState}
use Rattle.local_rules.specs.declared.local.Node.{Node}
use Rattle.local_rules.specs.Permitted.{may_be, is_between, is_in_interval, permits_bytes, permits_number}
use Rattle.local_rules.specs.Registers.{value}
use Rattle.local_rules.specs.Site.{Task}
use Rattle.edge_rules.specs.Families.{RankedFamily}
use Rattle.clear_laws.specs.declared.slots.Condition.{Condition}
use Rattle.clear_laws.specs.declared.slots.Condition.TheVariants.{Always, Never}
use Rattle.clear_laws.specs.declared.stores.PointerNumbers.{PointerNumbers}
use Rattle.clear_laws.specs.declared.stores.PointerPair.{PointerPair}
use Rattle.clear_laws.specs.declared.stores.Span.{Span}
use Rattle.clear_laws.specs.Pointers.{pointer_of, low_register, MayHoldNumber, IsPointerAt}
use Rattle.store_clear.specs.ByWord.{IsNextAsk}
use Rattle.store_clear.specs.Causing.{is_unclear_at}
use Rattle.store_clear.specs.Conditions.{condition_at, is_discharged}
use Rattle.store_clear.specs.Pointers.{FailsBetween, IsFirstOf, IsLastOf, IsFirstIn, IsLastIn, ends_of, is_page_met, IsSpanOf, around, MayHold, AreAllNever, HoldsBelow}
use Rattle.store_clear.proofs.Linked.{skipped, reached}

-- ---- the numbers with one high byte

false_from_never : (b : Bool) → (b ≡ true → ⊥) → b ≡ false
false_from_never true h = absurd (h refl)
false_from_never false h = refl

-- the interval of a pair, of all numbers of 16 bits if pairs aren't followed
follows : (facts : Option PairFacts) (r p : ℕ) → p < 65536 → is_in_interval facts r p ≡ is_between (ends_of facts r).low (ends_of facts r).high p
follows None r p small =
    sym (and_from (nat_le 0 p) (nat_le p 65535) (test_from_at_most 0 p (omega arith)) (test_from_at_most p 65535 (omega (arith, small))))
follows (Some f) r p small = refl

high_is : (page n : ℕ) → 256 * page ≤ n → n < 256 * page + 256 → high n ≡ page
high_is page n le lt = omega (arith, le, lt)

module _ (s : AbsState) (r page : ℕ) where
  high_met : (n : ℕ) → permits_number s r n ≡ true → may_be (value s (r + 1)) (high n) ≡ true
  high_met n h = right_of_and _ _ (left_of_and (permits_bytes s r n) (is_in_interval s.facts r n) h)

  abbrev first : ℕ
  first = (ends_of s.facts r).low

  abbrev last : ℕ
  last = (ends_of s.facts r).high

  -- a number with this high byte is impossible if the byte is, or if the interval has none
  pub page_out : page < 256 → is_page_met s r page ≡ false → FailsBetween (permits_number s r) (256 * page) (256 * page + 256)
  page_out small out n le lt =
      false_from_never (permits_number s r n)
      (λ h.
      let byte : may_be (value s (r + 1)) page ≡ true = subst (λ b. may_be (value s (r + 1)) b ≡ true) (high_is page n le lt) (high_met n h) in
      let inside : is_between first last n ≡ true = sym (follows s.facts r n (omega (arith, lt, small))) ∙ right_of_and (permits_bytes s r n) (is_in_interval s.facts r n) h in
      let ends = and_parts (nat_le first n) (nat_le n last) inside in
      let above : first ≤ n = at_most_from_test first n ends.0 in
      let below : n ≤ last = at_most_from_test n last ends.1 in
      let least : first / 256 ≤ page = omega (arith, above, lt) in
      let most : page ≤ last / 256 = omega (arith, below, le) in
      never_both (is_page_met s r page)
      (and_from _ _ byte (and_from _ _ (test_from_at_most (first / 256) page least) (test_from_at_most page (last / 256) most))) out)

-- ---- the least and the greatest

module _ (p : ℕ → Bool) where
  pub fails_none : (low high : ℕ) → high ≤ low → FailsBetween p low high
  fails_none low high none n le lt = absurd (omega (arith, none, le, lt))

  -- fewer numbers
  pub fails_less : (low high start end : ℕ) → low ≤ start → end ≤ high → FailsBetween p low high → FailsBetween p start end
  fails_less low high start end over under so n le lt = so n (omega (arith, over, le)) (omega (arith, under, lt))

  -- one number more, above or below
  pub fails_up : (low at next : ℕ) → next ≤ at + 1 → FailsBetween p low at → p at ≡ false → FailsBetween p low next
  fails_up low at next one so fails n le lt =
      ⊎_elim (λ (less : n < at). so n le less) (λ (more : at ≤ n). ap p (let e : n ≡ at = omega (arith, one, lt, more) in e) ∙ fails) (cases_lt n at)

  pub fails_down : (at next high : ℕ) → next ≤ at + 1 → FailsBetween p next high → p at ≡ false → FailsBetween p at high
  fails_down at next high one so fails n le lt =
      ⊎_elim (λ (above : at < n). so n (omega (arith, above, one)) lt) (λ (same : n ≤ at). ap p (let e : n ≡ at = omega (arith, same, le) in e) ∙ fails) (cases_lt at n)

  pub first_here : (low high end at : ℕ) → low ≤ at → at < high → at ≤ end → FailsBetween p low end → p at ≡ true → IsFirstOf p low high at
  first_here low high end at above below so none is =
      record { above = above; below = below; passes = is; none = fails_less low end low at (omega arith) so none }

  pub last_here : (low high start at : ℕ) → low ≤ at → at < high → start ≤ at + 1 → FailsBetween p start high → p at ≡ true → IsLastOf p low high at
  last_here low high start at above below so none is =
      record { above = above; below = below; passes = is; none = fails_less start high (at + 1) high so (omega arith) none }

  pub first_none : (low high : ℕ) (o : Option ℕ) → IsFirstIn p low high o → ((x : ℕ) → o ≡ Some x → ⊥) → FailsBetween p low high
  first_none low high None h absent = h
  first_none low high (Some x) h absent = absurd (absent x refl)

  pub last_none : (low high : ℕ) (o : Option ℕ) → IsLastIn p low high o → ((x : ℕ) → o ≡ Some x → ⊥) → FailsBetween p low high
  last_none low high None h absent = h
  last_none low high (Some x) h absent = absurd (absent x refl)

  pub fails_both : (low mid high : ℕ) → FailsBetween p low mid → FailsBetween p mid high → FailsBetween p low high
  fails_both low mid high a b n le lt = ⊎_elim (λ less. a n le less) (λ more. b n more lt) (cases_lt n mid)

  pub first_further : (low mid high end at : ℕ) → low ≤ mid → high ≤ end → FailsBetween p low mid → IsFirstOf p mid high at → IsFirstOf p low end at
  first_further low mid high end at le under so f =
      record {
        above = let a = f.above in omega (arith, a, le);
        below = let b = f.below in omega (arith, b, under);
        passes = f.passes;
        none = fails_both low mid at so f.none;
      }

  pub last_further : (start low mid high at : ℕ) → start ≤ low → mid ≤ high → FailsBetween p mid high → IsLastOf p low mid at → IsLastOf p start high at
  last_further start low mid high at over le so f =
      record {
        above = let a = f.above in omega (arith, a, over);
        below = let b = f.below in omega (arith, b, le);
        passes = f.passes;
        none = fails_both (at + 1) mid high f.none so;
      }

-- ---- spans

pub span_none : (s : AbsState) (r : ℕ) → FailsBetween (permits_number s r) 0 65536 → IsSpanOf (MayHold s r) None
span_none s r fails n h = never_both (permits_number s r n) h.1 (fails n (omega arith) h.0)

pub span_found : (s : AbsState) (r : ℕ) (span : Span) → IsFirstOf (permits_number s r) 0 65536 span.first → IsLastOf (permits_number s r) 0 65536 span.last
    → IsSpanOf (MayHold s r) (Some span)
span_found s r span f l =
    record {
      first = (f.below, f.passes);
      last = (l.below, l.passes);
      least = λ n h. ⊎_elim (λ (less : n < span.first). absurd (never_both (permits_number s r n) h.1 (f.none n (omega arith) less))) (λ le. le) (cases_lt n span.first);
      greatest = λ n h. ⊎_elim (λ (more : span.last < n). absurd (never_both (permits_number s r n) h.1 (l.none n (omega (arith, more)) h.0))) (λ le. le) (cases_lt span.last n);
    }

module _ (P Q : ℕ → Type 0) (to : (n : ℕ) → P n → Q n) (from : (n : ℕ) → Q n → P n) where
  pub span_as : (o : Option Span) → IsSpanOf P o → IsSpanOf Q o
  span_as None h = λ n q. h n (from n q)
  span_as (Some s) h =
      record { first = to s.first h.first; last = to s.last h.last; least = λ n q. h.least n (from n q); greatest = λ n q. h.greatest n (from n q) }

module _ (P Q R : ℕ → Type 0) (left : (n : ℕ) → P n → R n) (right : (n : ℕ) → Q n → R n) (split : (n : ℕ) → R n → P n ⊎ Q n) where
  least_is : (a b : ℕ) → R a → R b → R (min a b)
  least_is a b h k =
      ⊎_elim (λ (lt : a < b). subst R (let e : a ≡ min a b = omega (arith, lt) in e) h) (λ (le : b ≤ a). subst R (let e : b ≡ min a b = omega (arith, le) in e) k) (cases_lt a b)

  greatest_is : (a b : ℕ) → R a → R b → R (max a b)
  greatest_is a b h k =
      ⊎_elim (λ (lt : a < b). subst R (let e : b ≡ max a b = omega (arith, lt) in e) k) (λ (le : b ≤ a). subst R (let e : a ≡ max a b = omega (arith, le) in e) h) (cases_lt a b)

  pub span_around : (a b : Option Span) → IsSpanOf P a → IsSpanOf Q b → IsSpanOf R (around a b)
  span_around None None h k = λ n t. ⊎_elim (h n) (k n) (split n t)
  span_around None (Some b) h k =
      span_as Q R right (λ n t. ⊎_elim (λ l. absurd (h n l)) (λ q. q) (split n t)) (Some b) k
  span_around (Some a) None h k =
      span_as P R left (λ n t. ⊎_elim (λ l. l) (λ q. absurd (k n q)) (split n t)) (Some a) h
  span_around (Some a) (Some b) h k =
      record {
        first = least_is a.first b.first (left a.first h.first) (right b.first k.first);
        last = greatest_is a.last b.last (left a.last h.last) (right b.last k.last);
        least = λ n t. ⊎_elim (λ l. let le = h.least n l in let e : min a.first b.first ≤ n = omega (arith, le) in e) (λ q. let le = k.least n q in let e : min a.first b.first ≤ n = omega (arith, le) in e) (split n t);
        greatest = λ n t. ⊎_elim (λ l. let le = h.greatest n l in let e : n ≤ max a.last b.last = omega (arith, le) in e) (λ q. let le = k.greatest n q in let e : n ≤ max a.last b.last = omega (arith, le) in e) (split n t);
      }

-- ---- all nodes at a word

module _ (nodes : List Node) (conditions : List Condition) (pc r : ℕ) where
  abbrev Holds : ℕ → ℕ → Type 0
  Holds count n = HoldsBelow nodes conditions pc r count n

  pub holds_none : IsSpanOf (Holds 0) None
  holds_none n h = let lt = h.1.below in omega (arith, lt)

  module _ (at : ℕ) (m : Node) (s : AbsState) (is : slice_get nodes at ≡ Some m) (state : m.state ≡ s) (unclear : is_unclear_at pc m.key (condition_at conditions at) ≡ true) where
    before : (n : ℕ) → Holds at n → Holds (at + 1) n
    before n h =
        (h.0, record { at = h.1.at; node = h.1.node; below = let lt = h.1.below in omega (arith, lt); is = h.1.is; unclear = h.1.unclear; passes = h.1.passes })

    here : (n : ℕ) → MayHold s r n → Holds (at + 1) n
    here n h = (h.0, record { at = at; node = m; below = omega arith; is = is; unclear = unclear; passes = ap (λ (x : AbsState). permits_number x r n) state ∙ h.1 })

    either : (n : ℕ) → Holds (at + 1) n → Holds at n ⊎ MayHold s r n
    either n h =
        ⊎_elim (λ lt. inl (h.0, record { at = h.1.at; node = h.1.node; below = lt; is = h.1.is; unclear = h.1.unclear; passes = h.1.passes }))
        (λ e.
        let same : h.1.node ≡ m = one_at nodes at h.1.node m (subst (λ i. slice_get nodes i ≡ Some h.1.node) e h.1.is) is in
        inr (h.0, ap (λ (x : AbsState). permits_number x r n) (sym state) ∙ ap (λ (x : Node). permits_number x.state r n) (sym same) ∙ h.1.passes))
        (before_or_last h.1.at at h.1.below)

    pub holds_more : (old new : Option Span) → IsSpanOf (Holds at) old → IsSpanOf (MayHold s r) new → IsSpanOf (Holds (at + 1)) (around old new)
    holds_more old new h k = span_around (λ n. Holds at n) (λ n. MayHold s r n) (λ n. Holds (at + 1) n) (λ n. before n) (λ n. here n) (λ n. either n) old new h k

  -- those that come next
  pub holds_skipped : (start at : ℕ) (o : Option Span) → IsNextAsk nodes conditions pc start at → IsSpanOf (Holds start) o → IsSpanOf (Holds at) o
  holds_skipped start at o next h =
      span_as (λ n. Holds start n) (λ n. Holds at n)
      (λ n k. (k.0, reached nodes conditions pc start at next (λ (m : Node). permits_number m.state r n) k.1))
      (λ n k. (k.0, skipped nodes conditions pc start at next (λ (m : Node). permits_number m.state r n) k.1)) o h

  pub holds_all : (at : ℕ) (o : Option Span) → at ≡ length conditions → IsSpanOf (Holds at) o → IsSpanOf (Holds (length conditions)) o
  holds_all at o same h = subst (λ i. IsSpanOf (Holds i) o) same h

-- ---- the pointer

pub all_never : (nodes : List Node) (count : ℕ) (read items : List Condition) → count ≡ length nodes → items ≡ replicate count Never → read ≡ items → AreAllNever nodes read
all_never nodes count read items many are same =
    record {
      count = size ∙ many;
      never = λ at lt. ap (λ (xs : List Condition). condition_at xs at) whole ∙ get_or-replicate count at Never Always (omega (arith, size, lt));
    }
  where
    whole : read ≡ replicate count Never
    whole = same ∙ are

    size : length read ≡ count
    size = ap length whole ∙ length-replicate count Never

module _ (nodes : List Node) (conditions : List Condition) (all : AreAllNever nodes conditions) (pc : ℕ) (instr : Instr) where
  same : length conditions ≡ length nodes
  same = all.count

  -- each node at the word counts
  there : (at : ℕ) (m : Node) → slice_get nodes at ≡ Some m → m.key.pc ≡ pc → is_unclear_at pc m.key (condition_at conditions at) ≡ true
  there at m is word =
      let lt : at < length conditions = let inside = slice_get_within nodes at m is in omega (arith, inside, same) in
      and_from (not (is_discharged (condition_at conditions at))) (m.key.pc == pc)
      (ap (λ (c : Condition). not (is_discharged c)) (all.never at lt)) (ap (λ p. p == pc) word ∙ equals_itself pc)

  module _ (task : Task) (f : RankedFamily) (is : instruction_at task.flash pc ≡ Some instr) (family : f.nodes ≡ nodes) where
    pub no_pointer : pointer_of instr ≡ None → IsPointerAt task f pc None
    no_pointer none p n h =
        let e : None ≡ Some p = sym none ∙ ap pointer_of (same_Some instr h.instr (sym is ∙ h.instruction)) ∙ h.pointer in cc

    module _ (p : PointerPair) (pointer : pointer_of instr ≡ Some p) where
      onto : (n : ℕ) → HoldsBelow nodes conditions pc (low_register p) (length conditions) n → MayHoldNumber task f pc p n
      onto n h =
          let parts = and_parts (not (is_discharged (condition_at conditions h.1.at))) (h.1.node.key.pc == pc) h.1.unclear in
          record {
            node = h.1.node;
            present = subst (λ (ns : List Node). Contains ns h.1.node) (sym family) (contained_at nodes h.1.at h.1.node h.1.is);
            is = eqb-true h.1.node.key.pc pc parts.1;
            instr = instr;
            instruction = is;
            pointer = pointer;
            small = h.0;
            permits = h.1.passes;
          }

      back : (n : ℕ) → MayHoldNumber task f pc p n → HoldsBelow nodes conditions pc (low_register p) (length conditions) n
      back n h =
          let place = place_of_contained nodes h.node (subst (λ (ns : List Node). Contains ns h.node) family h.present) in (
            h.small,
            record {
              at = place.0;
              node = h.node;
              below = let inside = slice_get_within nodes place.0 h.node place.1 in omega (arith, inside, same);
              is = place.1;
              unclear = there place.0 h.node place.1 h.is;
              passes = h.permits;
            },
          )

      no_number : IsSpanOf (HoldsBelow nodes conditions pc (low_register p) (length conditions)) None → IsPointerAt task f pc None
      no_number none q n h =
          let one : q ≡ p = same_Some q p (sym h.pointer ∙ ap pointer_of (same_Some h.instr instr (sym h.instruction ∙ is)) ∙ pointer) in
          none n (back n (subst (λ (x : PointerPair). MayHoldNumber task f pc x n) one h))

      numbers_given : (span : Span) → IsSpanOf (HoldsBelow nodes conditions pc (low_register p) (length conditions)) (Some span)
          → IsPointerAt task f pc (Some (record { pair = p; numbers = span }))
      numbers_given span h =
          record {
            first = onto span.first h.first;
            last = onto span.last h.last;
            least = λ n k. h.least n (back n k);
            greatest = λ n k. h.greatest n (back n k);
          }

      module _ (r : ℕ) (o : Option Span) (same_register : r ≡ low_register p) (spans : IsSpanOf (HoldsBelow nodes conditions pc r (length conditions)) o) where
        by_pair : IsSpanOf (HoldsBelow nodes conditions pc (low_register p) (length conditions)) o
        by_pair = subst (λ x. IsSpanOf (HoldsBelow nodes conditions pc x (length conditions)) o) same_register spans

        pub pointer_missing : (result : Option PointerNumbers) → o ≡ None → result ≡ None → IsPointerAt task f pc result
        pointer_missing result none is_none =
            subst (λ (x : Option PointerNumbers). IsPointerAt task f pc x) (sym is_none)
            (no_number (subst (λ (x : Option Span). IsSpanOf (HoldsBelow nodes conditions pc (low_register p) (length conditions)) x) none by_pair))

        pub pointer_found : (span : Span) → o ≡ Some span → IsPointerAt task f pc (Some (record { pair = p; numbers = span }))
        pointer_found span found =
            numbers_given span (subst (λ (x : Option Span). IsSpanOf (HoldsBelow nodes conditions pc (low_register p) (length conditions)) x) found by_pair)
