-- Causes at a word, node by node.
use Rattle.std.proofs.Common.{◌≡◌, refl, sym, ap, ap₂, ◌∙◌, subst, ℕ, ◌+◌, ◌<◌, ◌⊎◌, inl, inr, ⊎_elim, ◌==◌, ◌||◌, Bool, true, false, not, List, [], ◌∷◌, ◌++◌, length, take, get_or, set, replicate, Option, Some, None, slice_get, Contains, eqb-true, arith}
use Rattle.std.specs.Prelude.{◌↔◌}
use Rattle.std.specs.List.Sorted.{IsStrictlySortedBy}
use Rattle.std.specs.Ordering.{nat_cmp}
use Rattle.std.proofs.lemmas.Bool.{and_parts, and_from, not-true}
use Rattle.std.proofs.lemmas.List.Elements.{Contains-push_cases}
use Rattle.std.proofs.lemmas.List.{map-append, take_more}
use Rattle.std.proofs.lemmas.Option.{same_Some, slice_get_within}
use Rattle.basics.specs.Booleans.{never_both, not_from_never, left_of_and}
use Rattle.basics.specs.Items.{none_in, place_of_contained, contained_at}
use Rattle.basics.specs.Lists.{one_at}
use Rattle.basics.specs.Numbers.{before_or_last, equals_itself}
use Rattle.store_clear.proofs.Marks.{none_on}
use Rattle.avr_model.specs.declared.instruction.Instr.{Instr}
use Rattle.avr_model.specs.Sites.{instruction_at}
use Rattle.avr_model.specs.Step.{is_indirect, is_call}
use Rattle.avr_model.specs.Devices.{guarded_end, device_of}
use Rattle.abs_state.specs.declared.state.AbsState.{AbsState}
use Rattle.node_keys.specs.declared.keys.NodeKey.{NodeKey}
use Rattle.local_rules.specs.declared.local.Node.{Node}
use Rattle.edge_rules.specs.Families.{RankedFamily}
use Rattle.edge_laws.proofs.ExpansionLaws.{filled_or_missing}
use Rattle.certificate.specs.Claims.{Claim}
use Rattle.certificate.specs.Valid.{family_of}
use Rattle.clear_laws.specs.Clear.{IsClear, MayBeFlagged, is_transfer_listed, calls_cut, may_move, is_flagged_address}
use Rattle.clear_laws.specs.Causes.{may_write_protected, may_write_live, IsCause}
use Rattle.clear_laws.proofs.AllLaws.{not_listed, unlisted_goes, flagged_within}
use Rattle.clear_laws.specs.Reach.{is_on}
use Rattle.clear_laws.specs.declared.slots.Condition.{Condition}
use Rattle.clear_laws.specs.declared.place.FlaggedPlace.{FlaggedPlace}
use Rattle.clear_laws.specs.declared.stores.PointerNumbers.{PointerNumbers}
use Rattle.clear_laws.specs.Places.{word_of, IsPlaceOf, ArePlaces}
use Rattle.clear_laws.specs.Verdict.{AreSites}
use Rattle.store_clear.specs.Conditions.{condition_at, is_discharged, HasConditionsLeft, places_of}
use Rattle.store_clear.specs.Pointers.{IsPointerOf}
use Rattle.store_clear.specs.Takes.{AreMarkedBeside}
use Rattle.store_clear.specs.Causing.{IsProtectedBelow, is_unclear_at, PassesBelow, IsProtectedAt, may_happen, HappensAt, ArePlacesOf}
use Rattle.store_clear.specs.declared.causes.Other.{Other}
use Rattle.store_clear.specs.declared.causes.Other.TheVariants.{Live, Moves}
use Rattle.store_clear.specs.ByWord.{IsNextAsk}
use Rattle.store_clear.proofs.Marked.{placed, placing, ascending}
use Rattle.store_clear.proofs.Linked.{skipped, reached}
use Rattle.store_clear.proofs.Taken.{marks_none, marks_one, marks_both, marks_as}
use Rattle.local_rules.specs.Site.{Task}
use Rattle.clear_laws.specs.Clear.{store_at}

-- ---- the addresses of a node

module _ (task : Task) (pc : ℕ) (s : AbsState) (instr : Instr) where
  abbrev may : ℕ → Bool
  may a = may_write_protected task (store_at pc s instr) a

  abbrev This : ℕ → ℕ → Type 0
  This a x = (x ≡ a) × (may x ≡ true)

  pub addresses_none : (marks : List Bool) → AreMarkedBeside (IsProtectedBelow task (store_at pc s instr) 0) marks marks
  addresses_none marks = marks_none (IsProtectedBelow task (store_at pc s instr) 0) marks (λ x t. let lt = t.0 in omega (arith, lt))

  module _ (n : ℕ) (old mid : List Bool) (so : AreMarkedBeside (IsProtectedBelow task (store_at pc s instr) n) old mid) where
    with_it : (new : List Bool) → AreMarkedBeside (This n) mid new → AreMarkedBeside (IsProtectedBelow task (store_at pc s instr) (n + 1)) old new
    with_it new one =
        marks_both (IsProtectedBelow task (store_at pc s instr) n) (This n) (IsProtectedBelow task (store_at pc s instr) (n + 1)) old mid new
        (λ x t. (let below = t.0 in omega (arith, below), t.1)) (λ x t. (let same = t.0 in omega (arith, same), t.1))
        (λ x t. ⊎_elim (λ below. inl (below, t.1)) (λ e. inr (e, t.1)) (before_or_last x n t.0)) so one

    pub addresses_more : n < length mid → may n ≡ true → AreMarkedBeside (IsProtectedBelow task (store_at pc s instr) (n + 1)) old (set mid n true)
    addresses_more lt e = with_it (set mid n true) (marks_as (λ x. x ≡ n) (This n) mid _ (λ x same. (same, ap may same ∙ e)) (λ x t. t.0) (marks_one n mid lt))

    pub addresses_same : may n ≡ false → AreMarkedBeside (IsProtectedBelow task (store_at pc s instr) (n + 1)) old mid
    addresses_same e = with_it mid (marks_none (This n) mid (λ x t. never_both (may n) (ap may (sym t.0) ∙ t.1) e))

-- ---- all nodes

module _ (task : Task) (nodes : List Node) (conditions : List Condition) (pc : ℕ) (instr : Instr) where
  abbrev At : ℕ → ℕ → Type 0
  At count a = IsProtectedAt task nodes conditions pc instr count a

  -- a node with this key has a condition left and is at the word, and a store there may write this address
  abbrev From : NodeKey → AbsState → Condition → ℕ → Type 0
  From k s ask a = (is_unclear_at pc k ask ≡ true) × IsProtectedBelow task (store_at pc s instr) (guarded_end (device_of task.flash) + 1) a

  pub nodes_none : (marks : List Bool) → AreMarkedBeside (At 0) marks marks
  nodes_none marks = marks_none (At 0) marks (λ a t. let lt = t.1.below in omega (arith, lt))

  nodes_more : (at : ℕ) (n : Node) (k : NodeKey) (s : AbsState) (ask : Condition) (old mid new : List Bool) → slice_get nodes at ≡ Some n → n.key ≡ k → n.state ≡ s → condition_at conditions at ≡ ask
      → AreMarkedBeside (At at) old mid → AreMarkedBeside (From k s ask) mid new → AreMarkedBeside (At (at + 1)) old new
  nodes_more at n k s ask old mid new is key state same so one =
      marks_both (At at) (From k s ask) (At (at + 1)) old mid new
      (λ a t. (t.0, record { at = t.1.at; node = t.1.node; below = let lt = t.1.below in omega (arith, lt); is = t.1.is; unclear = t.1.unclear; passes = t.1.passes }))
      (λ a t. (t.1.0, record { at = at; node = n; below = omega arith; is = is; unclear = unclear_back t.0; passes = ap (λ (x : AbsState). may_write_protected task (store_at pc x instr) a) state ∙ t.1.1 }))
      split so one
    where
      unclear_back : is_unclear_at pc k ask ≡ true → is_unclear_at pc n.key (condition_at conditions at) ≡ true
      unclear_back h = ap (λ (x : NodeKey). is_unclear_at pc x (condition_at conditions at)) key ∙ ap (is_unclear_at pc k) same ∙ h

      here : (t : ℕ) (m : Node) → t ≡ at → slice_get nodes t ≡ Some m → m ≡ n
      here t m e read = one_at nodes at m n (subst (λ i. slice_get nodes i ≡ Some m) e read) is

      split : (a : ℕ) → At (at + 1) a → At at a ⊎ From k s ask a
      split a t =
          ⊎_elim (λ lt. inl (t.0, record { at = t.1.at; node = t.1.node; below = lt; is = t.1.is; unclear = t.1.unclear; passes = t.1.passes }))
          (λ e.
          let m = here t.1.at t.1.node e t.1.is in
          inr (
            sym (ap (λ (x : NodeKey). is_unclear_at pc x (condition_at conditions at)) key ∙ ap (is_unclear_at pc k) same)
                ∙ ap (λ (x : Node). is_unclear_at pc x.key (condition_at conditions at)) (sym m) ∙ ap (λ i. is_unclear_at pc t.1.node.key (condition_at conditions i)) (sym e) ∙ t.1.unclear,
            (t.0, ap (λ (x : AbsState). may_write_protected task (store_at pc x instr) a) (sym state) ∙ ap (λ (x : Node). may_write_protected task (store_at pc x.state instr) a) (sym m) ∙ t.1.passes),
          ))
          (before_or_last t.1.at at t.1.below)

  module _ (at : ℕ) (n : Node) (k : NodeKey) (s : AbsState) (ask : Condition) (old mid : List Bool) (is : slice_get nodes at ≡ Some n) (key : n.key ≡ k) (state : n.state ≡ s)
      (same : condition_at conditions at ≡ ask) (so : AreMarkedBeside (At at) old mid) where
    pub nodes_marked : (new : List Bool) → is_unclear_at pc k ask ≡ true → AreMarkedBeside (IsProtectedBelow task (store_at pc s instr) (guarded_end (device_of task.flash) + 1)) mid new → AreMarkedBeside (At (at + 1)) old new
    nodes_marked new e one =
        nodes_more at n k s ask old mid new is key state same so
        (marks_as (IsProtectedBelow task (store_at pc s instr) (guarded_end (device_of task.flash) + 1)) (From k s ask) mid new (λ a t. (e, t)) (λ a t. t.1) one)

  -- those that come next
  pub nodes_skipped : (start at : ℕ) (old new : List Bool) → IsNextAsk nodes conditions pc start at → AreMarkedBeside (At start) old new → AreMarkedBeside (At at) old new
  nodes_skipped start at old new next so =
      marks_as (At start) (At at) old new (λ a t. (t.0, reached nodes conditions pc start at next (λ (n : Node). may_write_protected task (store_at pc n.state instr) a) t.1))
      (λ a t. (t.0, skipped nodes conditions pc start at next (λ (n : Node). may_write_protected task (store_at pc n.state instr) a) t.1)) so

-- ---- the list

-- the marks, if there were none before
module _ (P : ℕ → Type 0) (old new : List Bool) (many : ℕ) (none : old ≡ replicate many false) (marked : AreMarkedBeside P old new) where
  pub marked_are : (a : ℕ) → Contains (places_of new) a ↔ P a
  marked_are a = (down, up)
    where
      down : Contains (places_of new) a → P a
      down h =
          let p = placed 0 new a h in
          let on : is_on new a ≡ true = subst (λ x. is_on new x ≡ true) (let e = p.1.0 in omega (arith, e)) p.1.1 in
          ⊎_elim (λ o. absurd (never_both (is_on old a) o (ap (λ (bs : List Bool). is_on bs a) none ∙ none_on many a))) (λ q. q) ((marked.exact a).0 on)

      up : P a → Contains (places_of new) a
      up q = subst (Contains (places_of new)) (let same : 0 + a ≡ a = omega arith in same) (placing 0 new a ((marked.exact a).1 (inr q)))

pub members_given : (P : ℕ → Type 0) (old first new last : List Bool) (many : ℕ) (list : List ℕ) → old ≡ replicate many false → first ≡ old → AreMarkedBeside P first new → last ≡ new
    → list ≡ places_of last → (a : ℕ) → Contains list a ↔ P a
members_given P old first new last many list none begins marked ends are a =
    subst (λ (xs : List ℕ). Contains xs a ↔ P a) (sym (are ∙ ap places_of ends)) (marked_are P first new many (begins ∙ none) marked a)

pub ascending_given : (list : List ℕ) (last : List Bool) → list ≡ places_of last → IsStrictlySortedBy nat_cmp list
ascending_given list last are = subst (IsStrictlySortedBy nat_cmp) (sym are) (ascending 0 last)

-- ---- one after the other

module _ (task : Task) (bound : ℕ) (other : Other) (nodes : List Node) (conditions : List Condition) (pc : ℕ) (instr : Instr) where
  abbrev Happens : ℕ → Type 0
  Happens count = HappensAt task bound other nodes conditions pc instr count

  abbrev passing : Node → Bool
  passing n = may_happen task bound other pc instr n

  module _ (at : ℕ) (n : Node) (k : NodeKey) (s : AbsState) (is : slice_get nodes at ≡ Some n) (key : n.key ≡ k) (state : n.state ≡ s) where
    same_test : passing n ≡ passing (record { key = k; state = s })
    same_test = ap₂ (λ (x : NodeKey) (y : AbsState). passing (record { key = x; state = y })) key state

    pub happens_found : (count : ℕ) → at < count → is_unclear_at pc n.key (condition_at conditions at) ≡ true → passing (record { key = k; state = s }) ≡ true → Happens count
    happens_found count lt unclear passes =
        record { at = at; node = n; below = lt; is = is; unclear = unclear; passes = same_test ∙ passes }

    pub happens_not : (Happens at → ⊥) → passing (record { key = k; state = s }) ≡ false → Happens (at + 1) → ⊥
    happens_not none here t =
        ⊎_elim (λ lt. none (record { at = t.at; node = t.node; below = lt; is = t.is; unclear = t.unclear; passes = t.passes }))
        (λ e.
        let m : t.node ≡ n = one_at nodes at t.node n (subst (λ i. slice_get nodes i ≡ Some t.node) e t.is) is in
        never_both (passing (record { key = k; state = s })) (sym (ap passing m ∙ same_test) ∙ t.passes) here)
        (before_or_last t.at at t.below)

  pub happens_none : Happens 0 → ⊥
  happens_none t = let lt = t.below in omega (arith, lt)

  -- none among those that come next
  pub happens_skipped : (start at : ℕ) → IsNextAsk nodes conditions pc start at → (Happens start → ⊥) → Happens at → ⊥
  happens_skipped start at next none t = none (skipped nodes conditions pc start at next passing t)

  -- none at all, once the walk is at the end
  pub happens_nowhere : (at count : ℕ) → at ≡ count → (Happens at → ⊥) → (false ≡ true) ↔ Happens count
  happens_nowhere at count same none = (λ e. absurd (let no : false ≡ true = e in cc), λ t. absurd (none (subst (λ i. Happens i) (sym same) t)))

-- ---- a word

module _ (task : Task) (c : Claim) (nodes : List Node) (conditions : List Condition) (told : HasConditionsLeft task c nodes conditions) (pc : ℕ) where
  abbrev f : RankedFamily
  f = family_of c nodes

  -- a node that isn't clear has a condition left
  asks_there : (n : Node) (at : ℕ) → slice_get nodes at ≡ Some n → n.key.pc ≡ pc → (IsClear task f n → ⊥) → is_unclear_at pc n.key (condition_at conditions at) ≡ true
  asks_there n at is word unclear =
      and_from (not (is_discharged (condition_at conditions at))) (n.key.pc == pc) (not_from_never (is_discharged (condition_at conditions at)) (λ h. unclear ((told.told.each at n is).0 h)))
      (ap (λ p. p == pc) word ∙ equals_itself pc)

  module _ (instr : Instr) (is : instruction_at task.flash pc ≡ Some instr) (test : Node → Instr → Bool) where
    pub cause_from : PassesBelow nodes conditions pc (λ (n : Node). test n instr) (length conditions) → IsCause task f pc test
    cause_from t =
        let parts = and_parts (not (is_discharged (condition_at conditions t.at))) (t.node.key.pc == pc) t.unclear in
        record {
          node = t.node;
          present = contained_at nodes t.at t.node t.is;
          is = eqb-true t.node.key.pc pc parts.1;
          unclear = λ clear. never_both (is_discharged (condition_at conditions t.at)) ((told.told.each t.at t.node t.is).1 clear) (not-true (is_discharged (condition_at conditions t.at)) parts.0);
          instr = instr;
          instruction = is;
          passes = t.passes;
        }

    pub cause_to : IsCause task f pc test → PassesBelow nodes conditions pc (λ (n : Node). test n instr) (length conditions)
    cause_to cause =
        let p = place_of_contained nodes cause.node cause.present in
        record {
          at = p.0;
          node = cause.node;
          below = let lt = slice_get_within nodes p.0 cause.node p.1 in let same = told.told.count in omega (arith, lt, same);
          is = p.1;
          unclear = asks_there cause.node p.0 p.1 cause.is cause.unclear;
          passes = ap (test cause.node) (same_Some instr cause.instr (sym is ∙ cause.instruction)) ∙ cause.passes;
        }

  none_without : (test : Node → Instr → Bool) → instruction_at task.flash pc ≡ None → IsCause task f pc test → ⊥
  none_without test is cause = let no : None ≡ Some cause.instr = sym is ∙ cause.instruction in cc

  never_true : false ≡ true → ⊥
  never_true e = cc

  abbrev to_protected : ℕ → Node → Instr → Bool
  to_protected a n y = may_write_protected task (store_at pc n.state y) a

  abbrev onto_live : Node → Instr → Bool
  onto_live n y = may_write_live task c.bound n.key (store_at pc n.state y)

  abbrev unlisted : Node → Instr → Bool
  unlisted n y = not (is_transfer_listed task pc n.state y) || calls_cut task n.key n.state y

  abbrev moves_at : Node → Instr → Bool
  moves_at n y = may_move task n.key n.state y

  pub nothing_there : instruction_at task.flash pc ≡ None → IsPlaceOf task f (record { word = pc; protected = []; live = false; transfer = false; moves = false; pointer = None })
  unfolding IsStrictlySortedBy
  nothing_there is =
      record {
        ascending = tt;
        protected = λ a. (λ h. absurd (none_in a h), λ cause. absurd (none_without (λ n y. to_protected a n y) is cause));
        live = (λ h. absurd (never_true h), λ cause. absurd (none_without (λ n y. onto_live n y) is cause));
        transfer = (λ h. absurd (never_true h), λ cause. absurd (none_without (λ n y. unlisted n y) is cause));
        moves = (λ h. absurd (never_true h), λ cause. absurd (none_without (λ n y. moves_at n y) is cause));
        pointer = λ p n h. let no : None ≡ Some h.instr = sym is ∙ h.instruction in cc;
      }

  -- only guarded addresses are flagged
  protected_small : (s : AbsState) (instr : Instr) (a : ℕ) → may_write_protected task (store_at pc s instr) a ≡ true → a < guarded_end (device_of task.flash) + 1
  protected_small s instr a h = flagged_within task (store_at pc s instr) a (left_of_and (is_flagged_address task (store_at pc s instr) a) _ h)

  module _ (instr : Instr) (is : instruction_at task.flash pc ≡ Some instr) (protected : List ℕ) (live moves : Bool)
      (exact : (a : ℕ) → Contains protected a ↔ IsProtectedAt task nodes conditions pc instr (length conditions) a) (sorted : IsStrictlySortedBy nat_cmp protected)
      (alive : (live ≡ true) ↔ HappensAt task c.bound Live nodes conditions pc instr (length conditions))
      (moving : (moves ≡ true) ↔ HappensAt task c.bound Moves nodes conditions pc instr (length conditions)) (site : MayBeFlagged task f pc)
      (pointer : Option PointerNumbers) (numbered : IsPointerOf nodes pc instr pointer) where
    pub place_given : IsPlaceOf task f (record { word = pc; protected = protected; live = live; transfer = is_indirect instr || is_call instr; moves = moves; pointer = pointer })
    place_given =
        record {
          ascending = sorted;
          protected = λ a. (
            λ h. cause_from instr is (λ n y. to_protected a n y) ((exact a).0 h).1,
            λ cause.
                let t = cause_to instr is (λ n y. to_protected a n y) cause in
                (exact a).1 (protected_small t.node.state instr a t.passes, t),
          );
          live = (
            λ h. cause_from instr is (λ n y. onto_live n y) (alive.0 h),
            λ cause. alive.1 (cause_to instr is (λ n y. onto_live n y) cause),
          );
          transfer = (
            λ h. record {
              node = site.node;
              present = site.present;
              is = site.is;
              unclear = site.unclear;
              instr = instr;
              instruction = is;
              passes = subst (λ q. (not (is_transfer_listed task q site.node.state instr) || calls_cut task site.node.key site.node.state instr) ≡ true) site.is
                  (not_listed task f site.node instr (subst (λ q. instruction_at task.flash q ≡ Some instr) (sym site.is) is) h site.unclear);
            },
            λ cause.
                let passes = ap (λ y. unlisted cause.node y) (same_Some instr cause.instr (sym is ∙ cause.instruction)) ∙ cause.passes in
                unlisted_goes task f cause.node instr
                (subst (λ q. (not (is_transfer_listed task q cause.node.state instr) || calls_cut task cause.node.key cause.node.state instr) ≡ true) (sym cause.is) passes),
          );
          moves = (
            λ h. cause_from instr is (λ n y. moves_at n y) (moving.0 h),
            λ cause. moving.1 (cause_to instr is (λ n y. moves_at n y) cause),
          );
          pointer = numbered task f is refl;
        }

-- ---- all words

module _ (task : Task) (g : RankedFamily) where
  pub places_none : ArePlacesOf task g [] []
  places_none = record { are = refl; each = λ p h. absurd (none_in p h) }

  pub places_more : (sites : List ℕ) (i d : ℕ) (places : List FlaggedPlace) (place : FlaggedPlace) → i < length sites → place.word ≡ get_or sites i d → IsPlaceOf task g place
      → ArePlacesOf task g (take i sites) places → ArePlacesOf task g (take (i + 1) sites) (places ++ place ∷ [])
  places_more sites i d places place lt word is so =
      record {
        are = map-append word_of places (place ∷ []) ∙ ap (λ (xs : List ℕ). xs ++ place.word ∷ []) so.are
            ∙ ap (λ w. take i sites ++ w ∷ []) word ∙ sym (take_more sites i d lt);
        each = λ p h. ⊎_elim (so.each p) (λ e. subst (IsPlaceOf task g) e is) (Contains-push_cases places place p h);
      }

module _ (task : Task) (c : Claim) (nodes : List Node) (conditions : List Condition) (told : HasConditionsLeft task c nodes conditions) (sites : List ℕ) (are : AreSites task c sites) where
  -- the words are those of these nodes
  pub sites_are_flagged : (pc : ℕ) → Contains sites pc → MayBeFlagged task (family_of c nodes) pc
  sites_are_flagged pc h =
      let same = filled_or_missing.one task c.nodes are.nodes nodes are.expanded told.filled in
      subst (λ (ns : List Node). MayBeFlagged task (family_of c ns) pc) same ((are.exact pc).0 h)

  pub are_places : (places : List FlaggedPlace) → ArePlacesOf task (family_of c nodes) sites places → ArePlaces task c places
  are_places places h = record { sites = subst (AreSites task c) (sym h.are) are; nodes = nodes; expanded = told.filled; each = h.each }
