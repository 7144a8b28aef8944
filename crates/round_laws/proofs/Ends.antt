-- The rounds end once, and without a refusal if a valid certificate exists.
use Rattle.std.proofs.Common.{◌≡◌, refl, sym, ap, ap₂, ◌∙◌, subst, ℕ, zero, suc, ◌<◌, ◌≤◌, inl, inr, ⊎_elim, Option, Contains, arith}
use Rattle.std.proofs.lemmas.Bool.{cases_lt, cases_order}
use Rattle.avr_model.specs.Devices.{device_of}
use Rattle.avr_model.specs.Vectors.{vector_word}
use Rattle.node_keys.specs.declared.keys.InstKey.{InstKey}
use Rattle.node_keys.specs.Keys.{root_inst}
use Rattle.local_rules.specs.declared.local.NodeFault.{NodeFault}
use Rattle.certificate.specs.declared.limit.Limit.{Limit}
use Rattle.certificate.specs.declared.limit.Limit.TheVariants.{Nodes, Cells}
use Rattle.certificate.specs.Claims.{Claim, IsClaim}
use Rattle.certificate.specs.Insts.{need_in}
use Rattle.witness_replay.specs.Spelling.{Plan}
use Rattle.certificate.specs.Valid.{IsValid, IsAttained}
use Rattle.round_rules.specs.declared.refusal.Refusal.{Refusal}
use Rattle.round_rules.specs.Families.{Family, nodes_of, FamilyHas, Below, HasNoFault, IsClosed, FitsLimits}
use Rattle.round_rules.specs.Rounds.{IsAcyclic, AreRanks, AreNeeds, IsRootNeed, PassesTests, Comes}
use Rattle.round_rules.specs.Refusals.{Test, over, faulty, re_entry, recursion, too_deep, FaultAt, FirstHolds, refusal_of, IsReEntry, IsRecursion, IsRefused, IsSolved, GoesBeyond}
use Rattle.round_rules.specs.Solutions.{IsShown, IsSolution}
use Rattle.round_laws.specs.Laws.{IsValidFamily, RoundsAreLeast, RoundsEndOnce, SolutionsAreValid}
use Rattle.round_laws.proofs.Nodes.{has_member}
use Rattle.round_laws.proofs.Nest.{nest_more}
use Rattle.round_laws.proofs.Parts.{never_both}
use Rattle.round_laws.proofs.Faults.{later_once}
use Rattle.round_laws.proofs.Stands.{stands}
use Rattle.round_laws.proofs.Under.{under_root}
use Rattle.round_laws.proofs.Sums.{below_few, below_cells}
use Rattle.round_laws.proofs.Least.{lands_covered, comes_formed, comes_same, comes_root, none_faulty, ranks_of, needs_of, comes_below, reached_lower, entered_word}
use Rattle.local_rules.specs.Site.{Task}

module _ (task : Task) where
  -- ---- no refusal where a family is valid

  never_faulty : (f : Family) (x : NodeFault) → HasNoFault task f → FaultAt task f x → ⊥
  never_faulty f x clean at = never_both task at.node.key at.node.state x (clean at.node at.has) at.is

  root_need : (f : Family) (d e : ℕ) → IsRootNeed task f d → IsRootNeed task f e → d ≤ e
  root_need f d e a b = subst (λ (x : ℕ). d ≤ x) b.is (a.least b.need b.are)

  module _ (g : Family) (valid : IsValidFamily task g) (n : ℕ) (f : Family) (c : Comes task n f) where
    below : Below f g
    below = comes_below task g valid n f c

    clean : HasNoFault task f
    clean = none_faulty task g valid f (comes_formed task n f c) below

    low : AreRanks task f valid.rank_of
    low = ranks_of task g valid f (comes_formed task n f c) below

    needs : AreNeeds task f valid.need_of
    needs = needs_of task g valid f (comes_formed task n f c) below

    acyclic : IsAcyclic task f
    acyclic i r = let lt = reached_lower task f valid.rank_of low i i r in omega (arith, lt)

    bound : (d : ℕ) → IsRootNeed task f d → d ≤ valid.bound
    bound d is = omega (arith, is.least valid.need_of needs, valid.sound.bounded)

    never : (t : Test) → FitsLimits g → FirstHolds task f t → ⊥
    never (over Nodes) fits h = omega (arith, below_few f g below, fits.few_nodes, h)
    never (over Cells) fits h = omega (arith, below_cells f g below, fits.few_cells, h.1)
    never (faulty x) fits h = never_faulty f x clean h.1.0
    never (re_entry v word) fits h = acyclic h.2.inst h.2.reaches
    never (recursion word) fits h = acyclic h.2.inst h.2.reaches
    never (too_deep d) fits h = omega (arith, bound d h.3, valid.sound.small, h.4)

  never_refused : (n : ℕ) (c : Claim) (r : Refusal) → IsShown task c → IsRefused task n r → ⊥
  never_refused n c r shown refused =
      let s = stands task c shown in
      never s.family s.valid n refused.ends.family refused.ends.comes refused.test s.fits refused.ends.holds

  bound_least : (n : ℕ) (f : Family) (c : Claim) (d : ℕ) → IsShown task c → Comes task n f → IsRootNeed task f d → d ≤ c.bound
  bound_least n f c d shown comes is =
      let s = stands task c shown in
      omega (arith, bound s.family s.valid n f comes d is, s.bound)

  -- ---- the solved family's certificate is valid

  solved_valid : (n : ℕ) (f : Family) (c : Claim) → IsClaim c → IsSolved task n f → IsSolution task f c → IsValid task c
  solved_valid n f c claim solved is = record {
    sound = record {
      nodes = nodes_of f;
      expanded = is.expands;
      meets = record {
        device = is.device;
        reset = lands_covered f _ (comes_root task n f solved.comes);
        faultless = λ m i. solved.passes.faultless m (has_member f m i);
        edges = λ m e i edge. lands_covered f _ (solved.closed m e (has_member f m i) edge);
        ranks = λ i j depth edge. is.ranks i j depth (nest_more task (Contains (nodes_of f)) (FamilyHas f) (λ m h. has_member f m h) i j depth edge);
        needs = λ inst. record {
          offsets = λ m offset i same form.
              subst (λ (x : InstKey). offset ≤ need_in c.instances x) same (is.needs.offsets m offset (has_member f m i) form);
          entered = λ into depth edge.
              is.needs.entered inst into depth (nest_more task (Contains (nodes_of f)) (FamilyHas f) (λ m h. has_member f m h) inst into depth edge);
        };
        bounded = record {
          enough = omega (arith, is.bound);
          small = let s = solved.passes.shallow in let le = is.least_needs s.need s.are root_inst in omega (arith, le, s.small, is.bound);
        };
        assumptions = is.assumptions;
      };
    };
    attained = subst (λ (w : Option Plan). IsAttained task c.bound w) (sym is.unwitnessed) tt;
  }

  solved_least : (n : ℕ) (f : Family) (c other : Claim) → IsSolved task n f → IsSolution task f c → IsShown task other → c.bound ≤ other.bound
  solved_least n f c other solved is shown =
      let s = stands task other shown in
      let le = is.least_needs s.valid.need_of (needs s.family s.valid n f solved.comes) root_inst in
      omega (arith, le, s.valid.sound.bounded, s.bound, is.bound)

  -- ---- before the end no test holds

  abbrev GoesOn : Family → Type 0
  GoesOn f = PassesTests task f × (IsClosed task f → ⊥)

  earlier : (m n : ℕ) (f g : Family) → m < n → Comes task m f → Comes task n g → GoesOn f
  earlier m zero f g lt c d = absurd (omega arith)
  earlier m (suc n) f g lt c d =
      ⊎_elim (λ less. earlier m n f d.0 less c d.1)
      (λ over. let is : n ≡ m = omega (arith, lt, over) in
      let same = comes_same task m d.0 f (subst (λ (k : ℕ). Comes task k d.0) is d.1) c in
      subst GoesOn same (d.2, d.3)) (cases_lt m n)

  not_passes : (f : Family) (t : Test) → FirstHolds task f t → PassesTests task f → ⊥
  not_passes f (over Nodes) h p = omega (arith, h, p.fits.few_nodes)
  not_passes f (over Cells) h p = omega (arith, h.1, p.fits.few_cells)
  not_passes f (faulty x) h p = never_faulty f x p.faultless h.1.0
  not_passes f (re_entry v word) h p = p.acyclic h.2.inst h.2.reaches
  not_passes f (recursion word) h p = p.acyclic h.2.inst h.2.reaches
  not_passes f (too_deep d) h p = omega (arith, h.3.least p.shallow.need p.shallow.are, p.shallow.small, h.4)

  -- ---- one family has one first test

  over_fits : (f : Family) (limit : Limit) → FirstHolds task f (over limit) → FitsLimits f → ⊥
  over_fits f Nodes h fits = omega (arith, h, fits.few_nodes)
  over_fits f Cells h fits = omega (arith, h.1, fits.few_cells)

  re_entry_same : (f : Family) (v word u other : ℕ) → IsReEntry task f v word → IsReEntry task f u other → re_entry v word ≡ re_entry u other
  re_entry_same f v word u other a b =
      let vs : v ≡ u = omega (arith, a.least b.inst u b.reaches b.kind, b.least a.inst v a.reaches a.kind) in
      let ws : word ≡ other = sym a.entry ∙ entered_word task f a.inst a.inst v a.reaches a.kind ∙ ap (vector_word (device_of task.flash)) vs ∙ sym (entered_word task f b.inst b.inst u b.reaches b.kind) ∙ b.entry in
      ap₂ re_entry vs ws

  recursion_same : (f : Family) (word other : ℕ) → IsRecursion task f word → IsRecursion task f other → recursion word ≡ recursion other
  recursion_same f word other a b = ap recursion (omega (arith, a.least b.inst b.reaches, a.entry, b.least a.inst a.reaches, b.entry))

  not_both : (f : Family) (v word other : ℕ) → IsReEntry task f v word → IsRecursion task f other → ⊥
  not_both f v word other a b = b.vectors a.inst v a.reaches a.kind

  test_same : (f : Family) (t u : Test) → FirstHolds task f t → FirstHolds task f u → t ≡ u
  test_same f (over Nodes) (over Nodes) h k = refl
  test_same f (over Nodes) (over Cells) h k = absurd (omega (arith, h, k.0))
  test_same f (over Cells) (over Nodes) h k = absurd (omega (arith, k, h.0))
  test_same f (over Cells) (over Cells) h k = refl
  test_same f (over limit) (faulty y) h k = absurd (over_fits f limit h k.0)
  test_same f (over limit) (re_entry u other) h k = absurd (over_fits f limit h k.0)
  test_same f (over limit) (recursion other) h k = absurd (over_fits f limit h k.0)
  test_same f (over limit) (too_deep e) h k = absurd (over_fits f limit h k.0)
  test_same f (faulty x) (over limit) h k = absurd (over_fits f limit k h.0)
  test_same f (faulty x) (faulty y) h k = ap faulty (later_once x y (h.1.1 y k.1.0) (k.1.1 x h.1.0))
  test_same f (faulty x) (re_entry u other) h k = absurd (never_faulty f x k.1 h.1.0)
  test_same f (faulty x) (recursion other) h k = absurd (never_faulty f x k.1 h.1.0)
  test_same f (faulty x) (too_deep e) h k = absurd (never_faulty f x k.1 h.1.0)
  test_same f (re_entry v word) (over limit) h k = absurd (over_fits f limit k h.0)
  test_same f (re_entry v word) (faulty y) h k = absurd (never_faulty f y h.1 k.1.0)
  test_same f (re_entry v word) (re_entry u other) h k = re_entry_same f v word u other h.2 k.2
  test_same f (re_entry v word) (recursion other) h k = absurd (not_both f v word other h.2 k.2)
  test_same f (re_entry v word) (too_deep e) h k = absurd (k.2 h.2.inst h.2.reaches)
  test_same f (recursion word) (over limit) h k = absurd (over_fits f limit k h.0)
  test_same f (recursion word) (faulty y) h k = absurd (never_faulty f y h.1 k.1.0)
  test_same f (recursion word) (re_entry u other) h k = absurd (not_both f u other word k.2 h.2)
  test_same f (recursion word) (recursion other) h k = recursion_same f word other h.2 k.2
  test_same f (recursion word) (too_deep e) h k = absurd (k.2 h.2.inst h.2.reaches)
  test_same f (too_deep d) (over limit) h k = absurd (over_fits f limit k h.0)
  test_same f (too_deep d) (faulty y) h k = absurd (never_faulty f y h.1 k.1.0)
  test_same f (too_deep d) (re_entry u other) h k = absurd (h.2 k.2.inst k.2.reaches)
  test_same f (too_deep d) (recursion other) h k = absurd (h.2 k.2.inst k.2.reaches)
  test_same f (too_deep d) (too_deep e) h k = ap too_deep (omega (arith, root_need f d e h.3 k.3, root_need f e d k.3 h.3))

  -- ---- the rounds end once

  solved_once : (m n : ℕ) (f g : Family) → IsSolved task m f → IsSolved task n g → (m ≡ n) × (f ≡ g)
  solved_once m n f g a b =
      elim (cases_order m n) [
        | inl same ↦ (same, comes_same task n f g (subst (λ (k : ℕ). Comes task k f) same a.comes) b.comes)
        | inr (inl lt) ↦ absurd ((earlier m n f g lt a.comes b.comes).1 a.closed)
        | inr (inr gt) ↦ absurd ((earlier n m g f gt b.comes a.comes).1 b.closed)
      ]

  either : (m n : ℕ) (f : Family) (r : Refusal) → IsSolved task m f → IsRefused task n r → ⊥
  either m n f r a b =
      let g = b.ends.family in
      elim (cases_order m n) [
        | inl same ↦ not_passes g b.test b.ends.holds
            (subst (PassesTests task) (comes_same task n f g (subst (λ (k : ℕ). Comes task k f) same a.comes) b.ends.comes) a.passes)
        | inr (inl lt) ↦ (earlier m n f g lt a.comes b.ends.comes).1 a.closed
        | inr (inr gt) ↦ not_passes g b.test b.ends.holds (earlier n m g f gt b.ends.comes a.comes).0
      ]

  refused_once : (m n : ℕ) (r s : Refusal) → IsRefused task m r → IsRefused task n s → (m ≡ n) × (r ≡ s)
  refused_once m n r s a b =
      let f = a.ends.family in
      let g = b.ends.family in
      elim (cases_order m n) [
        | inl same ↦
            let one = comes_same task n f g (subst (λ (k : ℕ). Comes task k f) same a.ends.comes) b.ends.comes in
            let test = test_same g a.test b.test (subst (λ (x : Family). FirstHolds task x a.test) one a.ends.holds) b.ends.holds in
            (same, a.is ∙ ap refusal_of test ∙ sym b.is)
        | inr (inl lt) ↦ absurd (not_passes f a.test a.ends.holds (earlier m n f g lt a.ends.comes b.ends.comes).0)
        | inr (inr gt) ↦ absurd (not_passes g b.test b.ends.holds (earlier n m g f gt b.ends.comes a.ends.comes).0)
      ]

  solved_beyond : (m n : ℕ) (f : Family) → IsSolved task m f → GoesBeyond task n → n < m
  solved_beyond m n f a b =
      elim (cases_order m n) [
        | inl same ↦ absurd (b.more (subst (IsClosed task) (comes_same task n f b.family (subst (λ (k : ℕ). Comes task k f) same a.comes) b.comes) a.closed))
        | inr (inl lt) ↦ absurd ((earlier m n f b.family lt a.comes b.comes).1 a.closed)
        | inr (inr gt) ↦ gt
      ]

  refused_beyond : (m n : ℕ) (r : Refusal) → IsRefused task m r → GoesBeyond task n → n < m
  refused_beyond m n r a b =
      let f = a.ends.family in
      elim (cases_order m n) [
        | inl same ↦ absurd (not_passes f a.test a.ends.holds
            (subst (PassesTests task) (sym (comes_same task n f b.family (subst (λ (k : ℕ). Comes task k f) same a.ends.comes) b.comes)) b.passes))
        | inr (inl lt) ↦ absurd (not_passes f a.test a.ends.holds (earlier m n f b.family lt a.ends.comes b.comes).0)
        | inr (inr gt) ↦ gt
      ]

pub rounds_are_least : RoundsAreLeast
rounds_are_least = record {
  one = comes_same;
  formed = comes_formed;
  below = λ task n f g valid c. below task g valid n f c;
  faultless = λ task n f g valid c. clean task g valid n f c;
  ranks = λ task n f g valid c. low task g valid n f c;
  needs = λ task n f g valid c. needs task g valid n f c;
  acyclic = λ task n f g valid c. acyclic task g valid n f c;
  few = λ task n f g valid c. below_few f g (below task g valid n f c);
  fewer = λ task n f g valid c. below_cells f g (below task g valid n f c);
  stands = stands;
  never = never_refused;
  bound = bound_least;
  under_root = under_root;
}

pub rounds_end_once : RoundsEndOnce
rounds_end_once = record { solved = solved_once; either = either; refused = refused_once; solved_beyond = solved_beyond; refused_beyond = refused_beyond }

pub solutions_are_valid : SolutionsAreValid
solutions_are_valid = record { valid = solved_valid; least = solved_least }
