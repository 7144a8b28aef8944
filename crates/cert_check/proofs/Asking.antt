-- Demands that aren't met, and the ranks and needs that they concern.
use Rattle.std.proofs.Common.{◌≡◌, refl, sym, ap, ◌∙◌, subst, subst₂, ℕ, ◌+◌, ◌<◌, ◌≤◌, ◌==◌, ◌&&◌, ◌||◌, nat_lt, nat_le, ◌⊎◌, inl, inr, ⊎_elim, Bool, true, false, cond, List, [], ◌∷◌, ◌++◌, length, take, get_or, Some, None, slice_get, Contains, arith}
use Rattle.std.proofs.lemmas.Bool.{cases_lt}
use Rattle.std.proofs.lemmas.Bool.Decides.{nat_tests}
use Rattle.std.proofs.lemmas.List.{take_more}
use Rattle.std.proofs.lemmas.List.Elements.{Contains-append_left, Contains-append_right, Contains-append_cases}
use Rattle.std.proofs.lemmas.Option.{same_Some}
use Rattle.basics.specs.Lists.{one_at}
use Rattle.basics.specs.Items.{only_one_in, first_in}
use Rattle.avr_model.specs.Devices.{device_of, back_of}
use Rattle.node_keys.specs.declared.keys.InstKey.{InstKey}
use Rattle.node_keys.specs.declared.keys.SpForm.TheVariants.{Closed}
use Rattle.node_keys.specs.Keys.{root_inst, offset_of, cut_at}
use Rattle.local_rules.specs.declared.local.Node.{Node}
use Rattle.edge_rules.specs.Nest.{NestEdge, recurs, enters as by_node}
use Rattle.edge_rules.specs.Families.{AreFaultless}
use Rattle.certificate.specs.declared.instance.Inst.{Inst}
use Rattle.certificate.specs.Insts.{inst_keys, rank_in, need_in}
use Rattle.certificate.specs.Claims.{Claim}
use Rattle.certificate.specs.Valid.{AreRanked, Suffices, NeedsSuffice}
use Rattle.cert_check.specs.declared.demand.Demand.{Demand}
use Rattle.cert_check.specs.declared.verdict.Reason.{Reason}
use Rattle.cert_check.specs.declared.verdict.Reason.TheVariants as reason
use Rattle.cert_check.specs.declared.verdict.Judgement.{Judgement}
use Rattle.cert_check.specs.declared.verdict.Judgement.TheVariants.{Accepted, Rejected}
use Rattle.cert_check.specs.Verdict.{AllLanded, InstEnters, IsFirstRank, IsFirstNeed, HasReset, IsLeastReason}
use Rattle.cert_check.specs.Demands.{AreInstances, number_in, rank_of, rank_at, need_of, need_at, demand_below, AsksFor, offset, entry, recur, IsAsked, AreDemands, AllBelong, IsLeastOffered, NumberPair, MeetsRank, LowRank, PairBelow, lesser_pair, MeetsNeed, LowNeed, NumberBelow, lesser_number, IsMost, more_asked, RanksFall, AllMet, IsWeighed, IsGathering, Decides}
use Rattle.cert_check.proofs.Lists.{IsLesser}
use Rattle.cert_check.proofs.Insts.{HasInstNumber, one_number, has_number, rank_there, need_there}
use Rattle.cert_check.proofs.Demands.{owner, entered_belongs}
use Rattle.local_rules.specs.Site.{Task}

-- ---- the lesser pair and the lesser number

abbrev goes_first : NumberPair → NumberPair → Bool
goes_first q p = nat_lt q.0 p.0 || ((q.0 == p.0) && nat_le q.1 p.1)

first_says : (a b c d : ℕ) → (nat_lt a c || ((a == c) && nat_le b d)) ≡ true → (a < c) ⊎ ((a ≡ c) × (b ≤ d))
first_says a b c d e =
    ⊎_elim (λ lt. inl lt)
    (λ le. ⊎_elim (λ gt. absurd (grind (arith, nat_tests)))
    (λ ge. inr (omega (arith, le, ge), grind (arith, nat_tests))) (cases_lt c a)) (cases_lt a c)

other_says : (a b c d : ℕ) → (nat_lt a c || ((a == c) && nat_le b d)) ≡ false → (c < a) ⊎ ((c ≡ a) × (d ≤ b))
other_says a b c d e =
    ⊎_elim (λ lt. inl lt)
    (λ le. ⊎_elim (λ gt. absurd (grind (arith, nat_tests)))
    (λ ge. inr (omega (arith, le, ge), grind (arith, nat_tests))) (cases_lt a c)) (cases_lt c a)

pair_itself : (p : NumberPair) → PairBelow p p
pair_itself p = inr (refl, omega arith)

pair_along : (p q r : NumberPair) → PairBelow p q → PairBelow q r → PairBelow p r
pair_along p q r (inl a) (inl b) = inl (omega (arith, a, b))
pair_along p q r (inl a) (inr b) = inl (omega (arith, a, b.0))
pair_along p q r (inr a) (inl b) = inl (omega (arith, a.0, b))
pair_along p q r (inr a) (inr b) = inr (a.0 ∙ b.0, omega (arith, a.1, b.1))

one_of : {K : Type 0} (b k : K) (t : Bool) → (cond t b k ≡ b) ⊎ (cond t b k ≡ k)
one_of b k true = inl refl
one_of b k false = inr refl

pair_left : (q p : NumberPair) (t : Bool) → goes_first q p ≡ t → PairBelow (cond t q p) q
pair_left q p true e = pair_itself q
pair_left q p false e = other_says q.0 q.1 p.0 p.1 e

pair_right : (q p : NumberPair) (t : Bool) → goes_first q p ≡ t → PairBelow (cond t q p) p
pair_right q p true e = first_says q.0 q.1 p.0 p.1 e
pair_right q p false e = pair_itself p

pub lesser_pairs : (insts : List Inst) → IsLesser (MeetsRank insts) (LowRank insts) PairBelow lesser_pair
lesser_pairs insts = record {
  apart = λ d p clear o. let lt = clear p.1 o.1 in
      let up : rank_at insts d.inst ≤ rank_at insts p.1 = subst (λ j. rank_at insts j ≤ rank_at insts p.1) (sym o.0) o.2 in
      omega (arith, lt, up);
  first = λ k. refl;
  either = λ q p. one_of q p (goes_first q p);
  left = λ q p. pair_left q p (goes_first q p) refl;
  right = λ q p. pair_right q p (goes_first q p) refl;
  same = pair_itself;
  along = pair_along;
}

number_left : (i j : ℕ) (t : Bool) → nat_le i j ≡ t → cond t i j ≤ i
number_left i j true e = omega arith
number_left i j false e = grind (arith, nat_tests)

number_right : (i j : ℕ) (t : Bool) → nat_le i j ≡ t → cond t i j ≤ j
number_right i j true e = grind (arith, nat_tests)
number_right i j false e = omega arith

pub lesser_numbers : (insts : List Inst) → IsLesser (MeetsNeed insts) (LowNeed insts) NumberBelow lesser_number
lesser_numbers insts = record {
  apart = λ d j clear o.
      let low : need_at insts d.inst < d.bytes = subst (λ i. need_at insts i < d.bytes) (sym o.0) o.1 in
      omega (arith, clear, low);
  first = λ k. refl;
  either = λ i j. one_of i j (nat_le i j);
  left = λ i j. number_left i j (nat_le i j) refl;
  right = λ i j. number_right i j (nat_le i j) refl;
  same = λ k. omega arith;
  along = λ a b c h i. omega (arith, h, i);
}

-- ---- the most

grows : (old : ℕ) (j : ℕ) (d : Demand) → old ≤ more_asked old j d
grows old j d = by ((d.inst == j) && nat_lt old d.bytes) refl
  where
    by : (t : Bool) → ((d.inst == j) && nat_lt old d.bytes) ≡ t → old ≤ cond t d.bytes old
    by true e = grind (arith, nat_tests)
    by false e = omega arith

reaches : (old : ℕ) (j : ℕ) (d : Demand) → d.inst ≡ j → d.bytes ≤ more_asked old j d
reaches old j d is = by ((d.inst == j) && nat_lt old d.bytes) refl
  where
    by : (t : Bool) → ((d.inst == j) && nat_lt old d.bytes) ≡ t → d.bytes ≤ cond t d.bytes old
    by true e = omega arith
    by false e = grind (arith, nat_tests)

chosen : (old : ℕ) (j : ℕ) (d : Demand) → (more_asked old j d ≡ old) ⊎ ((d.inst ≡ j) × (d.bytes ≡ more_asked old j d))
chosen old j d = by ((d.inst == j) && nat_lt old d.bytes) refl
  where
    by : (t : Bool) → ((d.inst == j) && nat_lt old d.bytes) ≡ t → (cond t d.bytes old ≡ old) ⊎ ((d.inst ≡ j) × (d.bytes ≡ cond t d.bytes old))
    by true e = inr (grind (arith, nat_tests), refl)
    by false e = inl refl

most_after : (ds : List Demand) (d : Demand) (j old : ℕ) → IsMost ds j old → IsMost (ds ++ d ∷ []) j (more_asked old j d)
most_after ds d j old h = record {
  above = λ e i is.
      ⊎_elim (λ a. let le = h.above e a is in omega (arith, le, grows old j d))
      (λ b. let same : e ≡ d = only_one_in d e b in
      subst (λ (x : Demand). x.bytes ≤ more_asked old j d) (sym same) (reaches old j d (subst (λ (x : Demand). x.inst ≡ j) same is)))
      (Contains-append_cases ds (d ∷ []) e i);
  attained =
      ⊎_elim
      (λ same. ⊎_elim (λ z. inl (same ∙ z))
      (λ w. inr (w.0, (Contains-append_left ds (d ∷ []) w.0 w.1.0, w.1.1, w.1.2 ∙ sym same))) h.attained)
      (λ w. inr (d, (Contains-append_right ds (d ∷ []) d (first_in d []), w.0, w.1))) (chosen old j d);
}

pub most_more : (ds : List Demand) (at : ℕ) (d : Demand) (j old : ℕ) → at < length ds → IsMost (take at ds) j old
    → IsMost (take (at + 1) ds) j (more_asked old j (get_or ds at d))
most_more ds at d j old lt h =
    subst (λ l. IsMost l j (more_asked old j (get_or ds at d))) (sym (take_more ds at d lt)) (most_after (take at ds) (get_or ds at d) j old h)

-- an item read past the end
abbrev pub no_demand : Demand
no_demand = record { inst = 0; into = None; bytes = 0 }

-- ---- what demands say

module _ (task : Task) (c : Claim) (nodes : List Node) (are : AreInstances c.instances) (belong : AllBelong c.instances nodes)
    (root : Contains (inst_keys c.instances) root_inst) (land : AllLanded task c.nodes nodes) (demands : List Demand) (asked : AreDemands task c.instances nodes demands) where
  offset_listed : (n : Node) (o : ℕ) → Contains nodes n → n.key.sp ≡ Closed o
      → Contains demands (record { inst = number_in c.instances n.key.inst; into = None; bytes = o })
  offset_listed n o h e = (asked _).1 (record { node = n; present = h; asks = offset o e })

  -- an edge of the nest is demanded
  nest_listed : (i j : InstKey) (depth : ℕ) → NestEdge task (Contains nodes) i j depth → Contains demands (demand_below c.instances (number_in c.instances i) (depth + back_of (device_of task.flash)) j)
  nest_listed i j depth (by_node n way back h same at e whole) =
      subst₂ (λ (k : InstKey) (o : ℕ). Contains demands (demand_below c.instances (number_in c.instances k) (o + back_of (device_of task.flash)) j)) same at
      ((asked _).1 (record { node = n; present = h; asks = entry way j back e whole }))
  nest_listed i j depth (recurs n h same cut top) =
      subst₂ (λ (k l : InstKey). Contains demands (demand_below c.instances (number_in c.instances k) (depth + back_of (device_of task.flash)) l)) (sym top) same
      ((asked _).1 (record { node = n; present = h; asks = recur depth (subst (λ (k : InstKey). cut_at task.assumptions k ≡ Some depth) (sym same) cut) }))

  pub ranked : RanksFall c.instances demands → AreRanked task c nodes
  ranked falls i j depth edge =
      subst (λ r. rank_in c.instances j < r) (rank_there c.instances i)
      (subst (λ r. r < rank_at c.instances (number_in c.instances i)) (rank_there c.instances j)
      (falls _ (nest_listed i j depth edge) (number_in c.instances j) refl))

  pub sufficient : AllMet c.instances demands → NeedsSuffice task c nodes
  sufficient met inst = record {
    offsets = λ n o h is form.
        subst (λ m. o ≤ m) (need_there c.instances n.key.inst ∙ ap (need_in c.instances) is) (met _ (offset_listed n o h form));
    entered = λ into depth edge.
        subst (λ m. depth + back_of (device_of task.flash) + m ≤ need_in c.instances inst) (need_there c.instances into)
        (subst (λ m. depth + back_of (device_of task.flash) + need_at c.instances (number_in c.instances into) ≤ m) (need_there c.instances inst)
        (met _ (nest_listed inst into depth edge)));
  }

  -- a listed instance by its number
  has_own_number : (k : InstKey) (j : ℕ) → Contains (inst_keys c.instances) k → number_in c.instances k ≡ j → HasInstNumber c.instances k j
  has_own_number k j h e = subst (HasInstNumber c.instances k) e (has_number c.instances k are h)

  number_is : (k : InstKey) (j : ℕ) (x : Inst) → slice_get c.instances j ≡ Some x → k ≡ x.key → number_in c.instances k ≡ j
  number_is k j x is same = one_number c.instances k j are (record { inst = x; is = is; same = sym same })

  enters_listed : (i m : ℕ) (x y : Inst) → slice_get c.instances i ≡ Some x → slice_get c.instances m ≡ Some y → InstEnters task nodes x y
      → (d : Demand) × (Contains demands d × (d.inst ≡ i) × (d.into ≡ Some m))
  enters_listed i m x y isx isy e = (
    _,
    (
      nest_listed x.key y.key e.depth e.edge,
      number_is x.key i x isx refl,
      ap (λ p. Some p) (number_is y.key m y isy refl),
    ),
  )

  rank_is : (j : ℕ) (x : Inst) → slice_get c.instances j ≡ Some x → rank_at c.instances j ≡ x.rank
  rank_is j x is = ap rank_of is

  need_is : (j : ℕ) (x : Inst) → slice_get c.instances j ≡ Some x → need_at c.instances j ≡ x.need
  need_is j x is = ap need_of is

  -- a demand with an instance below is an edge of the nest
  record IsWay (j l : ℕ) : Type 0 where
    upper : InstKey
    inst : InstKey
    depth : ℕ
    edge : NestEdge task (Contains nodes) upper inst depth
    from : number_in c.instances upper ≡ j
    into : number_in c.instances inst ≡ l
    upper_there : Contains (inst_keys c.instances) upper
    there : Contains (inst_keys c.instances) inst

  way_of : (n : Node) (d : Demand) (j l : ℕ) → Contains nodes n → AsksFor task c.instances n d → d.inst ≡ j → d.into ≡ Some l → IsWay j l
  way_of n _ j l h (offset o e) is to = absurd (cc)
  way_of n _ j l h (entry way inst back e whole) is to =
      record {
        upper = n.key.inst;
        inst = inst;
        depth = offset_of n.key.sp;
        edge = by_node n way back h refl refl e whole;
        from = is;
        into = same_Some (number_in c.instances inst) l to;
        upper_there = belong n h;
        there = entered_belongs task c.instances nodes are belong root (λ m d i k. (land m d i k).0) n way inst back h e;
      }
  way_of n _ j l h (recur depth cut) is to =
      record {
        upper = root_inst;
        inst = n.key.inst;
        depth = depth;
        edge = recurs n h refl cut refl;
        from = is;
        into = same_Some (number_in c.instances n.key.inst) l to;
        upper_there = root;
        there = belong n h;
      }

  rank_at_number : (j l : ℕ) (w : IsWay j l) → rank_at c.instances j ≤ rank_at c.instances l
      → ((d : Demand) (m : NumberPair) → Contains demands d → LowRank c.instances d m → PairBelow (j, l) m) → HasInstNumber c.instances w.upper j
      → HasInstNumber c.instances w.inst l → IsFirstRank task c nodes j l
  rank_at_number j l w low before p q = record {
    from = p.inst;
    into = q.inst;
    is = p.is;
    there = q.is;
    enters = record { depth = w.depth; edge = subst₂ (λ (k l : InstKey). NestEdge task (Contains nodes) k l w.depth) (sym p.same) (sym q.same) w.edge };
    low = omega (arith, rank_is j p.inst p.is, rank_is l q.inst q.is, low);
    least = λ m y isy e short.
        let d = enters_listed j m p.inst y p.is isy e in
        let up : rank_at c.instances j ≤ rank_at c.instances m = omega (arith, rank_is j p.inst p.is, rank_is m y isy, short) in
        ⊎_elim (λ lt. absurd (omega (arith, lt))) (λ both. both.1) (before d.0 (j, m) d.1.0 (d.1.1, d.1.2, up));
    earlier = λ i m x y isx isy lt e.
        ⊎_elim (λ below. below)
        (λ above. absurd (
        let d = enters_listed i m x y isx isy e in
        let up : rank_at c.instances i ≤ rank_at c.instances m = omega (arith, rank_is i x isx, rank_is m y isy, above) in
        ⊎_elim (λ less. omega (arith, less, lt)) (λ both. omega (arith, both.0, lt)) (before d.0 (i, m) d.1.0 (d.1.1, d.1.2, up))
        ))
        (cases_lt y.rank x.rank);
  }

  pub first_rank : (j l : ℕ) → IsLeastOffered (MeetsRank c.instances) (LowRank c.instances) PairBelow demands (Some (j, l)) → IsFirstRank task c nodes j l
  first_rank j l h = by ((asked h.0.0).0 h.0.1.0)
    where
      at : IsWay j l → IsFirstRank task c nodes j l
      at w = rank_at_number j l w h.0.1.1.2 h.1 (has_own_number w.upper j w.upper_there w.from) (has_own_number w.inst l w.there w.into)

      by : IsAsked task c.instances nodes h.0.0 → IsFirstRank task c nodes j l
      by a = at (way_of a.node h.0.0 j l a.present a.asks h.0.1.1.0 h.0.1.1.1)

  own_number : (n : Node) (d : Demand) (a : AsksFor task c.instances n d) → d.inst ≡ number_in c.instances (owner n d a)
  own_number n _ (offset o e) = refl
  own_number n _ (entry way inst back e whole) = refl
  own_number n _ (recur depth cut) = refl

  owner_there : (n : Node) (d : Demand) → Contains nodes n → (a : AsksFor task c.instances n d) → Contains (inst_keys c.instances) (owner n d a)
  owner_there n _ h (offset o e) = belong n h
  owner_there n _ h (entry way inst back e whole) = belong n h
  owner_there n _ h (recur depth cut) = root

  -- a number that suffices is at least each demand
  suffices_for : (n : Node) (k : InstKey) (d : Demand) (m : ℕ) → Contains nodes n → (a : AsksFor task c.instances n d) → owner n d a ≡ k → Suffices task c nodes k m → d.bytes ≤ m
  suffices_for n k _ m h (offset o e) is s = s.offsets n o h is e
  suffices_for n k _ m h (entry way inst back e whole) is s =
      subst (λ r. offset_of n.key.sp + back_of (device_of task.flash) + r ≤ m) (sym (need_there c.instances inst)) (s.entered inst (offset_of n.key.sp) (by_node n way back h is refl e whole))
  suffices_for n k _ m h (recur depth cut) is s =
      subst (λ r. depth + back_of (device_of task.flash) + r ≤ m) (sym (need_there c.instances n.key.inst)) (s.entered n.key.inst depth (recurs n h refl cut (sym is)))

  -- a number that is at least all demands suffices
  suffices_by : (x : Inst) (j m : ℕ) → slice_get c.instances j ≡ Some x → ((d : Demand) → Contains demands d → d.inst ≡ j → d.bytes ≤ m)
      → Suffices task c nodes x.key m
  suffices_by x j m is above = record {
    offsets = λ n o h same form. above _ (offset_listed n o h form) (number_is n.key.inst j x is same);
    entered = λ into depth edge.
        subst (λ r. depth + back_of (device_of task.flash) + r ≤ m) (need_there c.instances into)
        (above _ (nest_listed x.key into depth edge) (number_is x.key j x is refl));
  }

  -- a number that suffices for an instance is at least each demand on it
  above_asked : (x : Inst) (j m : ℕ) → slice_get c.instances j ≡ Some x → Suffices task c nodes x.key m → (d : Demand) → Contains demands d → d.inst ≡ j
      → d.bytes ≤ m
  above_asked x j m is s d h e = by ((asked d).0 h)
    where
      from : (a : IsAsked task c.instances nodes d) → HasInstNumber c.instances (owner a.node d a.asks) j → d.bytes ≤ m
      from a p =
          let same : owner a.node d a.asks ≡ x.key = sym p.same ∙ ap (λ (y : Inst). y.key) (one_at c.instances j p.inst x p.is is) in
          suffices_for a.node x.key d m a.present a.asks same s

      by : IsAsked task c.instances nodes d → d.bytes ≤ m
      by a = from a (has_own_number (owner a.node d a.asks) j (owner_there a.node d a.present a.asks) (sym (own_number a.node d a.asks) ∙ e))

  above_most : (x : Inst) (j need m : ℕ) → slice_get c.instances j ≡ Some x → IsMost demands j need → Suffices task c nodes x.key m → need ≤ m
  above_most x j need m is most s =
      ⊎_elim (λ z. omega (arith, z)) (λ w. let le = above_asked x j m is s w.0 w.1.0 w.1.1 in omega (arith, le, w.1.2)) most.attained

  -- the first instance with an unmet demand
  need_at_number : (j need : ℕ) (d : Demand) (k : InstKey) → Contains demands d → d.inst ≡ j → need_at c.instances j < d.bytes → IsMost demands j need
      → ((e : Demand) (m : ℕ) → Contains demands e → LowNeed c.instances e m → j ≤ m) → HasInstNumber c.instances k j → IsFirstNeed task c nodes j need
  need_at_number j need d k h is low most before p = record {
    inst = p.inst;
    is = p.is;
    enough = suffices_by p.inst j need p.is most.above;
    least = λ m s. above_most p.inst j need m p.is most s;
    low = let le = most.above d h is in omega (arith, le, low, need_is j p.inst p.is);
    earlier = λ i x isx lt. suffices_by x i x.need isx (λ e m same.
        ⊎_elim (λ above. absurd (
        let short : need_at c.instances i < e.bytes = omega (arith, above, need_is i x isx) in
        let le = before e i m (same, short) in
        omega (arith, le, lt)
        )) (λ below. below) (cases_lt x.need e.bytes));
  }

  pub first_need : (j need : ℕ) → IsLeastOffered (MeetsNeed c.instances) (LowNeed c.instances) NumberBelow demands (Some j) → IsMost demands j need
      → IsFirstNeed task c nodes j need
  first_need j need h most = by ((asked h.0.0).0 h.0.1.0)
    where
      by : IsAsked task c.instances nodes h.0.0 → IsFirstNeed task c nodes j need
      by a =
          need_at_number j need h.0.0 (owner a.node h.0.0 a.asks) h.0.1.0 h.0.1.1.0 h.0.1.1.1 most h.1
          (has_own_number (owner a.node h.0.0 a.asks) j (owner_there a.node h.0.0 a.present a.asks) (sym (own_number a.node h.0.0 a.asks) ∙ h.0.1.1.0))

  pub decided : c.device ≡ device_of task.flash → HasReset task.assumptions c nodes → AreFaultless task nodes → (v : Judgement ℕ) → IsWeighed task.flash c task.assumptions demands v → Decides task c nodes v
  decided device reset clean (Accepted bound) h = (
    record {
      device = device;
      reset = reset.0;
      faultless = clean;
      edges = λ n e h i. (land n e h i).0;
      ranks = ranked h.0;
      needs = sufficient h.1;
      bounded = h.2;
      assumptions = h.3;
    },
    h.4,
  )
  decided device reset clean (Rejected (reason.Rank j l)) h = (reset, clean, land, first_rank j l h)
  decided device reset clean (Rejected (reason.Need j need)) h = (reset, clean, land, ranked h.0, first_need j need h.1 h.2)
  decided device reset clean (Rejected (reason.Bound need)) h = (reset, clean, land, ranked h.0, sufficient h.1, h.2, h.3)
  decided device reset clean (Rejected reason.Assumptions) h = (reset, clean, land, ranked h.0, sufficient h.1, h.2, h.3)
  decided device reset clean (Rejected reason.Root) h = absurd h
  decided device reset clean (Rejected (reason.Node j cause)) h = absurd h
  decided device reset clean (Rejected (reason.Edge j to)) h = absurd h
  decided device reset clean (Rejected (reason.Expansion at)) h = absurd h
  decided device reset clean (Rejected reason.Device) h = absurd h

-- an edge that lands nowhere is the least reason
pub gap_least : (task : Task) (c : Claim) (nodes : List Node) (r : Reason) → HasReset task.assumptions c nodes → AreFaultless task nodes
    → IsGathering task c.nodes c.instances nodes (Rejected r) → IsLeastReason task c nodes r
gap_least task c nodes (reason.Edge j to) reset clean h = (reset, clean, h)
gap_least task c nodes reason.Device reset clean h = absurd h
gap_least task c nodes reason.Root reset clean h = absurd h
gap_least task c nodes (reason.Node j cause) reset clean h = absurd h
gap_least task c nodes (reason.Rank j l) reset clean h = absurd h
gap_least task c nodes (reason.Need j need) reset clean h = absurd h
gap_least task c nodes (reason.Bound need) reset clean h = absurd h
gap_least task c nodes reason.Assumptions reset clean h = absurd h
gap_least task c nodes (reason.Expansion at) reset clean h = absurd h
