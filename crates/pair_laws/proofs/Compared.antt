-- Cuts of registers and pairs by C, Z and S.
use Rattle.std.proofs.Common.{◌≡◌, refl, sym, ◌∙◌, ap, subst, ℕ, ◌+◌, ◌-◌, ◌*◌, ◌%◌, ◌<◌, ◌≤◌, ◌&&◌, Bool, true, false, nat_lt, List, Option, Some, None, slice_index, arith}
use Rattle.std.specs.Prelude.{⊤, ◌==◌, if◌then◌else◌}
use Rattle.std.proofs.lemmas.Bool.{eqb-true, eqb-false, ltb-true, ltb-false, false≢true}
use Rattle.avr_model.specs.Sreg.{flag}
use Rattle.avr_model.specs.State.{State, register}
use Rattle.sp_domain.specs.declared.tags.CarryTag.{CarryTag}
use Rattle.sp_domain.specs.declared.tags.CarryTag.TheVariants as carry
use Rattle.sp_domain.specs.Tags.{Origin, LessHolds, IsCarryWithin}
use Rattle.pair_domain.specs.declared.intervals.Interval.{Interval}
use Rattle.pair_domain.specs.declared.facts.PairFacts.{PairFacts}
use Rattle.pair_domain.specs.declared.tags.Side.{Side}
use Rattle.pair_domain.specs.declared.tags.Side.TheVariants as side
use Rattle.pair_domain.specs.declared.tags.CompareTag.{CompareTag}
use Rattle.pair_domain.specs.declared.tags.CompareTag.TheVariants as compare
use Rattle.pair_domain.specs.declared.tags.ZeroTag.{ZeroTag}
use Rattle.pair_domain.specs.declared.tags.ZeroTag.TheVariants as zero
use Rattle.pair_domain.specs.Intervals.{InInterval, IsIntervalWithin}
use Rattle.pair_domain.specs.Tags.{pair_number, side_byte, CompareHolds, ZeroHolds, IsCompareWithin, IsZeroWithin}
use Rattle.pair_domain.specs.Facts.{KnownHolds, IsKnownWithin}
use Rattle.pair_domain.specs.CompareLaws.{KeepsMember, LeavesMore}
use Rattle.pair_domain.specs.Rank.{IsPair, SideFits, CompareFits, ZeroFits, KnownFits}
use Rattle.pair_domain.proofs.AllLaws.{intervals_are_ordered, compares_cut, cuts_are_monotone}
use Rattle.abs_state.specs.declared.state.AbsState.{AbsState}
use Rattle.abs_state.specs.Order.{IsStateWithin}
use Rattle.abs_state.specs.Formed.{CarryNamesRegister, IsFormed}
use Rattle.pair_cuts.specs.declared.places.CutPlace.{CutPlace}
use Rattle.pair_cuts.specs.declared.places.CutPlace.TheVariants as place
use Rattle.pair_cuts.specs.declared.outcomes.Outcome.{Outcome}
use Rattle.pair_cuts.specs.Places.{after, known_or_nothing, range_of, interval_of, range_at, narrow_at, narrow_to}
use Rattle.pair_cuts.specs.Outcomes.{left_part, right_part, outcome_of}
use Rattle.pair_cuts.specs.Cuts.{just, equal_part, same_cut, below_part, less_by, less_cut, zero_by, zero_cut, side_place, side_range, pair_place, pair_range, narrow_both, compare_by, compare_told, compare_cut}
use Rattle.pair_laws.specs.CutLaws.{StandsFor, KeepsMachine, LeavesLess}
use Rattle.pair_laws.proofs.Steps.{LeavesMoreBy, after_keeps, after_leaves, after_more, nothing_keeps, nothing_leaves, nothing_more}
use Rattle.pair_laws.proofs.Places.{PlaceFits, IsIn, place_keeps, place_leaves, place_more, range_holds, range_ordered, range_high, range_within, to_keeps, to_leaves}
use Rattle.pair_laws.proofs.Outcomes.{agrees, parts_keep, parts_more}

-- ---- a number that is k, or isn't

abbrev number_at : List ℕ → CutPlace → ℕ
number_at registers place.Neither = 0
number_at registers (place.Byte r) = slice_index registers r
number_at registers (place.Pair r) = pair_number registers r

is_in : (p : CutPlace) (i : Interval) (registers : List ℕ) → InInterval i (number_at registers p) → IsIn p i registers
is_in place.Neither i registers h = tt
is_in (place.Byte r) i registers h = h
is_in (place.Pair r) i registers h = h

-- the place names a register or a pair
abbrev pub IsFollowed : CutPlace → Type 0
IsFollowed place.Neither = ⊥
IsFollowed (place.Byte r) = ⊤
IsFollowed (place.Pair r) = ⊤

in_number : (p : CutPlace) (i : Interval) (registers : List ℕ) → IsFollowed p → IsIn p i registers → InInterval i (number_at registers p)
in_number place.Neither i registers none h = absurd none
in_number (place.Byte r) i registers some h = h
in_number (place.Pair r) i registers some h = h

pub equal_keeps : (b : Bool) (k : ℕ) (x : Interval) (w : ℕ) → InInterval x w → (w == k) ≡ b → KeepsMember (equal_part b k x) w
equal_keeps true k x w h e = let is = eqb-true w k e in (just k, (refl, record { low = omega (arith, is); high = omega (arith, is) }))
equal_keeps false k x w h e = compares_cut.off x (just k) w k h (record { low = omega arith; high = omega arith }) (eqb-false w k e)

pub same_keeps : (p : CutPlace) (b : Bool) (k : ℕ) (m : State) → PlaceFits p → IsFollowed p → (number_at m.registers p == k) ≡ b → KeepsMachine m (same_cut p b k)
same_keeps p b k m fits some is o s offset a h =
    let i = equal_keeps b k (range_at s p) (number_at m.registers p) (in_number p (range_at s p) m.registers some (range_holds p o s m fits h)) is in
    to_keeps p (equal_part b k (range_at s p)) i.0 m fits i.1.0 (is_in p i.0 m.registers i.1.1) o s offset a h

pub same_leaves : (p : CutPlace) (b : Bool) (k : ℕ) → PlaceFits p → LeavesLess (same_cut p b k)
same_leaves p b k fits s t offset a e = to_leaves p (equal_part b k (range_at s p)) fits s t offset a e

-- to intervals, the second of which includes the first
pub to_more : (p : CutPlace) (x y : Option Interval) → PlaceFits p → LeavesMore x y → LeavesMoreBy (narrow_to p x) (narrow_to p y)
to_more p None y fits more s s' t offset a b le e = absurd (cc)
to_more p (Some i) y fits more s s' t offset a b le e =
    let j = more i refl in
    let u = place_more p i j.0 fits j.1.1 s s' t offset a b le e in
    (u.0, (ap (λ (z : Option Interval). narrow_to p z s') j.1.0 ∙ u.1.0, u.1.1))

pub equal_more : (b : Bool) (k : ℕ) (x x' : Interval) → x.low ≤ x.high → IsIntervalWithin x x' → LeavesMore (equal_part b k x) (equal_part b k x')
equal_more true k x x' ordered le i e =
    let P : Interval → Type 0 = λ j. IsIntervalWithin j (just k) in
    let same : just k ≡ i = cc in
    (just k, (refl, subst P same (intervals_are_ordered.same (just k))))
equal_more false k x x' ordered le i e = cuts_are_monotone.off x (just k) x' (just k) ordered (omega arith) le (intervals_are_ordered.same (just k)) i e

pub same_more : (p : CutPlace) (b : Bool) (k : ℕ) → PlaceFits p → LeavesMoreBy (same_cut p b k) (same_cut p b k)
same_more p b k fits s s' t offset a a' le e =
    to_more p (equal_part b k (range_at s p)) (equal_part b k (range_at s' p)) fits
    (equal_more b k (range_at s p) (range_at s' p) (range_ordered p s offset fits a) (range_within p s s' offset fits a le)) s s' t offset a a' le e

-- ---- C of a register

below_keeps : (b : Bool) (k x : ℕ) → x < 256 → b ≡ nat_lt x k → KeepsMember (below_part b k) x
below_keeps true k x small e = by (k == 0) refl
  where
    lt : x < k
    lt = ltb-true x k (sym e)

    by : (t : Bool) → (k == 0) ≡ t → KeepsMember (if t then None else Some (record { low = 0; high = k - 1 })) x
    by true t = absurd (let z = eqb-true k 0 t in omega (arith, z, lt))
    by false t = (record { low = 0; high = k - 1 }, (refl, record { low = omega arith; high = omega (arith, lt) }))
below_keeps false k x small e =
    let le : k ≤ x = ltb-false x k (sym e) in (record { low = k; high = 255 }, (refl, record { low = le; high = omega (arith, small) }))

itself_more : (x : Option Interval) → LeavesMore x x
itself_more x i e = (i, (e, intervals_are_ordered.same i))

less_keeps_by : (c : CarryTag) (b : Bool) (m : State) → CarryNamesRegister c → LessHolds m.registers c b → KeepsMachine m (less_by c b)
less_keeps_by carry.None b m names h o s offset a stand = nothing_keeps m o s offset a stand
less_keeps_by (carry.Borrow j l) b m names h o s offset a stand = nothing_keeps m o s offset a stand
less_keeps_by (carry.Sum j l) b m names h o s offset a stand = nothing_keeps m o s offset a stand
less_keeps_by (carry.Less r k) b m names h o s offset a stand =
    let i = below_keeps b k (register m r) (stand.stands.registers r (omega (arith, names))).small h in
    to_keeps (place.Byte r) (below_part b k) i.0 m names i.1.0 i.1.1 o s offset a stand

less_leaves_by : (c : CarryTag) (b : Bool) → CarryNamesRegister c → LeavesLess (less_by c b)
less_leaves_by carry.None b names = nothing_leaves
less_leaves_by (carry.Borrow j l) b names = nothing_leaves
less_leaves_by (carry.Sum j l) b names = nothing_leaves
less_leaves_by (carry.Less r k) b names = to_leaves (place.Byte r) (below_part b k) names

less_more_by : (c d : CarryTag) (b : Bool) → CarryNamesRegister c → IsCarryWithin c d → LeavesMoreBy (less_by c b) (less_by d b)
less_more_by c carry.None b names within = nothing_more (less_by c b) (less_leaves_by c b names)
less_more_by c (carry.Borrow j l) b names within = nothing_more (less_by c b) (less_leaves_by c b names)
less_more_by c (carry.Sum j l) b names within = nothing_more (less_by c b) (less_leaves_by c b names)
less_more_by c (carry.Less r k) b names within =
    let P : CarryTag → Type 0 = λ x. LeavesMoreBy (less_by x b) (less_by (carry.Less r k) b) in
    let fits : r < 32 = subst CarryNamesRegister within names in
    subst P (sym within) (to_more (place.Byte r) (below_part b k) (below_part b k) fits (itself_more (below_part b k)))

-- a cut of one flag
abbrev where_if : Bool → (AbsState → Option AbsState) → AbsState → Option AbsState
where_if test cut s = if test then cut s else Some s

if_keeps : (test : Bool) (cut : AbsState → Option AbsState) (m : State) → (test ≡ true → KeepsMachine m cut) → KeepsMachine m (where_if test cut)
if_keeps true cut m keeps = keeps refl
if_keeps false cut m keeps = nothing_keeps m

if_leaves : (test : Bool) (cut : AbsState → Option AbsState) → LeavesLess cut → LeavesLess (where_if test cut)
if_leaves true cut leaves = leaves
if_leaves false cut leaves = nothing_leaves

if_more : (test : Bool) (cut cut' : AbsState → Option AbsState) → LeavesMoreBy cut cut' → LeavesMoreBy (where_if test cut) (where_if test cut')
if_more true cut cut' more = more
if_more false cut cut' more = nothing_more (λ s. Some s) nothing_leaves

flag_at : (n k : ℕ) (b : Bool) (sreg : ℕ) → flag sreg n ≡ b → (n == k) ≡ true → flag sreg k ≡ b
flag_at n k b sreg is e = subst (λ (j : ℕ). flag sreg j ≡ b) (eqb-true n k e) is

pub less_keeps : (n : ℕ) (b : Bool) (m : State) → flag m.sreg n ≡ b → KeepsMachine m (less_cut n b)
less_keeps n b m is o s offset a h =
    if_keeps (n == 0) (less_by s.flags.carry b) m
    (λ e. less_keeps_by s.flags.carry b m a.carry (subst (LessHolds m.registers s.flags.carry) (flag_at n 0 b m.sreg is e) h.stands.less)) o s offset a h

pub less_leaves : (n : ℕ) (b : Bool) → LeavesLess (less_cut n b)
less_leaves n b s t offset a e = if_leaves (n == 0) (less_by s.flags.carry b) (less_leaves_by s.flags.carry b a.carry) s t offset a e

pub less_more : (n : ℕ) (b : Bool) → LeavesMoreBy (less_cut n b) (less_cut n b)
less_more n b s s' t offset a a' le e =
    if_more (n == 0) (less_by s.flags.carry b) (less_by s'.flags.carry b) (less_more_by s.flags.carry s'.flags.carry b a.carry le.flags.carry) s s' t offset a a' le e

-- ---- Z of a register or a pair

known_zero : (x : Option PairFacts) (registers : List ℕ) (c z v : Bool) → KnownHolds x registers c z v → ZeroHolds registers (known_or_nothing x).zero z
known_zero None registers c z v h = tt
known_zero (Some f) registers c z v h = h.zero

zero_fits : (x : Option PairFacts) → KnownFits x → ZeroFits (known_or_nothing x).zero
zero_fits None fits = tt
zero_fits (Some f) fits = fits.zero

zero_within : (x y : Option PairFacts) → IsKnownWithin x y → IsZeroWithin (known_or_nothing x).zero (known_or_nothing y).zero
zero_within None None le = tt
zero_within None (Some g) le = absurd le
zero_within (Some f) None le = tt
zero_within (Some f) (Some g) le = le.zero

zero_keeps_by : (c : ZeroTag) (b : Bool) (m : State) → ZeroFits c → ZeroHolds m.registers c b → KeepsMachine m (zero_by c b)
zero_keeps_by zero.None b m fits h = nothing_keeps m
zero_keeps_by (zero.Byte x) b m fits h = same_keeps (place.Byte x) b 0 m fits tt (sym h)
zero_keeps_by (zero.Pair r) b m fits h = same_keeps (place.Pair r) b 0 m fits tt (sym h)

zero_leaves_by : (c : ZeroTag) (b : Bool) → ZeroFits c → LeavesLess (zero_by c b)
zero_leaves_by zero.None b fits = nothing_leaves
zero_leaves_by (zero.Byte x) b fits = same_leaves (place.Byte x) b 0 fits
zero_leaves_by (zero.Pair r) b fits = same_leaves (place.Pair r) b 0 fits

zero_more_by : (c d : ZeroTag) (b : Bool) → ZeroFits c → IsZeroWithin c d → LeavesMoreBy (zero_by c b) (zero_by d b)
zero_more_by c zero.None b fits within = nothing_more (zero_by c b) (zero_leaves_by c b fits)
zero_more_by c (zero.Byte x) b fits within =
    let P : ZeroTag → Type 0 = λ d. LeavesMoreBy (zero_by d b) (zero_by (zero.Byte x) b) in
    subst P (sym within) (same_more (place.Byte x) b 0 (subst ZeroFits within fits))
zero_more_by c (zero.Pair r) b fits within =
    let P : ZeroTag → Type 0 = λ d. LeavesMoreBy (zero_by d b) (zero_by (zero.Pair r) b) in
    subst P (sym within) (same_more (place.Pair r) b 0 (subst ZeroFits within fits))

pub zero_keeps : (n : ℕ) (b : Bool) (m : State) → flag m.sreg n ≡ b → KeepsMachine m (zero_cut n b)
zero_keeps n b m is o s offset a h =
    let c = (known_or_nothing s.facts).zero in
    if_keeps (n == 1) (zero_by c b) m
    (λ e. zero_keeps_by c b m (zero_fits s.facts a.facts) (subst (ZeroHolds m.registers c) (flag_at n 1 b m.sreg is e) (known_zero s.facts m.registers _ _ _ h.facts))) o s offset a h

pub zero_leaves : (n : ℕ) (b : Bool) → LeavesLess (zero_cut n b)
zero_leaves n b s t offset a e = if_leaves (n == 1) (zero_by (known_or_nothing s.facts).zero b) (zero_leaves_by (known_or_nothing s.facts).zero b (zero_fits s.facts a.facts)) s t offset a e

pub zero_more : (n : ℕ) (b : Bool) → LeavesMoreBy (zero_cut n b) (zero_cut n b)
zero_more n b s s' t offset a a' le e =
    if_more (n == 1) (zero_by (known_or_nothing s.facts).zero b) (zero_by (known_or_nothing s'.facts).zero b)
    (zero_more_by (known_or_nothing s.facts).zero (known_or_nothing s'.facts).zero b (zero_fits s.facts a.facts) (zero_within s.facts s'.facts le.facts)) s s' t offset a a' le e

-- ---- two sides

both_was : (left right : CutPlace) (x y : Option Interval) (s t : AbsState) → narrow_both left right x y s ≡ Some t
    → (i : Interval) × (j : Interval) × (x ≡ Some i) × (y ≡ Some j) × (after (narrow_at left i s) (narrow_at right j) ≡ Some t)
both_was left right None y s t e = absurd (cc)
both_was left right (Some i) None s t e = absurd (cc)
both_was left right (Some i) (Some j) s t e = (i, j, refl, refl, e)

both_some : (left right : CutPlace) (x y : Option Interval) (i j : Interval) (s : AbsState) → x ≡ Some i → y ≡ Some j
    → narrow_both left right x y s ≡ after (narrow_at left i s) (narrow_at right j)
both_some left right x y i j s p q =
    ap (λ (z : Option Interval). narrow_both left right z y s) p ∙ ap (λ (z : Option Interval). narrow_both left right (Some i) z s) q

both_keeps : (left right : CutPlace) (x y : Option Interval) (i j : Interval) (m : State) → PlaceFits left → PlaceFits right → x ≡ Some i → y ≡ Some j → IsIn left i m.registers → IsIn right j m.registers
    → KeepsMachine m (narrow_both left right x y)
both_keeps left right x y i j m l r p q in_left in_right o s offset a h =
    let t = after_keeps m (narrow_at left i) (narrow_at right j) (place_leaves left i l) (place_keeps left i m l in_left) (place_keeps right j m r in_right) o s offset a h in
    (t.0, (both_some left right x y i j s p q ∙ t.1.0, t.1.1))

both_leaves : (left right : CutPlace) (x y : Option Interval) → PlaceFits left → PlaceFits right → LeavesLess (narrow_both left right x y)
both_leaves left right x y l r s t offset a e =
    let was = both_was left right x y s t e in
    after_leaves (narrow_at left was.0) (narrow_at right was.1) (place_leaves left was.0 l) (place_leaves right was.1 r) s t offset a was.4

both_more : (left right : CutPlace) (x y x' y' : Option Interval) → PlaceFits left → PlaceFits right → LeavesMore x x' → LeavesMore y y'
    → LeavesMoreBy (narrow_both left right x y) (narrow_both left right x' y')
both_more left right x y x' y' l r more more' s s' t offset a a' le e =
    let was = both_was left right x y s t e in
    let i = more was.0 was.2 in
    let j = more' was.1 was.3 in
    let u =
    after_more (narrow_at left was.0) (narrow_at left i.0) (narrow_at right was.1) (narrow_at right j.0) (place_leaves left was.0 l) (place_leaves left i.0 l)
    (place_more left was.0 i.0 l i.1.1) (place_more right was.1 j.0 r j.1.1) s s' t offset a a' le was.4 in
    (u.0, (both_some left right x' y' i.0 j.0 s' i.1.0 j.1.0 ∙ u.1.0, u.1.1))

-- ---- the right side

side_fits : (y : Side) → SideFits y → PlaceFits (side_place y)
side_fits (side.Byte k) fits = tt
side_fits (side.Register q) fits = fits

-- the value of a side's byte
record IsSide (s : AbsState) (y : Side) : Type 0 where
  ordered : (side_range s.registers y).low ≤ (side_range s.registers y).high
  small : (side_range s.registers y).high < 256

is_side : (y : Side) (s : AbsState) (offset : ℕ) → SideFits y → IsFormed s offset → IsSide s y
is_side (side.Byte k) s offset fits a = record { ordered = omega arith; small = fits }
is_side (side.Register q) s offset fits a = record { ordered = range_ordered (place.Byte q) s offset fits a; small = range_high (place.Byte q) s offset fits a }

side_holds : (y : Side) (o : Origin) (s : AbsState) (m : State) → SideFits y → StandsFor o s m → InInterval (side_range s.registers y) (side_byte m.registers y)
side_holds (side.Byte k) o s m fits h = record { low = omega arith; high = omega arith }
side_holds (side.Register q) o s m fits h = range_holds (place.Byte q) o s m fits h

side_in : (y : Side) (i : Interval) (m : State) → InInterval i (side_byte m.registers y) → IsIn (side_place y) i m.registers
side_in (side.Byte k) i m h = tt
side_in (side.Register q) i m h = h

side_within : (y : Side) (s s' : AbsState) (offset : ℕ) → SideFits y → IsFormed s offset → IsStateWithin s s' → IsIntervalWithin (side_range s.registers y) (side_range s'.registers y)
side_within (side.Byte k) s s' offset fits a le = intervals_are_ordered.same (just k)
side_within (side.Register q) s s' offset fits a le = range_within (place.Byte q) s s' offset fits a le

-- the right side of a comparison of pairs
abbrev word_at : List ℕ → Side → ℕ → ℕ
word_at registers y p = side_byte registers y + 256 * slice_index registers p

record IsRight (to : CutPlace) (y : Side) (p : ℕ) : Type 0 where
  fits : PlaceFits to
  holds : (o : Origin) (s : AbsState) (m : State) → StandsFor o s m → InInterval (pair_range s to y p) (word_at m.registers y p)
  inside : (i : Interval) (m : State) → InInterval i (word_at m.registers y p) → IsIn to i m.registers
  ordered : (s : AbsState) (offset : ℕ) → IsFormed s offset → (pair_range s to y p).low ≤ (pair_range s to y p).high
  small : (s : AbsState) (offset : ℕ) → IsFormed s offset → (pair_range s to y p).high < 65536
  within : (s s' : AbsState) (offset : ℕ) → IsFormed s offset → IsStateWithin s s' → IsIntervalWithin (pair_range s to y p) (pair_range s' to y p)

word_right : (y : Side) (p : ℕ) → SideFits y → p < 32 → IsRight place.Neither y p
word_right y p fits lt = record {
  fits = tt;
  holds = λ o s m h.
      let lo = side_holds y o s m fits h in
      let hi = range_holds (place.Byte p) o s m lt h in
      record { low = omega (arith, lo.low, hi.low); high = omega (arith, lo.high, hi.high) };
  inside = λ i m h. tt;
  ordered = λ s offset a.
      let lo = is_side y s offset fits a in
      let hi = range_ordered (place.Byte p) s offset lt a in
      omega (arith, lo.ordered, hi);
  small = λ s offset a.
      let lo = is_side y s offset fits a in
      let hi = range_high (place.Byte p) s offset lt a in
      omega (arith, lo.small, hi);
  within = λ s s' offset a le.
      let lo = side_within y s s' offset fits a le in
      let hi = range_within (place.Byte p) s s' offset lt a le in
      record { low = omega (arith, lo.low, hi.low); high = omega (arith, lo.high, hi.high) };
}

pair_right : (q p : ℕ) → IsPair q → p ≡ q + 1 → IsRight (place.Pair q) (side.Register q) p
pair_right q p fits e = record {
  fits = fits;
  holds = λ o s m h.
      subst (λ (k : ℕ). InInterval (interval_of s.facts q) (slice_index m.registers q + 256 * slice_index m.registers k)) (sym e) (range_holds (place.Pair q) o s m fits h);
  inside = λ i m h. subst (λ (k : ℕ). InInterval i (slice_index m.registers q + 256 * slice_index m.registers k)) e h;
  ordered = λ s offset a. range_ordered (place.Pair q) s offset fits a;
  small = λ s offset a. range_high (place.Pair q) s offset fits a;
  within = λ s s' offset a le. range_within (place.Pair q) s s' offset fits a le;
}

both_true : (a b : Bool) → (a && b) ≡ true → (a ≡ true) × (b ≡ true)
both_true true b e = (refl, e)
both_true false b e = absurd (false≢true e)

is_right : (y : Side) (p : ℕ) → SideFits y → p < 32 → IsRight (pair_place y p) y p
is_right (side.Byte k) p fits lt = word_right (side.Byte k) p fits lt
is_right (side.Register q) p fits lt = by ((q % 2 == 0) && (p == q + 1)) refl
  where
    by : (t : Bool) → ((q % 2 == 0) && (p == q + 1)) ≡ t → IsRight (if t then place.Pair q else place.Neither) (side.Register q) p
    by true e =
        let both = both_true (q % 2 == 0) (p == q + 1) e in
        pair_right q p (record { register = fits; even = eqb-true (q % 2) 0 both.0 }) (eqb-true p (q + 1) both.1)
    by false e = word_right (side.Register q) p fits lt

-- ---- C, Z and S of two sides

compare_keeps_by : (c : CompareTag) (u : Outcome) (n : ℕ) (b : Bool) (m : State) → outcome_of n b ≡ Some u → flag m.sreg n ≡ b → CompareFits c
    → CompareHolds m.registers c (flag m.sreg 0) (flag m.sreg 1) (flag m.sreg 4) → KeepsMachine m (compare_by c u)
compare_keeps_by compare.None u n b m told is fits h o s offset a stand = nothing_keeps m o s offset a stand
compare_keeps_by (compare.Byte x y) u n b m told is fits h o s offset a stand =
    let i = range_of s.registers x in
    let j = side_range s.registers y in
    let holds = range_holds (place.Byte x) o s m fits.0 stand in
    let right = is_side y s offset fits.1 a in
    let parts =
    parts_keep u 128 i j (register m x) (side_byte m.registers y) (omega arith) (range_high (place.Byte x) s offset fits.0 a) (omega (arith, right.small)) holds
    (side_holds y o s m fits.1 stand) (agrees 128 (register m x) (side_byte m.registers y) m.sreg h n b u told is) in
    both_keeps (place.Byte x) (side_place y) (left_part u 128 i j) (right_part u i j) parts.0.0 parts.1.0 m fits.0 (side_fits y fits.1) parts.0.1.0 parts.1.1.0 parts.0.1.1
    (side_in y parts.1.0 m parts.1.1.1) o s offset a stand
compare_keeps_by (compare.Pair r y p) u n b m told is fits h o s offset a stand =
    let to = pair_place y p in
    let right = is_right y p fits.1 fits.2 in
    let i = interval_of s.facts r in
    let j = pair_range s to y p in
    let parts =
    parts_keep u 32768 i j (pair_number m.registers r) (word_at m.registers y p) (omega arith) (range_high (place.Pair r) s offset fits.0 a) (right.small s offset a)
    (range_holds (place.Pair r) o s m fits.0 stand) (right.holds o s m stand) (agrees 32768 (pair_number m.registers r) (word_at m.registers y p) m.sreg h n b u told is) in
    both_keeps (place.Pair r) to (left_part u 32768 i j) (right_part u i j) parts.0.0 parts.1.0 m fits.0 right.fits parts.0.1.0 parts.1.1.0 parts.0.1.1
    (right.inside parts.1.0 m parts.1.1.1) o s offset a stand

compare_leaves_by : (c : CompareTag) (u : Outcome) → CompareFits c → LeavesLess (compare_by c u)
compare_leaves_by compare.None u fits s t offset a e = nothing_leaves s t offset a e
compare_leaves_by (compare.Byte x y) u fits s t offset a e =
    both_leaves (place.Byte x) (side_place y) (left_part u 128 (range_of s.registers x) (side_range s.registers y)) (right_part u (range_of s.registers x) (side_range s.registers y))
    fits.0 (side_fits y fits.1) s t offset a e
compare_leaves_by (compare.Pair r y p) u fits s t offset a e =
    let i = interval_of s.facts r in
    let j = pair_range s (pair_place y p) y p in
    both_leaves (place.Pair r) (pair_place y p) (left_part u 32768 i j) (right_part u i j) fits.0 (is_right y p fits.1 fits.2).fits s t offset a e

byte_compare_more : (x : ℕ) (y : Side) (u : Outcome) → x < 32 → SideFits y → LeavesMoreBy (compare_by (compare.Byte x y) u) (compare_by (compare.Byte x y) u)
byte_compare_more x y u lt fits s s' t offset a a' le e =
    let left = is_side y s offset fits a in
    let left' = is_side y s' offset fits a' in
    let i = range_of s.registers x in
    let j = side_range s.registers y in
    let i' = range_of s'.registers x in
    let j' = side_range s'.registers y in
    let parts =
    parts_more u 128 i j i' j' (omega arith) (range_ordered (place.Byte x) s offset lt a) left.ordered (omega (arith, left'.small)) (range_within (place.Byte x) s s' offset lt a le)
    (side_within y s s' offset fits a le) in
    both_more (place.Byte x) (side_place y) (left_part u 128 i j) (right_part u i j) (left_part u 128 i' j') (right_part u i' j') lt (side_fits y fits) parts.0 parts.1 s s' t offset a a' le e

pair_compare_more : (r : ℕ) (y : Side) (p : ℕ) (u : Outcome) → IsPair r → SideFits y → p < 32 → LeavesMoreBy (compare_by (compare.Pair r y p) u) (compare_by (compare.Pair r y p) u)
pair_compare_more r y p u pair fits lt s s' t offset a a' le e =
    let to = pair_place y p in
    let right = is_right y p fits lt in
    let i = interval_of s.facts r in
    let j = pair_range s to y p in
    let i' = interval_of s'.facts r in
    let j' = pair_range s' to y p in
    let parts =
    parts_more u 32768 i j i' j' (omega arith) (range_ordered (place.Pair r) s offset pair a) (right.ordered s offset a) (right.small s' offset a')
    (range_within (place.Pair r) s s' offset pair a le) (right.within s s' offset a le) in
    both_more (place.Pair r) to (left_part u 32768 i j) (right_part u i j) (left_part u 32768 i' j') (right_part u i' j') pair right.fits parts.0 parts.1 s s' t offset a a' le e

compare_more_by : (c d : CompareTag) (u : Outcome) → CompareFits c → IsCompareWithin c d → LeavesMoreBy (compare_by c u) (compare_by d u)
compare_more_by c compare.None u fits within = nothing_more (compare_by c u) (compare_leaves_by c u fits)
compare_more_by c (compare.Byte x y) u fits within =
    let P : CompareTag → Type 0 = λ d. LeavesMoreBy (compare_by d u) (compare_by (compare.Byte x y) u) in
    let fit : CompareFits (compare.Byte x y) = subst CompareFits within fits in
    subst P (sym within) (byte_compare_more x y u fit.0 fit.1)
compare_more_by c (compare.Pair r y p) u fits within =
    let P : CompareTag → Type 0 = λ d. LeavesMoreBy (compare_by d u) (compare_by (compare.Pair r y p) u) in
    let fit : CompareFits (compare.Pair r y p) = subst CompareFits within fits in
    subst P (sym within) (pair_compare_more r y p u fit.0 fit.1 fit.2)

known_compare : (x : Option PairFacts) (registers : List ℕ) (c z v : Bool) → KnownHolds x registers c z v → CompareHolds registers (known_or_nothing x).compare c z v
known_compare None registers c z v h = tt
known_compare (Some f) registers c z v h = h.compare

compare_fits : (x : Option PairFacts) → KnownFits x → CompareFits (known_or_nothing x).compare
compare_fits None fits = tt
compare_fits (Some f) fits = fits.compare

compare_within : (x y : Option PairFacts) → IsKnownWithin x y → IsCompareWithin (known_or_nothing x).compare (known_or_nothing y).compare
compare_within None None le = tt
compare_within None (Some g) le = absurd le
compare_within (Some f) None le = tt
compare_within (Some f) (Some g) le = le.compare

told_keeps : (x : Option Outcome) (n : ℕ) (b : Bool) (m : State) → outcome_of n b ≡ x → flag m.sreg n ≡ b → KeepsMachine m (compare_told x)
told_keeps None n b m told is o s offset a h = nothing_keeps m o s offset a h
told_keeps (Some u) n b m told is o s offset a h =
    let c = (known_or_nothing s.facts).compare in
    compare_keeps_by c u n b m told is (compare_fits s.facts a.facts) (known_compare s.facts m.registers _ _ _ h.facts) o s offset a h

pub compare_keeps : (n : ℕ) (b : Bool) (m : State) → flag m.sreg n ≡ b → KeepsMachine m (compare_cut n b)
compare_keeps n b m is = told_keeps (outcome_of n b) n b m refl is

told_leaves : (x : Option Outcome) → LeavesLess (compare_told x)
told_leaves None s t offset a e = nothing_leaves s t offset a e
told_leaves (Some u) s t offset a e = compare_leaves_by (known_or_nothing s.facts).compare u (compare_fits s.facts a.facts) s t offset a e

pub compare_leaves : (n : ℕ) (b : Bool) → LeavesLess (compare_cut n b)
compare_leaves n b = told_leaves (outcome_of n b)

told_more : (x : Option Outcome) → LeavesMoreBy (compare_told x) (compare_told x)
told_more None s s' t offset a a' le e = nothing_more (λ s. Some s) nothing_leaves s s' t offset a a' le e
told_more (Some u) s s' t offset a a' le e =
    compare_more_by (known_or_nothing s.facts).compare (known_or_nothing s'.facts).compare u (compare_fits s.facts a.facts) (compare_within s.facts s'.facts le.facts) s s' t offset a a' le e

pub compare_more : (n : ℕ) (b : Bool) → LeavesMoreBy (compare_cut n b) (compare_cut n b)
compare_more n b = told_more (outcome_of n b)
