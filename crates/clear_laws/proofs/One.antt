-- The list of words at which a step may be flagged is unique.
use Rattle.std.proofs.Common.{◌≡◌, refl, sym, ap, ap₂, ◌∙◌, subst, ℕ, ◌<◌, ⊎_elim, Bool, true, false, List, [], ◌∷◌, map, Option, Some, None, Contains, arith}
use Rattle.std.specs.Prelude.{◌↔◌}
use Rattle.std.specs.List.{AllByRecursion}
use Rattle.std.specs.List.Sorted.{IsStrictlySortedBy}
use Rattle.std.specs.Ordering.{nat_cmp}
use Rattle.std.specs.declared.cmp.Ordering.TheVariants.{Less}
use Rattle.std.proofs.lemmas.Bool.Decides.{nat_tests}
use Rattle.std.proofs.lemmas.Option.{same_Some}
use Rattle.basics.specs.Items.{none_in, first_in, further_in, first_or_further, contained_at}
use Rattle.avr_model.specs.Devices.{Image}
use Rattle.basics.specs.Lists.{same_head_and_tail}
use Rattle.local_rules.specs.declared.local.Node.{Node}
use Rattle.edge_rules.specs.Families.{RankedFamily}
use Rattle.edge_laws.proofs.ExpansionLaws.{filled_or_missing}
use Rattle.certificate.specs.Claims.{Claim}
use Rattle.certificate.specs.Valid.{family_of}
use Rattle.clear_laws.specs.Clear.{IsClear, MayBeFlagged, MayBeTaken}
use Rattle.clear_laws.specs.Causes.{MayWriteLive, MayGoUnlisted, MayMove}
use Rattle.clear_laws.specs.declared.verdict.ClearVerdict.TheVariants.{Clear, Unclear}
use Rattle.clear_laws.specs.declared.place.FlaggedPlace.{FlaggedPlace}
use Rattle.clear_laws.specs.declared.stores.PointerNumbers.{PointerNumbers}
use Rattle.clear_laws.specs.declared.stores.PointerPair.{PointerPair}
use Rattle.clear_laws.specs.Pointers.{pointer_of, MayHoldNumber, AreNumbersAt, IsPointerAt}
use Rattle.clear_laws.specs.Verdict.{AreAllClear, IsFirstUnclear, AreSites, AreNevers}
use Rattle.clear_laws.specs.Places.{word_of, IsPlaceOf}
use Rattle.clear_laws.specs.ListLaws.{SitesAreOne, PlacesAreOne, NeversAreOne, ClearWhereNoSites}
use Rattle.local_rules.specs.Site.{Task, bare}

-- ---- ascending lists with the same members are the same

of_all : (P : ℕ → Type 0) (xs : List ℕ) (x : ℕ) → AllByRecursion P xs → Contains xs x → P x
of_all P [] x all h = absurd (none_in x h)
of_all P (y ∷ ys) x all h = ⊎_elim (λ e. subst P (sym e) all.0) (λ i. of_all P ys x all.1 i) (first_or_further y x ys h)

from_less : (x y : ℕ) → nat_cmp x y ≡ Less → x < y
from_less x y e = grind (arith, nat_tests)

heads : (x y : ℕ) (xs ys : List ℕ) → AllByRecursion (λ z. nat_cmp x z ≡ Less) xs → AllByRecursion (λ z. nat_cmp y z ≡ Less) ys → Contains (y ∷ ys) x
    → Contains (x ∷ xs) y → x ≡ y
heads x y xs ys above_x above_y in_y in_x =
    ⊎_elim (λ e. e)
    (λ more. ⊎_elim (λ e. sym e)
    (λ other.
    let a = from_less y x (of_all (λ z. nat_cmp y z ≡ Less) ys x above_y more) in
    let b = from_less x y (of_all (λ z. nat_cmp x z ≡ Less) xs y above_x other) in
    absurd (omega (arith, a, b)))
    (first_or_further x y xs in_x))
    (first_or_further y x ys in_y)

tails : (x y : ℕ) (xs ys : List ℕ) → x ≡ y → AllByRecursion (λ z. nat_cmp x z ≡ Less) xs → (k : ℕ) → Contains xs k → Contains (y ∷ ys) k → Contains ys k
tails x y xs ys same above k has there_k =
    ⊎_elim (λ e. absurd (let lt = from_less x k (of_all (λ z. nat_cmp x z ≡ Less) xs k above has) in omega (arith, lt, e, same))) (λ more. more) (first_or_further y k ys there_k)

same_lists : (xs ys : List ℕ) → IsStrictlySortedBy nat_cmp xs → IsStrictlySortedBy nat_cmp ys → ((k : ℕ) → Contains xs k → Contains ys k)
    → ((k : ℕ) → Contains ys k → Contains xs k) → xs ≡ ys
unfolding IsStrictlySortedBy
same_lists [] [] hx hy to from = refl
same_lists [] (y ∷ ys) hx hy to from = absurd (none_in y (from y (first_in y ys)))
same_lists (x ∷ xs) [] hx hy to from = absurd (none_in x (to x (first_in x xs)))
same_lists (x ∷ xs) (y ∷ ys) hx hy to from =
    let e : x ≡ y = heads x y xs ys hx.0 hy.0 (to x (first_in x xs)) (from y (first_in y ys)) in
    let rest : xs ≡ ys =
    same_lists xs ys hx.1 hy.1 (λ k h. tails x y xs ys e hx.0 k h (to k (further_in x k xs h))) (λ k h. tails y x ys xs (sym e) hy.0 k h (from k (further_in y k ys h))) in
    cc

-- ---- the laws

one_way : (task : Task) (c : Claim) (xs ys : List ℕ) → AreSites task c xs → AreSites task c ys → (pc : ℕ) → Contains xs pc → Contains ys pc
one_way task c xs ys a b pc h =
    let same = filled_or_missing.one task c.nodes a.nodes b.nodes a.expanded b.expanded in
    (b.exact pc).1 (subst (λ (nodes : List Node). MayBeFlagged task (family_of c nodes) pc) same ((a.exact pc).0 h))

pub sites_are_one : SitesAreOne
sites_are_one task c xs ys a b = same_lists xs ys a.ascending b.ascending (one_way task c xs ys a b) (one_way task c ys xs b a)

-- ---- what may happen at a word

same_test : (P : Type 0) (a b : Bool) → (a ≡ true) ↔ P → (b ≡ true) ↔ P → a ≡ b
same_test P true true h g = refl
same_test P false false h g = refl
same_test P true false h g = sym (g.1 (h.0 refl))
same_test P false true h g = h.1 (g.0 refl)

abbrev pointer_numbers : PointerPair → ℕ → ℕ → PointerNumbers
pointer_numbers p first last = record { pair = p; numbers = record { first = first; last = last } }

abbrev flagged_place : ℕ → List ℕ → Bool → Bool → Bool → Option PointerNumbers → FlaggedPlace
flagged_place word protected live transfer moves pointer =
    record { word = word; protected = protected; live = live; transfer = transfer; moves = moves; pointer = pointer }

module _ (task : Task) (f : RankedFamily) where
  -- the pointer is that of the one instruction there
  one_pair : (pc : ℕ) (p q : PointerPair) (m n : ℕ) → MayHoldNumber task f pc p m → MayHoldNumber task f pc q n → p ≡ q
  one_pair pc p q m n h k =
      let instr : h.instr ≡ k.instr = same_Some h.instr k.instr (sym h.instruction ∙ k.instruction) in
      same_Some p q (sym h.pointer ∙ ap pointer_of instr ∙ k.pointer)

  same_numbers : (pc : ℕ) (x y : PointerNumbers) → AreNumbersAt task f pc x → AreNumbersAt task f pc y → x ≡ y
  same_numbers pc x y h k =
      let pair : x.pair ≡ y.pair = one_pair pc x.pair y.pair x.numbers.first y.numbers.first h.first k.first in
      let to : (n : ℕ) → MayHoldNumber task f pc x.pair n → MayHoldNumber task f pc y.pair n = λ n. subst (λ p. MayHoldNumber task f pc p n) pair in
      let from : (n : ℕ) → MayHoldNumber task f pc y.pair n → MayHoldNumber task f pc x.pair n = λ n. subst (λ p. MayHoldNumber task f pc p n) (sym pair) in
      let least_x = h.least y.numbers.first (from y.numbers.first k.first) in
      let least_y = k.least x.numbers.first (to x.numbers.first h.first) in
      let greatest_x = h.greatest y.numbers.last (from y.numbers.last k.last) in
      let greatest_y = k.greatest x.numbers.last (to x.numbers.last h.last) in
      let first : x.numbers.first ≡ y.numbers.first = omega (arith, least_x, least_y) in
      let last : x.numbers.last ≡ y.numbers.last = omega (arith, greatest_x, greatest_y) in
      ap (λ (p : PointerPair). pointer_numbers p x.numbers.first x.numbers.last) pair ∙ ap (λ n. pointer_numbers y.pair n x.numbers.last) first
      ∙ ap (λ n. pointer_numbers y.pair y.numbers.first n) last

  one_pointer : (pc : ℕ) (x y : Option PointerNumbers) → IsPointerAt task f pc x → IsPointerAt task f pc y → x ≡ y
  one_pointer pc None None h k = refl
  one_pointer pc None (Some y) h k = absurd (h y.pair y.numbers.first k.first)
  one_pointer pc (Some x) None h k = absurd (k x.pair x.numbers.first h.first)
  one_pointer pc (Some x) (Some y) h k = ap (λ (p : PointerNumbers). Some p) (same_numbers pc x y h k)

  one_place : (x y : FlaggedPlace) → x.word ≡ y.word → IsPlaceOf task f x → IsPlaceOf task f y → x ≡ y
  one_place x y e h k =
      let here : IsPlaceOf task f (flagged_place x.word y.protected y.live y.transfer y.moves y.pointer) =
      subst (λ w. IsPlaceOf task f (flagged_place w y.protected y.live y.transfer y.moves y.pointer)) (sym e) k in
      let protected : x.protected ≡ y.protected =
      same_lists x.protected y.protected h.ascending here.ascending (λ a m. (here.protected a).1 ((h.protected a).0 m)) (λ a m. (h.protected a).1 ((here.protected a).0 m)) in
      let live : x.live ≡ y.live = same_test (MayWriteLive task f x.word) x.live y.live h.live here.live in
      let transfer : x.transfer ≡ y.transfer = same_test (MayGoUnlisted task f x.word) x.transfer y.transfer h.transfer here.transfer in
      let moves : x.moves ≡ y.moves = same_test (MayMove task f x.word) x.moves y.moves h.moves here.moves in
      let pointer : x.pointer ≡ y.pointer = one_pointer x.word x.pointer y.pointer h.pointer here.pointer in
      ap (λ w. flagged_place w x.protected x.live x.transfer x.moves x.pointer) e
      ∙ ap (λ l. flagged_place y.word l x.live x.transfer x.moves x.pointer) protected
      ∙ ap (λ t. flagged_place y.word y.protected t x.transfer x.moves x.pointer) live
      ∙ ap (λ t. flagged_place y.word y.protected y.live t x.moves x.pointer) transfer
      ∙ ap (λ t. flagged_place y.word y.protected y.live y.transfer t x.pointer) moves
      ∙ ap (λ t. flagged_place y.word y.protected y.live y.transfer y.moves t) pointer

  same_places : (xs ys : List FlaggedPlace) → map word_of xs ≡ map word_of ys → ((p : FlaggedPlace) → Contains xs p → IsPlaceOf task f p)
      → ((p : FlaggedPlace) → Contains ys p → IsPlaceOf task f p) → xs ≡ ys
  same_places [] [] e h k = refl
  same_places [] (y ∷ ys) e h k = absurd (cc)
  same_places (x ∷ xs) [] e h k = absurd (cc)
  same_places (x ∷ xs) (y ∷ ys) e h k =
      let both = same_head_and_tail x.word y.word (map word_of xs) (map word_of ys) e in
      ap₂ (λ (p : FlaggedPlace) (ps : List FlaggedPlace). p ∷ ps) (one_place x y both.0 (h x (first_in x xs)) (k y (first_in y ys)))
      (same_places xs ys both.1 (λ p m. h p (further_in x p xs m)) (λ p m. k p (further_in y p ys m)))

pub places_are_one : PlacesAreOne
places_are_one task c xs ys a b =
    let same = filled_or_missing.one task c.nodes a.nodes b.nodes a.expanded b.expanded in
    same_places task (family_of c b.nodes) xs ys (sites_are_one task c (map word_of xs) (map word_of ys) a.sites b.sites)
    (subst (λ (nodes : List Node). (p : FlaggedPlace) → Contains xs p → IsPlaceOf task (family_of c nodes) p) same a.each) b.each

one_take : (task : Task) (c : Claim) (xs ys : List ℕ) → AreNevers task c xs → AreNevers task c ys → (w : ℕ) → Contains xs w → Contains ys w
one_take task c xs ys a b w h =
    let same = filled_or_missing.one task c.nodes a.nodes b.nodes a.expanded b.expanded in
    (b.exact w).1 (subst (λ (nodes : List Node). MayBeTaken task nodes w) same ((a.exact w).0 h))

pub nevers_are_one : NeversAreOne
nevers_are_one task c xs ys a b = same_lists xs ys a.ascending b.ascending (one_take task c xs ys a b) (one_take task c ys xs b a)

listed : (image : Image) (c : Claim) (j pc : ℕ) (sites : List ℕ) → IsFirstUnclear (bare image) c j pc → AreSites (bare image) c sites → Contains sites pc
listed image c j pc sites first are =
    let same = filled_or_missing.one (bare image) c.nodes first.nodes are.nodes first.expanded are.expanded in
    let m : MayBeFlagged (bare image) (family_of c first.nodes) pc =
    record { node = first.node; present = contained_at first.nodes j first.node first.is; is = first.word; unclear = first.unclear } in
    (are.exact pc).1 (subst (λ (nodes : List Node). MayBeFlagged (bare image) (family_of c nodes) pc) same m)

pub none_where_clear : (task : Task) (c : Claim) (sites : List ℕ) → AreSites task c sites → AreAllClear task c → sites ≡ []
none_where_clear task c [] are all = refl
none_where_clear task c (pc ∷ sites) are all =
    let same = filled_or_missing.one task c.nodes all.nodes are.nodes all.expanded are.expanded in
    let m = (are.exact pc).0 (first_in pc sites) in
    absurd (m.unclear (subst (λ (nodes : List Node). (n : Node) → Contains nodes n → IsClear task (family_of c nodes) n) same all.clear m.node m.present))

pub clear_where_no_sites : ClearWhereNoSites
clear_where_no_sites image c Clear sites all are = (λ e. none_where_clear (bare image) c sites are all, λ e. refl)
clear_where_no_sites image c (Unclear j pc) sites first are = (
  λ e. absurd cc,
  λ e. absurd (none_in pc (subst (λ (xs : List ℕ). Contains xs pc) e (listed image c j pc sites first are))),
)
