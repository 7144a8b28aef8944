-- The splits vector by vector, starting with all unknown bits 0.
use Rattle.std.proofs.Common.{◌≡◌, ◌∙◌, sym, ap, refl, inl, inr, ℕ, suc, ◌+◌, ◌-◌, ◌*◌, ◌/◌, ◌^◌, ◌%◌, ◌<◌, ◌≤◌, arith, Bool, true, false, cond, eqb, ◌==◌, ◌&&◌, ◌||◌, subst, List, [], ◌∷◌, ◌++◌, map, Option, Some, None, w8}
use Rattle.std.specs.Int.{bit_at, from_bool, bit_not}
use Rattle.std.specs.List.{AllByRecursion, Contains}
use Rattle.std.proofs.lemmas.Bool.{cases_eq}
use Rattle.std.proofs.lemmas.List.{map-append}
use Rattle.std.proofs.lemmas.List.Elements.{All-weaker, All-contains_itself, recursion_from_All}
use Rattle.std.proofs.lemmas.Nat.{div_below, pow-add, pow_pos}
use Rattle.std.proofs.lemmas.Nat.Bits.{bit_at-lt}
use Rattle.std.proofs.Math.Nat.{mul-le-mul_right, mod-eq_of_lt}
use Rattle.avr_model.specs.declared.device.Device.{Device}
use Rattle.avr_model.specs.declared.rows.EnablePlace.{EnablePlace}
use Rattle.avr_model.specs.Vectors.{enable_count, last_vector, is_sticky, has_common, has_enables, enable_place_at, with_enable, written_enable, written_enables}
use Rattle.bit_domain.specs.declared.bits.Tri.{Tri}
use Rattle.bit_domain.specs.declared.bits.Tri.TheVariants.{Zero, One, Any}
use Rattle.bit_domain.specs.declared.bytes.TriByte.{TriByte}
use Rattle.bit_domain.specs.Tri.{tri_bit}
use Rattle.bit_domain.specs.Numbers.{with_top, numbers_of}
use Rattle.bit_domain.proofs.AllLaws.{numbers_are_permitted}
use Rattle.node_keys.specs.Splits.{common_tri, enable_in, enable_tri, splits, is_any}
use Rattle.vector_table.proofs.AllLaws.{enables_are_vectors}
use Rattle.node_keys.proofs.Bits.{enabled_is_sum, from_bit, from_bit_is, from_next, bit_of_sum}
use Rattle.node_keys.proofs.Commons.{some_any, by_tests, one_coded, any_coded}

-- ---- one bit

one_of : (b : Bool) → from_bool (b || true) ≡ 1
one_of true = refl
one_of false = refl

is_known : (a b : Bool) → is_any (cond a One (cond b Any Zero)) ≡ false → cond a One (cond b Any Zero) ≡ tri_bit (from_bool (a || false))
is_known true b h = refl
is_known false true h = absurd (cc)
is_known false false h = refl

is_unknown : (a b : Bool) → is_any (cond a One (cond b Any Zero)) ≡ true → (cond a One (cond b Any Zero) ≡ Any) × (from_bool (a || false) ≡ 0)
is_unknown true b h = absurd (cc)
is_unknown false true h = (refl, refl)
is_unknown false false h = absurd (cc)

by_value : (value : TriByte) (mask : ℕ) → common_tri value mask ≡ cond (has_common value.value mask) One (cond (some_any value mask) Any Zero)
by_value value mask = by_tests value mask (has_common value.value mask) (some_any value mask) (sym (one_coded value mask)) refl

no_any : (b : Bool) → is_any (cond b Zero One) ≡ true → ⊥
no_any true h = absurd (cc)
no_any false h = absurd (cc)

known_row : (o : Option EnablePlace) (value : TriByte) (old : ℕ) → is_any (enable_in o value old) ≡ false
    → enable_in o value old ≡ tri_bit (written_enable o value.value old)
known_row None value old h = refl
known_row (Some p) value old h = by (is_sticky p.enable && (old == 1)) refl
  where
    by : (s : Bool) → (is_sticky p.enable && (old == 1)) ≡ s
        → enable_in (Some p) value old ≡ tri_bit (from_bool (has_common value.value p.mask || (is_sticky p.enable && (old == 1))))
    by true e = rw e (ap tri_bit (sym (one_of (has_common value.value p.mask))))
    by false e =
        let is : enable_in (Some p) value old ≡ cond (has_common value.value p.mask) One (cond (some_any value p.mask) Any Zero) =
        (λ i. cond (e i) One (common_tri value p.mask)) ∙ by_value value p.mask in
        is ∙ is_known (has_common value.value p.mask) (some_any value p.mask) (ap is_any (sym is) ∙ h)
        ∙ (λ i. tri_bit (from_bool (has_common value.value p.mask || sym e i)))

unknown_row : (o : Option EnablePlace) (value : TriByte) (old : ℕ) → is_any (enable_in o value old) ≡ true
    → (enable_in o value old ≡ Any) × (written_enable o value.value old ≡ 0)
unknown_row None value old h = absurd (no_any (eqb old 0) h)
unknown_row (Some p) value old h = by (is_sticky p.enable && (old == 1)) refl
  where
    by : (s : Bool) → (is_sticky p.enable && (old == 1)) ≡ s
        → (enable_in (Some p) value old ≡ Any) × (written_enable (Some p) value.value old ≡ 0)
    by true e = absurd (let no : is_any (enable_in (Some p) value old) ≡ false = (λ i. is_any (cond (e i) One (common_tri value p.mask))) in cc)
    by false e =
        let is : enable_in (Some p) value old ≡ cond (has_common value.value p.mask) One (cond (some_any value p.mask) Any Zero) =
        (λ i. cond (e i) One (common_tri value p.mask)) ∙ by_value value p.mask in
        let both = is_unknown (has_common value.value p.mask) (some_any value p.mask) (ap is_any (sym is) ∙ h) in
        (is ∙ both.0, (λ i. from_bool (has_common value.value p.mask || e i)) ∙ both.1)

pub old_is : (b : Bool) → (from_bool b == 1) ≡ b
old_is true = refl
old_is false = refl

any_of : (a b : Bool) → is_any (cond a One (cond b Any Zero)) ≡ cond a false b
any_of true b = refl
any_of false true = refl
any_of false false = refl

pub common_any : (value : TriByte) (mask : ℕ) (a b : Bool) → a ≡ has_common value.value mask → b ≡ has_common (bit_not w8 value.known) mask → value.known < 256
    → cond a false b ≡ is_any (common_tri value mask)
common_any value mask a b one any small =
    sym (any_of a b) ∙ (λ i. is_any (cond (one i) One (cond ((any ∙ any_coded value mask small) i) Any Zero))) ∙ sym (ap is_any (by_value value mask))

pub stuck_known : (p : EnablePlace) (value : TriByte) (old : ℕ) → (is_sticky p.enable && (old == 1)) ≡ true → is_any (enable_in (Some p) value old) ≡ false
stuck_known p value old h = λ i. is_any (cond (h i) One (common_tri value p.mask))

pub free_any : (p : EnablePlace) (value : TriByte) (old : ℕ) → (is_sticky p.enable && (old == 1)) ≡ false → is_any (enable_in (Some p) value old) ≡ is_any (common_tri value p.mask)
free_any p value old h = λ i. is_any (cond (h i) One (common_tri value p.mask))

-- ---- lists

map_map : (g h u : ℕ → ℕ) → ((n : ℕ) → g (h n) ≡ u n) → (ns : List ℕ) → map g (map h ns) ≡ map u ns
map_map g h u e [] = refl
map_map g h u e (n ∷ ns) = λ i. e n i ∷ map_map g h u e ns i

map_same : (g h : ℕ → ℕ) → ((n : ℕ) → g n ≡ h n) → (ns : List ℕ) → map g ns ≡ map h ns
map_same g h e [] = refl
map_same g h e (n ∷ ns) = λ i. e n i ∷ map_same g h e ns i

map_where : (P : ℕ → Type 0) (g h : ℕ → ℕ) → ((n : ℕ) → P n → g n ≡ h n) → (ns : List ℕ) → AllByRecursion P ns → map g ns ≡ map h ns
map_where P g h e [] all = refl
map_where P g h e (n ∷ ns) all = λ i. e n all.0 i ∷ map_where P g h e ns all.1 i

map_itself : (g : ℕ → ℕ) → ((n : ℕ) → g n ≡ n) → (ns : List ℕ) → map g ns ≡ ns
map_itself g e [] = refl
map_itself g e (n ∷ ns) = λ i. e n i ∷ map_itself g e ns i

numbers_small : (f : ℕ → Tri) (k : ℕ) → AllByRecursion (λ n. n < 2 ^ k) (numbers_of f k)
numbers_small f k =
    recursion_from_All (λ n. n < 2 ^ k) (numbers_of f k)
    (All-weaker (Contains (numbers_of f k)) (λ n. n < 2 ^ k) (λ n here. ((numbers_are_permitted.members f k n).0 here).small) (numbers_of f k)
    (All-contains_itself (numbers_of f k)))

-- ---- after the vectors of the bits below k: the bits from k on are those of b

abbrev pub left : ℕ → (ℕ → Tri) → ℕ → List ℕ
left b f k = map (λ n. from_bit b k + n) (numbers_of f k)

pub left_first : (b : ℕ) (f : ℕ → Tri) → left b f 0 ≡ b ∷ []
unfolding numbers_of
left_first b f = let e : b - b % 2 ^ 0 + 0 ≡ b = omega arith in λ i. e i ∷ []

pub left_all : (n b : ℕ) (f : ℕ → Tri) → b < 2 ^ n → left b f n ≡ numbers_of f n
left_all n b f h =
    let whole : b % 2 ^ n ≡ b = mod-eq_of_lt h in
    let none : b - b % 2 ^ n ≡ 0 = omega arith in
    map_itself (λ x. from_bit b n + x) (λ x. omega arith) (numbers_of f n)

pub left_known : (b : ℕ) (f : ℕ → Tri) (k : ℕ) → f k ≡ tri_bit (bit_at b k) → left b f (suc k) ≡ left b f k
unfolding numbers_of
left_known b f k e =
    let ns = numbers_of f k in
    let next = from_next b k in
    let lt = bit_at-lt b k in
    elim (cases_eq (bit_at b k) 0) [
      | inl none ↦
          let zero_is : f k ≡ Zero = e ∙ ap tri_bit none in
          let same : (n : ℕ) → from_bit b (suc k) + n ≡ from_bit b k + n = λ n. omega (arith, ap (λ (x : ℕ). x * 2 ^ k) none) in
          ap (λ (t : Tri). map (λ n. from_bit b (suc k) + n) (with_top t (2 ^ k) ns)) zero_is
          ∙ map_same (λ n. from_bit b (suc k) + n) (λ n. from_bit b k + n) same ns
      | inr some ↦
          let one : bit_at b k ≡ 1 = omega arith in
          let one_is : f k ≡ One = e ∙ ap tri_bit one in
          let same : (n : ℕ) → from_bit b (suc k) + (2 ^ k + n) ≡ from_bit b k + n = λ n. omega (arith, ap (λ (x : ℕ). x * 2 ^ k) one) in
          ap (λ (t : Tri). map (λ n. from_bit b (suc k) + n) (with_top t (2 ^ k) ns)) one_is
          ∙ map_map (λ n. from_bit b (suc k) + n) (λ n. 2 ^ k + n) (λ n. from_bit b k + n) same ns
    ]

cat_small : (count b k n : ℕ) → b < 2 ^ count → k < count → n < 2 ^ k → from_bit b k + n < 2 ^ count
cat_small count b k n h lt small =
    let q = b / 2 ^ k in
    let exponent : count ≡ (count - k) + k = omega arith in
    let power : 2 ^ count ≡ 2 ^ (count - k) * 2 ^ k = ap (λ (x : ℕ). 2 ^ x) exponent ∙ pow-add 2 (count - k) k in
    let below : q < 2 ^ (count - k) = div_below b (2 ^ k) (2 ^ (count - k)) (pow_pos k) (subst (λ (x : ℕ). b < x) power h) in
    let product : (q + 1) * 2 ^ k ≤ 2 ^ (count - k) * 2 ^ k = mul-le-mul_right (2 ^ k) (omega arith) in
    let more : (q + 1) * 2 ^ k ≡ q * 2 ^ k + 2 ^ k = grind arith in
    let whole : from_bit b k ≡ q * 2 ^ k = from_bit_is b k in
    omega arith

pub left_unknown : (d : Device) (b : ℕ) (f : ℕ → Tri) (k : ℕ) → b < 2 ^ enable_count d → k < enable_count d → f k ≡ Any → bit_at b k ≡ 0
    → left b f (suc k) ≡ left b f k ++ map (λ n. with_enable d n (k + 2) true) (left b f k)
unfolding numbers_of
left_unknown d b f k h lt e none =
    let ns = numbers_of f k in
    let same : from_bit b (suc k) ≡ from_bit b k = omega (arith, from_next b k, ap (λ (x : ℕ). x * 2 ^ k) none) in
    let enabled : (n : ℕ) → n < 2 ^ k → from_bit b (suc k) + (2 ^ k + n) ≡ with_enable d (from_bit b k + n) (k + 2) true = λ n small.
    omega arith ∙ sym (enabled_is_sum d (from_bit b k + n) k (cat_small (enable_count d) b k n h lt small) lt (bit_of_sum b k n small ∙ none)) in
    let low = map_same (λ n. from_bit b (suc k) + n) (λ n. from_bit b k + n) (λ n. ap (λ (x : ℕ). x + n) same) ns in
    let high =
    map_map (λ n. from_bit b (suc k) + n) (λ n. 2 ^ k + n) (λ n. from_bit b (suc k) + (2 ^ k + n)) (λ n. refl) ns
    ∙ map_where (λ n. n < 2 ^ k) (λ n. from_bit b (suc k) + (2 ^ k + n)) (λ n. with_enable d (from_bit b k + n) (k + 2) true) enabled ns (numbers_small f k)
    ∙ sym (map_map (λ n. with_enable d n (k + 2) true) (λ n. from_bit b k + n) (λ n. with_enable d (from_bit b k + n) (k + 2) true) (λ n. refl) ns) in
    ap (λ (t : Tri). map (λ n. from_bit b (suc k) + n) (with_top t (2 ^ k) ns)) e
    ∙ map-append (λ n. from_bit b (suc k) + n) ns (map (λ n. 2 ^ k + n) ns)
    ∙ (λ i. low i ++ high i)

-- ---- one vector

pub step_known : (d : Device) (m address : ℕ) (value : TriByte) (k : ℕ) → k < enable_count d → is_any (enable_in (enable_place_at d (k + 2) address) value (bit_at m k)) ≡ false
    → left (written_enables d m address value.value) (enable_tri d m address value) (suc k)
    ≡ left (written_enables d m address value.value) (enable_tri d m address value) k
unfolding enable_tri
step_known d m address value k lt h =
    left_known (written_enables d m address value.value) (enable_tri d m address value) k
    (known_row (enable_place_at d (k + 2) address) value (bit_at m k) h ∙ ap tri_bit (sym (enables_are_vectors.bit_written d m address value.value k lt)))

pub step_unknown : (d : Device) (m address : ℕ) (value : TriByte) (k : ℕ) → k < enable_count d → is_any (enable_in (enable_place_at d (k + 2) address) value (bit_at m k)) ≡ true
    → left (written_enables d m address value.value) (enable_tri d m address value) (suc k)
    ≡ left (written_enables d m address value.value) (enable_tri d m address value) k
    ++ map (λ n. with_enable d n (k + 2) true) (left (written_enables d m address value.value) (enable_tri d m address value) k)
unfolding enable_tri
step_unknown d m address value k lt h =
    let both = unknown_row (enable_place_at d (k + 2) address) value (bit_at m k) h in
    left_unknown d (written_enables d m address value.value) (enable_tri d m address value) k (enables_are_vectors.written d m address value.value) lt both.0
    (enables_are_vectors.bit_written d m address value.value k lt ∙ both.1)

-- ---- the same by vectors: the unknown bits of the vectors below v are split

abbrev pub below : Device → ℕ → ℕ → TriByte → ℕ → List ℕ
below d m address value v = left (written_enables d m address value.value) (enable_tri d m address value) (v - 2)

next_place : (v : ℕ) → 2 ≤ v → v + 1 - 2 ≡ suc (v - 2)
next_place v h = omega arith

vector_of : (v : ℕ) → 2 ≤ v → v - 2 + 2 ≡ v
vector_of v h = omega arith

unknown_of : (d : Device) (m address : ℕ) (value : TriByte) (v : ℕ) (b : Bool) → 2 ≤ v → is_any (enable_in (enable_place_at d v address) value (bit_at m (v - 2))) ≡ b
    → is_any (enable_in (enable_place_at d (v - 2 + 2) address) value (bit_at m (v - 2))) ≡ b
unknown_of d m address value v b h is = ap (λ (w : ℕ). is_any (enable_in (enable_place_at d w address) value (bit_at m (v - 2)))) (vector_of v h) ∙ is

pub below_known : (d : Device) (m address : ℕ) (value : TriByte) (v : ℕ) → 2 ≤ v → v ≤ last_vector d → is_any (enable_in (enable_place_at d v address) value (bit_at m (v - 2))) ≡ false
    → below d m address value (v + 1) ≡ below d m address value v
below_known d m address value v low high is =
    ap (left (written_enables d m address value.value) (enable_tri d m address value)) (next_place v low)
    ∙ step_known d m address value (v - 2) (omega arith) (unknown_of d m address value v false low is)

pub below_unknown : (d : Device) (m address : ℕ) (value : TriByte) (v : ℕ) → 2 ≤ v → v ≤ last_vector d → is_any (enable_in (enable_place_at d v address) value (bit_at m (v - 2))) ≡ true
    → below d m address value (v + 1) ≡ below d m address value v ++ map (λ n. with_enable d n v true) (below d m address value v)
below_unknown d m address value v low high is =
    ap (left (written_enables d m address value.value) (enable_tri d m address value)) (next_place v low)
    ∙ step_unknown d m address value (v - 2) (omega arith) (unknown_of d m address value v true low is)
    ∙ ap (λ (w : ℕ). below d m address value v ++ map (λ n. with_enable d n w true) (below d m address value v)) (vector_of v low)

pub below_all : (d : Device) (m address : ℕ) (value : TriByte) (v : ℕ) → v ≡ last_vector d + 1 → below d m address value v ≡ splits d m address value
below_all d m address value v e =
    let count : v - 2 ≡ enable_count d = omega arith in
    ap (left (written_enables d m address value.value) (enable_tri d m address value)) count
    ∙ left_all (enable_count d) (written_enables d m address value.value) (enable_tri d m address value) (enables_are_vectors.written d m address value.value)

-- no vector has a place at an address where none is enabled
pub not_here : (d : Device) (v address : ℕ) (here : Bool) → here ≡ has_enables d address → here ≡ false → None ≡ enable_place_at d v address
not_here d v address here is off = sym (enables_are_vectors.none d v address (sym is ∙ off))
