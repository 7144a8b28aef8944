-- Invariant of the loop over the numbers of a pair.
use Rattle.std.proofs.Common.{◌≡◌, refl, sym, ◌∙◌, ap, subst, ℕ, zero, suc, ◌+◌, ◌-◌, ◌/◌, ◌%◌, ◌<◌, ◌≤◌, nat_le, ◌&&◌, ◌||◌, not, if◌then◌else◌, ⊎_elim, Bool, true, false, Option, Some, None, arith}
use Rattle.std.proofs.lemmas.Bool.{cases_eq, and_parts, false≢true}
use Rattle.std.proofs.lemmas.Bool.Decides.{nat_tests}
use Rattle.std.proofs.lemmas.Option.{same_Some, none-some}
use Rattle.std.specs.Bool.{IsTrue}
use Rattle.basics.specs.Booleans.{and_with_false}
use Rattle.avr_model.specs.Bits.{all_below}
use Rattle.avr_model.specs.Devices.{Image}
use Rattle.bit_domain.specs.declared.bytes.TriByte.{TriByte}
use Rattle.bit_domain.specs.TriByte.{Has, has}
use Rattle.bit_domain.proofs.AllLaws.{tests_tell_members}
use Rattle.pair_domain.specs.PairSets.{PairSet}
use Rattle.abs_state.specs.declared.values.AbsByte.{AbsByte}
use Rattle.abs_state.specs.declared.state.AbsState.{AbsState}
use Rattle.pair_rules.specs.Values.{with_joined}
use Rattle.pair_rules.specs.Flash.{set_permits, pair_permits, count_below, joined_with, joined_below, flash_known, is_flash, few_in_flash, flash_joined}

-- ---- bytes

same_test : (a b : Bool) → (a ≡ true → b ≡ true) → (b ≡ true → a ≡ true) → a ≡ b
same_test true b to back = sym (to refl)
same_test false true to back = back refl
same_test false false to back = refl

-- a byte's members are those that the test accepts
pub has_is : (t : TriByte) (x : ℕ) (result : Bool) → (IsTrue result → Has t x) → (Has t x → IsTrue result) → result ≡ has t x
has_is t x result to back = same_test result (has t x) (λ e. (tests_tell_members.bytes t x).1 (to e)) (λ e. back ((tests_tell_members.bytes t x).0 e))

-- ---- numbers that aren't in the interval

is_below : (p : PairSet) (z : ℕ) → z < p.interval.low → pair_permits p z ≡ false
is_below p z lt =
    let out : nat_le p.interval.low z ≡ false = grind (arith, nat_tests) in
    ap (λ (b : Bool). ((b && nat_le z p.interval.high) && set_permits p.low (z % 256)) && set_permits p.high (z / 256)) out

is_above : (p : PairSet) (z : ℕ) → p.interval.high < z → pair_permits p z ≡ false
is_above p z lt =
    let out : nat_le z p.interval.high ≡ false = grind (arith, nat_tests) in
    ap (λ (b : Bool). ((nat_le p.interval.low z && b) && set_permits p.low (z % 256)) && set_permits p.high (z / 256)) out
    ∙ ap (λ (b : Bool). (b && set_permits p.low (z % 256)) && set_permits p.high (z / 256)) (and_with_false (nat_le p.interval.low z))

module _ (image : Image) (from : ℕ) (permits : ℕ → Bool) where
  -- the byte at a number of the pair
  abbrev at : ℕ → AbsByte
  at z = flash_known image (from + z)

  -- the answer after all numbers are counted
  abbrev answer : Option (Option AbsByte)
  answer = if few_in_flash image from permits then Some (flash_joined image from permits) else None

  abbrev in_flash : ℕ → Bool
  in_flash z = not (permits z) || is_flash image (from + z)

  -- the result for the numbers below n
  pub record IsSoFar (n count : ℕ) (value : Option AbsByte) : Type 0 where
    pub count_is : count ≡ count_below permits n
    pub few : count ≤ 64
    pub value_is : value ≡ joined_below permits at n
    pub inside : all_below n in_flash ≡ true

  -- ---- one more number

  count_step : (n : ℕ) (b : Bool) → permits n ≡ b → count_below permits (suc n) ≡ (if b then suc (count_below permits n) else count_below permits n)
  unfolding count_below
  count_step n b e = ap (λ (c : Bool). if c then suc (count_below permits n) else count_below permits n) e

  value_step : (n : ℕ) (b : Bool) → permits n ≡ b
      → joined_below permits at (suc n)
      ≡ (if b then Some (joined_with (joined_below permits at n) (at n)) else joined_below permits at n)
  unfolding joined_below
  value_step n b e =
      ap (λ (c : Bool). if c then Some (joined_with (joined_below permits at n) (at n)) else joined_below permits at n) e

  inside_step : (n : ℕ) → all_below n in_flash ≡ true → in_flash n ≡ true → all_below (suc n) in_flash ≡ true
  unfolding all_below
  inside_step n e h = grind arith

  not_permitted : (n : ℕ) → permits n ≡ false → in_flash n ≡ true
  not_permitted n e = ap (λ (b : Bool). not b || is_flash image (from + n)) e

  or_true : (b : Bool) → (b || true) ≡ true
  or_true true = refl
  or_true false = refl

  is_inside : (n : ℕ) → is_flash image (from + n) ≡ true → in_flash n ≡ true
  is_inside n e = ap (λ (b : Bool). not (permits n) || b) e ∙ or_true (not (permits n))

  skip_one : (n count : ℕ) (value : Option AbsByte) → permits n ≡ false → IsSoFar n count value → IsSoFar (suc n) count value
  skip_one n count value e h = record {
    count_is = h.count_is ∙ sym (count_step n false e);
    few = h.few;
    value_is = h.value_is ∙ sym (value_step n false e);
    inside = inside_step n h.inside (not_permitted n e);
  }

  pub skipped : (n count : ℕ) (value : Option AbsByte) → permits n ≡ false → IsSoFar n count value → IsSoFar (n + 1) count value
  skipped n count value e h = let next : suc n ≡ n + 1 = omega arith in subst (λ (k : ℕ). IsSoFar k count value) next (skip_one n count value e h)

  pub counted : (n count : ℕ) (value : Option AbsByte) (v : AbsByte) → permits n ≡ true → is_flash image (from + n) ≡ true → count < 64 → v ≡ joined_with value (at n)
      → IsSoFar n count value → IsSoFar (n + 1) (count + 1) (Some v)
  counted n count value v e flash lt is h =
      let next : suc n ≡ n + 1 = omega arith in
      let more : count + 1 ≡ suc count = omega arith in
      subst (λ (k : ℕ). IsSoFar k (count + 1) (Some v)) next (record {
        count_is = more ∙ ap suc h.count_is ∙ sym (count_step n true e);
        few = omega (arith, lt);
        value_is = ap (λ (w : AbsByte). Some w) (is ∙ ap (λ (o : Option AbsByte). joined_with o (at n)) h.value_is) ∙ sym (value_step n true e);
        inside = inside_step n h.inside (is_inside n flash);
      })

  -- ---- where it begins

  starts_at : (n : ℕ) → ((z : ℕ) → z < n → permits z ≡ false) → IsSoFar n 0 None
  unfolding count_below joined_below all_below
  starts_at zero none = record { count_is = refl; few = omega arith; value_is = refl; inside = refl }
  starts_at (suc n) none = skip_one n 0 None (none n (omega arith)) (starts_at n (λ z lt. none z (omega arith)))

  pub starts : (n : ℕ) → ((z : ℕ) → z < n → permits z ≡ false) → IsSoFar n 0 None
  starts n none = starts_at n none

  -- ---- where it ends

  goes_on : (k n m count : ℕ) (value : Option AbsByte) → m ≡ k + n → ((z : ℕ) → n ≤ z → permits z ≡ false) → IsSoFar n count value → IsSoFar m count value
  goes_on zero n m count value e none h = let same : n ≡ m = omega arith in subst (λ (j : ℕ). IsSoFar j count value) same h
  goes_on (suc k) n m count value e none h =
      let next : suc (k + n) ≡ m = omega arith in
      subst (λ (j : ℕ). IsSoFar j count value) next (skip_one (k + n) count value (none (k + n) (omega arith)) (goes_on k n (k + n) count value refl none h))

  both_true : (a b : Bool) → a ≡ true → b ≡ true → (a && b) ≡ true
  both_true a b e f = grind arith

  pub ends : (n count : ℕ) (value : Option AbsByte) → n ≤ 65536 → ((z : ℕ) → n ≤ z → permits z ≡ false) → IsSoFar n count value → answer ≡ Some value
  ends n count value le none h =
      let all = goes_on (65536 - n) n 65536 count value (omega arith) none h in
      let few : nat_le (count_below permits 65536) 64 ≡ true = let small : count_below permits 65536 ≤ 64 = omega (arith, all.count_is, all.few) in grind (arith, nat_tests) in
      ap (λ (b : Bool). if b then Some (flash_joined image from permits) else None) (both_true (nat_le (count_below permits 65536) 64) (all_below 65536 in_flash) few all.inside)
      ∙ ap (λ (o : Option AbsByte). Some o) (sym all.value_is)

  -- ---- where there is no answer

  count_up : (k n m : ℕ) → m ≡ k + n → count_below permits n ≤ count_below permits m
  count_up zero n m e = let same : n ≡ m = omega arith in omega (arith, ap (count_below permits) same)
  count_up (suc k) n m e =
      let next : suc (k + n) ≡ m = omega arith in
      let rest = count_up k n (k + n) refl in
      subst (λ (j : ℕ). count_below permits n ≤ count_below permits j) next (by rest (permits (k + n)) (count_step (k + n) (permits (k + n)) refl))
    where
      by : count_below permits n ≤ count_below permits (k + n) → (b : Bool) → count_below permits (suc (k + n)) ≡ (if b then suc (count_below permits (k + n)) else count_below permits (k + n))
          → count_below permits n ≤ count_below permits (suc (k + n))
      by le true step = omega (arith, le, step)
      by le false step = omega (arith, le, step)

  none_if : (a b : Bool) → (a ≡ true → b ≡ true → ⊥) → (if a && b then Some (flash_joined image from permits) else None) ≡ None
  none_if true true h = absurd (h refl refl)
  none_if true false h = refl
  none_if false b h = refl

  pub too_many : (n : ℕ) (value : Option AbsByte) → n < 65536 → permits n ≡ true → IsSoFar n 64 value → answer ≡ None
  too_many n value lt e h =
      none_if (nat_le (count_below permits 65536) 64) (all_below 65536 in_flash)
      (λ few inside.
      let most : count_below permits 65536 ≤ 64 = grind (arith, nat_tests) in
      let more = count_up (65535 - n) (suc n) 65536 (omega arith) in
      let step = count_step n true e in
      omega (arith, most, more, step, h.count_is))

  each_of : (n z : ℕ) (p : ℕ → Bool) → all_below n p ≡ true → z < n → p z ≡ true
  unfolding all_below
  each_of zero z p e lt = absurd (omega arith)
  each_of (suc n) z p e lt =
      let parts = and_parts (all_below n p) (p n) e in
      ⊎_elim (λ same. subst (λ (k : ℕ). p k ≡ true) (sym same) parts.1) (λ other. each_of n z p parts.0 (omega (arith, other))) (cases_eq z n)

  pub outside : (n : ℕ) → n < 65536 → permits n ≡ true → is_flash image (from + n) ≡ false → answer ≡ None
  outside n lt e off =
      none_if (nat_le (count_below permits 65536) 64) (all_below 65536 in_flash)
      (λ few inside. by (each_of 65536 n in_flash inside lt))
    where
      by : (not (permits n) || is_flash image (from + n)) ≡ true → ⊥
      by h =
          false≢true (sym (ap (λ (b : Bool). not b || is_flash image (from + n)) e ∙ off) ∙ h)

-- the loop over the interval of a pair
pub begins : (image : Image) (from : ℕ) (p : PairSet) → IsSoFar image from (pair_permits p) p.interval.low 0 None
begins image from p = starts image from (pair_permits p) p.interval.low (is_below p)

pub is_over : (image : Image) (from : ℕ) (p : PairSet) (n count : ℕ) (value : Option AbsByte) → n ≤ 65536 → p.interval.high < n → IsSoFar image from (pair_permits p) n count value
    → (if few_in_flash image from (pair_permits p) then Some (flash_joined image from (pair_permits p)) else None) ≡ Some value
is_over image from p n count value le over h = ends image from (pair_permits p) n count value le (λ z far. is_above p z (omega (arith, over, far))) h

-- ---- what is read

pub read_some : (few : Bool) (o read : Option AbsByte) (t : AbsState) (d : ℕ) → Some read ≡ (if few then Some o else None)
    → with_joined t d read ≡ (if few then with_joined t d o else Some t)
read_some true o read t d e = ap (with_joined t d) (same_Some read o e)
read_some false o read t d e = absurd (none-some read (sym e))

pub read_none : (few : Bool) (o : Option AbsByte) (t : AbsState) (d : ℕ) → None ≡ (if few then Some o else None) → Some t ≡ (if few then with_joined t d o else Some t)
read_none true o t d e = absurd (none-some o e)
read_none false o t d e = refl
