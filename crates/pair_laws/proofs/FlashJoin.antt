-- Joins of bytes of flash.
use Rattle.std.proofs.Common.{◌≡◌, refl, sym, ◌∙◌, ap, ap₂, subst, ℕ, zero, suc, ◌+◌, ◌*◌, ◌/◌, ◌%◌, ◌<◌, ◌≤◌, nat_le, ◌&&◌, ◌||◌, not, if◌then◌else◌, ⊎_elim, Bool, true, false, Option, Some, None, arith}
use Rattle.std.proofs.lemmas.Bool.{cases_eq, false≢true, and_parts}
use Rattle.std.proofs.lemmas.Bool.Decides.{nat_tests}
use Rattle.std.proofs.lemmas.Option.{same_Some, none-some}
use Rattle.avr_model.specs.Bits.{all_below}
use Rattle.avr_model.specs.Image.{byte_at}
use Rattle.avr_model.specs.Devices.{Image}
use Rattle.bit_domain.specs.Ranges.{ByteSet, SetHas}
use Rattle.bit_domain.specs.TriByte.{has, byte_any, byte_constant, byte_known}
use Rattle.bit_domain.proofs.AllLaws.{tests_tell_members, ranges_hold, bytes_are_sets}
use Rattle.sp_domain.specs.declared.tags.Tag.TheVariants as tag
use Rattle.sp_domain.specs.Tags.{Origin, tag_join}
use Rattle.pair_domain.specs.PairSets.{PairSet, PairStands, IsPairWithin}
use Rattle.abs_alu.proofs.ProductCover.{any_has, constant_member}
use Rattle.abs_state.specs.declared.values.AbsByte.{AbsByte}
use Rattle.abs_state.specs.Values.{unknown, known}
use Rattle.abs_state.specs.Stands.{ByteStands}
use Rattle.abs_state.specs.Order.{IsByteWithin, value_join}
use Rattle.abs_state.specs.Formed.{ByteFits}
use Rattle.abs_state.proofs.AllLaws.{values_are_ordered, values_say_less, bits_make_values}
use Rattle.pair_rules.specs.Flash.{set_permits, pair_permits, count_below, joined_with, joined_below, flash_known, is_flash, few_in_flash, flash_joined}
use Rattle.pair_rules.specs.Fits.{flash_at, CoversFlash}

-- ---- what is permitted

abbrev pub IsMore : (ℕ → Bool) → (ℕ → Bool) → Type 0
IsMore permits permits' = (z : ℕ) → z < 65536 → permits z ≡ true → permits' z ≡ true

was_le : (x y : ℕ) → nat_le x y ≡ true → x ≤ y
was_le x y e = grind (arith, nat_tests)

set_permitted : (s : ByteSet) (x : ℕ) → x < 256 → set_permits s x ≡ true → SetHas s x
set_permitted s x small e =
    let all = and_parts (nat_le s.low x && nat_le x s.high) (has s.bits x) e in
    let ends = and_parts (nat_le s.low x) (nat_le x s.high) all.0 in
    record {
      bits = (tests_tell_members.bytes s.bits x).0 all.1;
      low = was_le s.low x ends.0;
      high = was_le x s.high ends.1;
      small = small;
    }

and_both : (a b : Bool) → a ≡ true → b ≡ true → (a && b) ≡ true
and_both a b e f = grind arith

is_le : (x y : ℕ) → x ≤ y → nat_le x y ≡ true
is_le x y le = grind (arith, nat_tests)

set_permits_it : (s : ByteSet) (x : ℕ) → SetHas s x → set_permits s x ≡ true
set_permits_it s x h =
    and_both (nat_le s.low x && nat_le x s.high) (has s.bits x) (and_both (nat_le s.low x) (nat_le x s.high) (is_le s.low x h.low) (is_le x s.high h.high))
    ((tests_tell_members.bytes s.bits x).1 h.bits)

pub pair_permitted : (p : PairSet) (z : ℕ) → z < 65536 → pair_permits p z ≡ true → PairStands p (z % 256) (z / 256)
pair_permitted p z small e =
    let last = and_parts ((nat_le p.interval.low z && nat_le z p.interval.high) && set_permits p.low (z % 256)) (set_permits p.high (z / 256)) e in
    let first = and_parts (nat_le p.interval.low z && nat_le z p.interval.high) (set_permits p.low (z % 256)) last.0 in
    let ends = and_parts (nat_le p.interval.low z) (nat_le z p.interval.high) first.0 in
    let same : z % 256 + 256 * (z / 256) ≡ z = omega arith in
    record {
      low = set_permitted p.low (z % 256) (omega arith) first.1;
      high = set_permitted p.high (z / 256) (omega arith) last.1;
      interval = record {
        low = omega (arith, was_le p.interval.low z ends.0);
        high = omega (arith, was_le z p.interval.high ends.1);
      };
    }

permits_number : (p : PairSet) (z x y : ℕ) → z % 256 ≡ x → z / 256 ≡ y → PairStands p x y → pair_permits p z ≡ true
permits_number p z x y ex ey h =
    let same : x + 256 * y ≡ z = omega arith in
    and_both ((nat_le p.interval.low z && nat_le z p.interval.high) && set_permits p.low (z % 256)) (set_permits p.high (z / 256))
    (and_both (nat_le p.interval.low z && nat_le z p.interval.high) (set_permits p.low (z % 256))
    (and_both (nat_le p.interval.low z) (nat_le z p.interval.high) (is_le p.interval.low z (omega (arith, h.interval.low))) (is_le z p.interval.high (omega (arith, h.interval.high))))
    (ap (set_permits p.low) ex ∙ set_permits_it p.low x h.low))
    (ap (set_permits p.high) ey ∙ set_permits_it p.high y h.high)

pub pair_permits_it : (p : PairSet) (x y : ℕ) → PairStands p x y → pair_permits p (x + 256 * y) ≡ true
pair_permits_it p x y h = permits_number p (x + 256 * y) x y (omega (arith, h.low.small)) (omega (arith, h.low.small)) h

pub permits_more : (p q : PairSet) → IsPairWithin p q → IsMore (pair_permits p) (pair_permits q)
permits_more p q le z small e =
    let h = pair_permitted p z small e in
    permits_number q z (z % 256) (z / 256) refl refl (record {
      low = ranges_hold.says_less p.low q.low (z % 256) le.low h.low;
      high = ranges_hold.says_less p.high q.high (z / 256) le.high h.high;
      interval = record { low = omega (arith, h.interval.low, le.interval.low); high = omega (arith, h.interval.high, le.interval.high) };
    })

-- ---- all below a bound

pub each_of : (n z : ℕ) (p : ℕ → Bool) → all_below n p ≡ true → z < n → p z ≡ true
unfolding all_below
each_of zero z p e lt = absurd (omega arith)
each_of (suc n) z p e lt =
    let parts = and_parts (all_below n p) (p n) e in
    ⊎_elim (λ same. subst (λ (k : ℕ). p k ≡ true) (sym same) parts.1) (λ other. each_of n z p parts.0 (omega (arith, other))) (cases_eq z n)

all_if : (n : ℕ) (p : ℕ → Bool) → ((z : ℕ) → z < n → p z ≡ true) → all_below n p ≡ true
unfolding all_below
all_if zero p each = refl
all_if (suc n) p each = and_both (all_below n p) (p n) (all_if n p (λ z lt. each z (omega arith))) (each n (omega arith))

-- ---- few numbers

count_more : (n : ℕ) (permits permits' : ℕ → Bool) → ((z : ℕ) → z < n → permits z ≡ true → permits' z ≡ true) → count_below permits n ≤ count_below permits' n
unfolding count_below
count_more zero permits permits' more = omega arith
count_more (suc n) permits permits' more = by (count_more n permits permits' (λ z lt. more z (omega arith))) (permits n) (permits' n) refl refl
  where
    by : count_below permits n ≤ count_below permits' n → (b b' : Bool) → permits n ≡ b → permits' n ≡ b' → (if b then suc (count_below permits n) else count_below permits n) ≤ (if b' then suc (count_below permits' n) else count_below permits' n)
    by rest true true e e' = omega (arith, rest)
    by rest true false e e' = absurd (false≢true (sym e' ∙ more n (omega arith) e))
    by rest false true e e' = omega (arith, rest)
    by rest false false e e' = rest

in_flash_less : (image : Image) (from : ℕ) (permits permits' : ℕ → Bool) (z : ℕ) → (permits z ≡ true → permits' z ≡ true) → (not (permits' z) || is_flash image (from + z)) ≡ true
    → (not (permits z) || is_flash image (from + z)) ≡ true
in_flash_less image from permits permits' z more e = by (permits z) (permits' z) (is_flash image (from + z)) refl refl e
  where
    by : (b b' flash : Bool) → permits z ≡ b → permits' z ≡ b' → (not b' || flash) ≡ true → (not b || flash) ≡ true
    by false b' flash eb eb' h = refl
    by true false flash eb eb' h = absurd (false≢true (sym eb' ∙ more eb))
    by true true flash eb eb' h = h

pub few_less : (image : Image) (from : ℕ) (permits permits' : ℕ → Bool) → IsMore permits permits' → few_in_flash image from permits' ≡ true → few_in_flash image from permits ≡ true
few_less image from permits permits' more e =
    let parts = and_parts (nat_le (count_below permits' 65536) 64) (all_below 65536 (λ z. not (permits' z) || is_flash image (from + z))) e in
    let most = was_le (count_below permits' 65536) 64 parts.0 in
    and_both (nat_le (count_below permits 65536) 64) (all_below 65536 (λ z. not (permits z) || is_flash image (from + z)))
    (is_le (count_below permits 65536) 64 (omega (arith, count_more 65536 permits permits' more)))
    (all_if 65536 (λ z. not (permits z) || is_flash image (from + z))
    (λ z lt. in_flash_less image from permits permits' z (more z lt) (each_of 65536 z (λ k. not (permits' k) || is_flash image (from + k)) parts.1 lt)))

pub is_in_flash : (image : Image) (from : ℕ) (permits : ℕ → Bool) (z : ℕ) → few_in_flash image from permits ≡ true → z < 65536 → permits z ≡ true → is_flash image (from + z) ≡ true
is_in_flash image from permits z e lt may =
    let parts = and_parts (nat_le (count_below permits 65536) 64) (all_below 65536 (λ k. not (permits k) || is_flash image (from + k))) e in
    by (permits z) (is_flash image (from + z)) may (each_of 65536 z (λ k. not (permits k) || is_flash image (from + k)) parts.1 lt)
  where
    by : (b flash : Bool) → b ≡ true → (not b || flash) ≡ true → flash ≡ true
    by true flash eb h = h
    by false flash eb h = absurd (false≢true eb)

-- ---- joins

-- the join for the numbers below n + 1, by whether n is permitted
abbrev joined_if : Bool → Option AbsByte → AbsByte → Option AbsByte
joined_if b o v = if b then Some (joined_with o v) else o

with_second : (o : Option AbsByte) (v : AbsByte) → IsByteWithin v (joined_with o v)
with_second None v = values_are_ordered.same v
with_second (Some w) v = values_are_ordered.second w v

-- the value of a permitted number is within the join
pub joined_has : (permits : ℕ → Bool) (value : ℕ → AbsByte) (n z : ℕ) → z < n → permits z ≡ true
    → (v : AbsByte) × ((joined_below permits value n ≡ Some v) × IsByteWithin (value z) v)
unfolding joined_below
joined_has permits value zero z lt may = absurd (omega arith)
joined_has permits value (suc n) z lt may = ⊎_elim (λ same. here same) (λ other. further (joined_has permits value n z (omega (arith, other)) may)) (cases_eq z n)
  where
    here : z ≡ n → (v : AbsByte) × ((joined_if (permits n) (joined_below permits value n) (value n) ≡ Some v) × IsByteWithin (value z) v)
    here same =
        let there : permits n ≡ true = ap permits (sym same) ∙ may in (
          joined_with (joined_below permits value n) (value n),
          (
            ap (λ (b : Bool). joined_if b (joined_below permits value n) (value n)) there,
            subst (λ (k : ℕ). IsByteWithin (value k) (joined_with (joined_below permits value n) (value n))) (sym same) (with_second (joined_below permits value n) (value n)),
          ),
        )

    further : (v : AbsByte) × ((joined_below permits value n ≡ Some v) × IsByteWithin (value z) v)
        → (v : AbsByte) × ((joined_if (permits n) (joined_below permits value n) (value n) ≡ Some v) × IsByteWithin (value z) v)
    further h = by (permits n)
      where
        by : (b : Bool) → (v : AbsByte) × ((joined_if b (joined_below permits value n) (value n) ≡ Some v) × IsByteWithin (value z) v)
        by false = h
        by true = (
          value_join h.0 (value n),
          (
            ap (λ (o : Option AbsByte). joined_if true o (value n)) h.1.0,
            values_are_ordered.through (value z) h.0 (value_join h.0 (value n)) h.1.1 (values_are_ordered.first h.0 (value n)),
          ),
        )

with_least : (o : Option AbsByte) (v w : AbsByte) → ((u : AbsByte) → o ≡ Some u → IsByteWithin u w) → IsByteWithin v w → IsByteWithin (joined_with o v) w
with_least None v w rest le = le
with_least (Some u) v w rest le = values_are_ordered.least u v w (rest u refl) le

-- the join is the least upper bound
pub joined_under : (permits : ℕ → Bool) (value : ℕ → AbsByte) (w : AbsByte) (n : ℕ) → ((z : ℕ) → z < n → permits z ≡ true → IsByteWithin (value z) w)
    → (v : AbsByte) → joined_below permits value n ≡ Some v → IsByteWithin v w
unfolding joined_below
joined_under permits value w zero each v e = absurd (none-some v e)
joined_under permits value w (suc n) each v e = by (λ u is. joined_under permits value w n (λ z lt. each z (omega arith)) u is) (permits n) refl e
  where
    by : ((u : AbsByte) → joined_below permits value n ≡ Some u → IsByteWithin u w) → (b : Bool) → permits n ≡ b → joined_if b (joined_below permits value n) (value n) ≡ Some v
        → IsByteWithin v w
    by rest false other is = rest v is
    by rest true may is =
        subst (λ (u : AbsByte). IsByteWithin u w) (same_Some (joined_with (joined_below permits value n) (value n)) v is)
        (with_least (joined_below permits value n) (value n) w rest (each n (omega arith) may))

-- a property of each value and of joins holds of the join
pub joined_is : (C : AbsByte → Type 0) (permits : ℕ → Bool) (value : ℕ → AbsByte) (n : ℕ) → ((z : ℕ) → C (value z)) → ((v w : AbsByte) → C v → C w → C (value_join v w))
    → (v : AbsByte) → joined_below permits value n ≡ Some v → C v
unfolding joined_below
joined_is C permits value zero each joins v e = absurd (none-some v e)
joined_is C permits value (suc n) each joins v e = by (λ u is. joined_is C permits value n each joins u is) (permits n) e
  where
    onto : (o : Option AbsByte) → ((u : AbsByte) → o ≡ Some u → C u) → C (joined_with o (value n))
    onto None h = each n
    onto (Some u) h = joins u (value n) (h u refl) (each n)

    by : ((u : AbsByte) → joined_below permits value n ≡ Some u → C u) → (b : Bool) → joined_if b (joined_below permits value n) (value n) ≡ Some v → C v
    by rest false is = rest v is
    by rest true is = subst C (same_Some (joined_with (joined_below permits value n) (value n)) v is) (onto (joined_below permits value n) rest)

-- there is no join if no number is permitted
nothing_there : (permits : ℕ → Bool) (value : ℕ → AbsByte) (n : ℕ) → ((z : ℕ) → z < n → permits z ≡ true → ⊥) → (v : AbsByte) → joined_below permits value n ≡ Some v → ⊥
unfolding joined_below
nothing_there permits value zero none v e = none-some v e
nothing_there permits value (suc n) none v e = by (nothing_there permits value n (λ z lt. none z (omega arith)) v) (permits n) refl e
  where
    by : (joined_below permits value n ≡ Some v → ⊥) → (b : Bool) → permits n ≡ b → joined_if b (joined_below permits value n) (value n) ≡ Some v → ⊥
    by rest true may is = none n (omega arith) may
    by rest false other is = rest is

-- the join is monotone in the permitted numbers
pub joined_more : (permits permits' : ℕ → Bool) (value : ℕ → AbsByte) → IsMore permits permits' → (v : AbsByte) → joined_below permits value 65536 ≡ Some v
    → (v' : AbsByte) × ((joined_below permits' value 65536 ≡ Some v') × IsByteWithin v v')
joined_more permits permits' value more v e = by (joined_below permits' value 65536) refl
  where
    by : (o : Option AbsByte) → joined_below permits' value 65536 ≡ o → (v' : AbsByte) × ((o ≡ Some v') × IsByteWithin v v')
    by (Some v') is = (
      v',
      (
        refl,
        joined_under permits value v' 65536 (λ z lt may.
            let h = joined_has permits' value 65536 z lt (more z lt may) in
            subst (IsByteWithin (value z)) (same_Some h.0 v' (sym h.1.0 ∙ is)) h.1.1) v e,
      ),
    )
    by None is = absurd (nothing_there permits value 65536 (λ z lt may. let h = joined_has permits' value 65536 z lt (more z lt may) in none-some h.0 (sym is ∙ h.1.0)) v e)

-- ---- flash

pub known_stands : (o : Origin) (b : ℕ) → b < 256 → ByteStands o (known b) b
known_stands o b small = bits_make_values.stands o tag.None (byte_known b) b small tt ((bytes_are_sets.known b b small small).1 refl)

-- the byte at the number that the pair holds
pub joined_stands : (o : Origin) (image : Image) (from : ℕ) (permits : ℕ → Bool) (z : ℕ) → z < 65536 → permits z ≡ true → byte_at image.words (from + z) < 256
    → (v : AbsByte) × ((flash_joined image from permits ≡ Some v) × ByteStands o v (byte_at image.words (from + z)))
joined_stands o image from permits z lt may small =
    let h = joined_has permits (λ k. flash_known image (from + k)) 65536 z lt may in
    (h.0, (h.1.0, values_say_less.byte o (flash_known image (from + z)) h.0 (byte_at image.words (from + z)) h.1.1 (known_stands o (byte_at image.words (from + z)) small)))

pub flash_fits : (image : Image) (from : ℕ) (permits : ℕ → Bool) (v : AbsByte) → flash_joined image from permits ≡ Some v → ByteFits v
flash_fits image from permits v e =
    joined_is ByteFits permits (λ k. flash_known image (from + k)) 65536 (λ z. bits_make_values.fits tag.None (byte_known (byte_at image.words (from + z)))) bits_make_values.joins_fit v e

pub flash_untagged : (image : Image) (from : ℕ) (permits : ℕ → Bool) (v : AbsByte) → flash_joined image from permits ≡ Some v → v.tag ≡ tag.None
flash_untagged image from permits v e =
    joined_is (λ w. w.tag ≡ tag.None) permits (λ k. flash_known image (from + k)) 65536 (λ z. refl) (λ v w a b. ap₂ tag_join a b) v e

-- the join is below each value that is above all permitted bytes
pub flash_covered : (image : Image) (from : ℕ) (p : PairSet) (w : AbsByte) → CoversFlash image from p w → few_in_flash image from (pair_permits p) ≡ true
    → (v : AbsByte) → flash_joined image from (pair_permits p) ≡ Some v → IsByteWithin v w
flash_covered image from p w covers few v e =
    joined_under (pair_permits p) (λ k. flash_known image (from + k)) w 65536 (λ z lt may.
    let inside = is_in_flash image from (pair_permits p) z few lt may in
    let at : flash_at image (from + z) ≡ flash_known image (from + z) = ap (λ (b : Bool). if b then flash_known image (from + z) else unknown) inside in
    subst (λ (u : AbsByte). IsByteWithin u w) at (covers z lt may)) v e

-- ---- values that are above what is read

any_above : (image : Image) (z : ℕ) → IsByteWithin (flash_at image z) unknown
any_above image z = by (is_flash image z)
  where
    by : (b : Bool) → IsByteWithin (if b then flash_known image z else unknown) unknown
    by true = bits_make_values.within tag.None tag.None (byte_known (byte_at image.words z)) byte_any tt (λ x small h. any_has x)
    by false = values_are_ordered.same unknown

pub unknown_covers : (image : Image) (from : ℕ) (p : PairSet) → CoversFlash image from p unknown
unknown_covers image from p z lt may = any_above image (from + z)

pub constant_covers : (image : Image) (from : ℕ) (p : PairSet) (x y : ℕ) → byte_constant p.low.bits ≡ Some x → byte_constant p.high.bits ≡ Some y
    → CoversFlash image from p (flash_at image (from + (x + 256 * y)))
constant_covers image from p x y ex ey z lt may =
    let h = pair_permitted p z lt may in
    let low = constant_member p.low.bits x (z % 256) (omega arith) ex h.low.bits in
    let high = constant_member p.high.bits y (z / 256) (omega arith) ey h.high.bits in
    let same : z ≡ x + 256 * y = omega arith in
    subst (λ (k : ℕ). IsByteWithin (flash_at image (from + z)) (flash_at image (from + k))) same (values_are_ordered.same (flash_at image (from + z)))
