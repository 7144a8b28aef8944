-- Addresses by the numbers that give them, with a number added modulo 65,536.
use Rattle.std.proofs.Common.{◌≡◌, refl, sym, ap, ap₂, ◌∙◌, subst, ℕ, ◌+◌, ◌<◌, ◌≤◌, ◌==◌, ◌&&◌, ◌||◌, ⊎_elim, not, nat_lt, nat_le, Bool, true, false, Some, arith, eqb-true}
use Rattle.std.proofs.lemmas.Bool.{cases_lt, and_from, and_parts, or_left, or_right, or_cases}
use Rattle.basics.specs.Numbers.{less_from_test, at_most_from_test, test_from_less, test_from_at_most, equals_itself}
use Rattle.avr_model.specs.declared.instruction.Instr.{Instr}
use Rattle.avr_model.specs.declared.instruction.Instr.TheVariants as i
use Rattle.avr_model.specs.declared.instruction.Base.{Base}
use Rattle.avr_model.specs.declared.instruction.Pointer.{Pointer}
use Rattle.avr_model.specs.declared.operand.Operand.{Operand}
use Rattle.avr_model.proofs.AllLaws.{devices_are_alike}
use Rattle.avr_model.specs.Bits.{all_below}
use Rattle.avr_model.specs.Devices.{io_end, ramend, device_of}
use Rattle.avr_model.specs.State.{plus16, minus16}
use Rattle.pair_domain.specs.declared.facts.PairFacts.{PairFacts}
use Rattle.pair_domain.specs.Facts.{is_followed}
use Rattle.abs_state.specs.declared.state.AbsState.{AbsState}
use Rattle.clear_laws.specs.Aims.{is_between, is_in_interval, permits_bytes, permits_number}
use Rattle.clear_laws.specs.Clear.{is_address_harmless, are_addresses_harmless}
use Rattle.clear_laws.proofs.AllLaws.{each_below, may_pass, passes}
use Rattle.store_clear.specs.Numbers.{is_range_harmless, is_number_harmless, are_numbers_harmless}
use Rattle.store_clear.proofs.Scans.{all_fails}
use Rattle.local_rules.specs.Site.{Task}
use Rattle.clear_laws.specs.Clear.{store_at}

-- ---- to and fro

back : (a up : ℕ) → a < 65536 → plus16 (minus16 a up) up ≡ a
back a up small = omega arith

forth : (p up : ℕ) → p < 65536 → minus16 (plus16 p up) up ≡ p
forth p up small = omega arith

pub small_address : (p up : ℕ) → plus16 p up < 65536
small_address p up = omega arith

both_fail : (a b : Bool) → (not a || b) ≡ false → (a ≡ true) × (b ≡ false)
both_fail true b h = (refl, h)
both_fail false b h = absurd (cc)

-- numbers between two give addresses between theirs, unless these wrap around the end
over : (low high p up : ℕ) → low ≤ p → p ≤ high → high < 65536 → up < 65536 → plus16 low up ≤ plus16 high up → plus16 low up ≤ plus16 p up
over low high p up h g small less le = omega arith

under : (low high p up : ℕ) → low ≤ p → p ≤ high → high < 65536 → up < 65536 → plus16 low up ≤ plus16 high up → plus16 p up ≤ plus16 high up
under low high p up h g small less le = omega arith

module _ (task : Task) (bound pc : ℕ) (instr : Instr) (s : AbsState) where
  abbrev is_harmless : ℕ → Bool
  is_harmless a = is_address_harmless task bound (store_at pc s instr) a

  abbrev below : ℕ
  below = io_end (device_of task.flash)

  abbrev top : ℕ
  top = ramend (device_of task.flash)

  -- between two addresses of a harmless range
  in_range : (first last a : ℕ) → is_range_harmless (device_of task.flash) bound first last ≡ true → first ≤ a → a ≤ last → is_harmless a ≡ true
  in_range first last a h le ge =
      let parts = and_parts (nat_le first last) ((nat_lt below first && nat_le (last + bound) top) || nat_lt top first) h in
      ⊎_elim
      (λ t.
      let ends = and_parts (nat_lt below first) (nat_le (last + bound) top) t in
      let low = less_from_test below first ends.0 in
      let high = at_most_from_test (last + bound) top ends.1 in
      or_left _ _ (or_left _ _ (and_from (nat_lt below a) (nat_le (a + bound) top) (test_from_less below a (omega (arith, low, le))) (test_from_at_most (a + bound) top (omega (arith, high, ge))))))
      (λ t. let above = less_from_test top first t in or_left _ _ (or_right _ _ (test_from_less top a (omega (arith, above, le)))))
      (or_cases (nat_lt below first && nat_le (last + bound) top) (nat_lt top first) parts.1)

  module _ (least most r up : ℕ) (follows : (p : ℕ) → is_in_interval s.facts r p ≡ is_between least most p) where
    -- the numbers of the interval up to this one give harmless addresses, if the bytes permit them
    abbrev pub Scanned : ℕ → Type 0
    Scanned n = (p : ℕ) → least ≤ p → p < n → is_number_harmless (is_address_harmless task bound (store_at pc s instr)) s r up p ≡ true

    abbrev is_fine : ℕ → Bool
    is_fine a = not (permits_number s r (minus16 a up)) || is_harmless a

    -- a permitted number lies in the interval
    inside : (p : ℕ) → permits_number s r p ≡ true → (permits_bytes s r p ≡ true) × (least ≤ p) × (p ≤ most)
    inside p h =
        let parts = and_parts (permits_bytes s r p) (is_in_interval s.facts r p) h in
        let between : is_between least most p ≡ true = sym (follows p) ∙ parts.1 in
        let ends = and_parts (nat_le least p) (nat_le p most) between in
        (parts.0, at_most_from_test least p ends.0, at_most_from_test p most ends.1)

    all_by : ((p : ℕ) → permits_number s r p ≡ true → is_harmless (plus16 p up) ≡ true) → are_numbers_harmless task bound (store_at pc s instr) r up ≡ true
    all_by each =
        each_below is_fine 65536
        (λ a small. may_pass (permits_number s r (minus16 a up)) (is_harmless a)
        (λ permitted. ap is_harmless (sym (back a up small)) ∙ each (minus16 a up) permitted))

    pub all_in_range : most < 65536 → up < 65536 → is_range_harmless (device_of task.flash) bound (plus16 least up) (plus16 most up) ≡ true
        → are_numbers_harmless task bound (store_at pc s instr) r up ≡ true
    all_in_range small less h =
        let first = plus16 least up in
        let last = plus16 most up in
        let ascends = at_most_from_test first last (and_parts (nat_le first last) ((nat_lt below first && nat_le (last + bound) top) || nat_lt top first) h).0 in
        all_by
        (λ p permitted.
        let at = inside p permitted in
        in_range first last (plus16 p up) h (over least most p up at.1 at.2 small less ascends) (under least most p up at.1 at.2 small less ascends))

    pub scanned_more : (n : ℕ) → Scanned n → is_number_harmless (is_address_harmless task bound (store_at pc s instr)) s r up n ≡ true → Scanned (n + 1)
    scanned_more n before here p le lt =
        ⊎_elim (λ less. before p le less)
        (λ more. let same : n ≡ p = omega (arith, lt, more) in subst (λ x. is_number_harmless (is_address_harmless task bound (store_at pc s instr)) s r up x ≡ true) same here) (cases_lt p n)

    pub all_scanned : (n : ℕ) → most < n → Scanned n → are_numbers_harmless task bound (store_at pc s instr) r up ≡ true
    all_scanned n lt scanned = all_by (λ p permitted. let at = inside p permitted in passes (permits_bytes s r p) (is_harmless (plus16 p up)) at.0 (scanned p at.1 (omega (arith, lt, at.2))))

    -- a permitted number of the interval whose address isn't harmless
    pub one_fails : (p : ℕ) → least ≤ p → p ≤ most → p < 65536 → is_number_harmless (is_address_harmless task bound (store_at pc s instr)) s r up p ≡ false
        → are_numbers_harmless task bound (store_at pc s instr) r up ≡ false
    one_fails p low high small fails =
        let parts = both_fail (permits_bytes s r p) (is_harmless (plus16 p up)) fails in
        let between : is_in_interval s.facts r p ≡ true =
        follows p ∙ and_from _ _ (test_from_at_most least p low) (test_from_at_most p most high) in
        let number : permits_number s r p ≡ true = and_from _ _ parts.0 between in
        all_fails is_fine (plus16 p up) 65536 (small_address p up)
        (ap₂ (λ b c. not b || c) (ap (permits_number s r) (forth p up small) ∙ number) parts.1)

-- ---- where there is one address, or none

only_one : (p : ℕ → Bool) (x : ℕ) → p x ≡ true → (a : ℕ) → (x == a) ≡ true → p a ≡ true
only_one p x h a e = let same : x ≡ a = eqb-true x a e in subst (λ y. p y ≡ true) same h

pub all_of_one : (p : ℕ → Bool) (x : ℕ) → x < 65536 → all_below 65536 (λ a. not (x == a) || p a) ≡ p x
all_of_one p x small = by (p x) refl
  where
    by : (b : Bool) → p x ≡ b → all_below 65536 (λ a. not (x == a) || p a) ≡ b
    by true is = each_below (λ a. not (x == a) || p a) 65536 (λ a lt. may_pass (x == a) (p a) (only_one p x is a))
    by false is = all_fails (λ a. not (x == a) || p a) x 65536 small (ap₂ (λ b c. not b || c) (equals_itself x) is)

all_past : (p : ℕ → Bool) (x : ℕ) → 65536 ≤ x → all_below 65536 (λ a. not (x == a) || p a) ≡ true
all_past p x far =
    each_below (λ a. not (x == a) || p a) 65536
    (λ a lt. may_pass (x == a) (p a) (λ e. let same : x ≡ a = eqb-true x a e in absurd (omega (arith, lt, far, same))))

pub all_of_none : (p : ℕ → Bool) → all_below 65536 (λ a. not false || p a) ≡ true
all_of_none p = each_below (λ a. not false || p a) 65536 (λ a lt. refl)

-- an instruction that is no store has no address
pub others : (task : Task) (bound pc : ℕ) (s : AbsState) (f : PairFacts) → s.facts ≡ Some f → (instr : Instr)
    → ((b : Base) (q : Operand 0 63) (r : Operand 0 31) → instr ≡ i.Std b q r → ⊥) → ((a : ℕ) (r : Operand 0 31) → instr ≡ i.Sts a r → ⊥)
    → ((p : Pointer) (r : Operand 0 31) → instr ≡ i.St p r → ⊥) → are_addresses_harmless task bound (store_at pc s instr) ≡ true
others task bound pc s f follows (i.Std b q r) std sts st = absurd (std b q r refl)
others task bound pc s f follows (i.Sts a r) std sts st = absurd (sts a r refl)
others task bound pc s f follows (i.St p r) std sts st = absurd (st p r refl)
others task bound pc s f follows instr std sts st =
    and_from (is_followed s.facts) _ (ap is_followed follows) (all_of_none (is_address_harmless task bound (store_at pc s instr)))

pub direct : (task : Task) (bound pc : ℕ) (s : AbsState) (f : PairFacts) → s.facts ≡ Some f → (a : ℕ) (r : Operand 0 31)
    → are_addresses_harmless task bound (store_at pc s (i.Sts a r)) ≡ is_address_harmless task bound (store_at pc s (i.Sts a r)) a
direct task bound pc s f follows a r = ap₂ (λ b c. b && c) (ap is_followed follows) (⊎_elim (λ lt. all_of_one (is_address_harmless task bound (store_at pc s (i.Sts a r))) a lt) past (cases_lt a 65536))
  where
    past : 65536 ≤ a → all_below 65536 (λ x. not (a == x) || is_address_harmless task bound (store_at pc s (i.Sts a r)) x) ≡ is_address_harmless task bound (store_at pc s (i.Sts a r)) a
    past far =
        let above = test_from_less (ramend (device_of task.flash)) a (omega (arith, far, devices_are_alike.most_bytes (device_of task.flash), devices_are_alike.most_io (device_of task.flash))) in
        all_past (is_address_harmless task bound (store_at pc s (i.Sts a r))) a far ∙ sym (or_left _ _ (or_right _ _ above))
