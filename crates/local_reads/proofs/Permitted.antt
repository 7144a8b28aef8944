-- Tests for members of three-valued bytes and words.
use Rattle.std.proofs.Common.{◌≡◌, ◌∙◌, refl, sym, ap, subst, ℕ, nat_lt, nat_le, if◌then◌else◌, ◌||◌, ◌+◌, ◌-◌, ◌*◌, ◌/◌, ◌%◌, ◌^◌, ◌<◌, ◌≤◌, arith, Bool, true, false, List, inl, inr, cond, eqb}
use Rattle.std.proofs.lemmas.Bool.{cases_lt, cases_eq, eqb-true, eq-eqb, ne_eqb, cond_above, cond_below}
use Rattle.std.proofs.lemmas.Bool.Decides.{nat_tests}
use Rattle.std.proofs.lemmas.Map.Views.{list_any-from_Contains, Contains-from_any}
use Rattle.std.proofs.lemmas.Nat.Bits.{bit_at_cat_high}
use Rattle.std.specs.Bool.{IsTrue}
use Rattle.std.specs.Cmp.{IsEquivalence}
use Rattle.std.specs.Int.{bit_at}
use Rattle.std.specs.List.{Contains}
use Rattle.avr_model.proofs.AllLaws.{devices_are_alike}
use Rattle.avr_model.specs.declared.device.Device.{Device}
use Rattle.avr_model.specs.Devices.{words_of, width, wrapped}
use Rattle.avr_model.specs.Assumptions.{lists}
use Rattle.bit_domain.specs.declared.bits.Tri.{Tri}
use Rattle.bit_domain.specs.declared.bits.Tri.TheVariants.{Any}
use Rattle.bit_domain.specs.declared.bytes.TriByte.{TriByte}
use Rattle.bit_domain.specs.Tri.{Permits}
use Rattle.bit_domain.specs.TriByte.{tri_at, Has, has, byte_with}
use Rattle.bit_domain.specs.Numbers.{PointerBits, pointer_bit, IsPermitted}
use Rattle.abs_state.specs.declared.values.AbsByte.{AbsByte}
use Rattle.abs_state.specs.declared.state.AbsState.{AbsState}
use Rattle.local_rules.specs.Registers.{value}
use Rattle.local_rules.specs.Flow.{words_on, z_with}
use Rattle.bit_domain.proofs.AllLaws.{bytes_are_their_bits, tests_tell_members, numbers_are_permitted, bit_at-byte}

-- tests that imply each other are equal
same_test : (a b : Bool) → (a ≡ true → b ≡ true) → (b ≡ true → a ≡ true) → a ≡ b
same_test true b to from = sym (to refl)
same_test false true to from = from refl
same_test false false to from = refl

-- ---- word addresses

-- 32 bits of an address are enough
pub of_32 : (d : Device) (a : ℕ) → wrapped d (a % 4294967296) ≡ wrapped d a
of_32 d a =
    let low : a % 4294967296 % 131072 ≡ a % 131072 = omega arith in
    sym (devices_are_alike.of_17 d (a % 4294967296)) ∙ ap (wrapped d) low ∙ devices_are_alike.of_17 d a

-- ---- bytes

-- a byte's members are those that the test accepts
pub has_is : (t : TriByte) (x : ℕ) (result : Bool) → (IsTrue result → Has t x) → (Has t x → IsTrue result) → result ≡ has t x
has_is t x result to from =
    same_test result (has t x) (λ e. (tests_tell_members.bytes t x).1 (to e)) (λ e. from ((tests_tell_members.bytes t x).0 e))

-- ---- words

pub same_number : IsEquivalence (λ (a b : ℕ). eqb b a)
same_number = record {
  refl = λ x. eq-eqb x x refl;
  symm = λ x y. same_test (eqb y x) (eqb x y) (λ e. eq-eqb x y (sym (eqb-true y x e))) (λ e. eq-eqb y x (sym (eqb-true x y e)));
  congr = λ x y z e. ap (eqb z) (sym (eqb-true y x e));
}

listed : (xs : List ℕ) (x : ℕ) → lists xs x ≡ true → Contains xs x
listed xs x h = Contains-from_any {eq = λ (a b : ℕ). eqb b a} (λ a b e. sym (eqb-true b a e)) x xs h

is_listed : (xs : List ℕ) (x : ℕ) → Contains xs x → lists xs x ≡ true
is_listed xs x h = list_any-from_Contains {eq = λ (a b : ℕ). eqb b a} same_number x xs h

high_bit : (x i : ℕ) → bit_at (x / 256) i ≡ bit_at x (i + 8)
high_bit x i =
    let whole : x / 256 * 2 ^ 8 + x % 256 ≡ x = omega arith in
    let back : i + 8 - 8 ≡ i = omega arith in
    sym (bit_at_cat_high (x / 256) 8 (x % 256) (i + 8) (omega arith) (omega arith) ∙ ap (bit_at (x / 256)) back) ∙ ap (λ (n : ℕ). bit_at n (i + 8)) whole

-- ---- bytes of a number of so many bits

-- a byte of a number, above so many bits, with all bits beyond the number's width unknown
abbrev pub IsOpened : TriByte → ℕ → ℕ → TriByte → Type 0
IsOpened byte below width opened = (i : ℕ) → i < 8 → tri_at opened i ≡ (if nat_lt (i + below) width then tri_at byte i else Any)

opened_under : (byte opened : TriByte) (below width i : ℕ) → IsOpened byte below width opened → i < 8 → i + below < width → tri_at opened i ≡ tri_at byte i
opened_under byte opened below width i is lt under =
    let test : nat_lt (i + below) width ≡ true = grind (arith, nat_tests) in
    is i lt ∙ ap (λ (b : Bool). if b then tri_at byte i else Any) test

opened_over : (byte opened : TriByte) (below width i : ℕ) → IsOpened byte below width opened → i < 8 → width ≤ i + below → tri_at opened i ≡ Any
opened_over byte opened below width i is lt over =
    let test : nat_lt (i + below) width ≡ false = grind (arith, nat_tests) in
    is i lt ∙ ap (λ (b : Bool). if b then tri_at byte i else Any) test

-- the bits from `from` on are unchanged so far
abbrev pub IsOpenTo : TriByte → ℕ → ℕ → ℕ → TriByte → Type 0
IsOpenTo byte below width from opened = (i : ℕ) → i < 8 → tri_at opened i ≡ (if nat_lt (i + below) width || nat_le from i then tri_at byte i else Any)

pub open_none : (byte : TriByte) (below width from : ℕ) → from ≤ width - below → IsOpenTo byte below width from byte
open_none byte below width from le i lt =
    let test : (nat_lt (i + below) width || nat_le from i) ≡ true = grind (arith, nat_tests) in
    sym (ap (λ (b : Bool). if b then tri_at byte i else Any) test)

pub open_more : (byte opened next : TriByte) (below width from : ℕ) → width ≤ from + below → from < 8 → next ≡ byte_with opened from Any
    → IsOpenTo byte below width from opened → IsOpenTo byte below width (from + 1) next
open_more byte opened next below width from le small is done i lt =
    ap (λ (t : TriByte). tri_at t i) is
    ∙ bytes_are_their_bits.has_bits (λ j. cond (eqb j from) Any (tri_at opened j)) i lt
    ∙ elim (cases_eq i from) [
      | inl same ↦
          let test : (nat_lt (i + below) width || nat_le (from + 1) i) ≡ false = grind (arith, nat_tests) in
          ap (λ (b : Bool). cond b Any (tri_at opened i)) (eq-eqb i from same) ∙ sym (ap (λ (b : Bool). if b then tri_at byte i else Any) test)
      | inr other ↦
          let test : (nat_lt (i + below) width || nat_le from i) ≡ (nat_lt (i + below) width || nat_le (from + 1) i) = grind (arith, nat_tests) in
          ap (λ (b : Bool). cond b Any (tri_at opened i)) (ne_eqb i from other) ∙ done i lt ∙ ap (λ (b : Bool). if b then tri_at byte i else Any) test
    ]

pub open_all : (byte opened : TriByte) (below width from : ℕ) → 8 ≤ from → IsOpenTo byte below width from opened → IsOpened byte below width opened
open_all byte opened below width from le done i lt =
    let test : (nat_lt (i + below) width || nat_le from i) ≡ nat_lt (i + below) width = grind (arith, nat_tests) in
    done i lt ∙ ap (λ (b : Bool). if b then tri_at byte i else Any) test

-- ---- words of so many bits

-- the pointer of these three bytes, of which two are those of Z
abbrev pub three_bytes : AbsByte → AbsByte → TriByte → PointerBits
three_bytes u v bank = record { low = u.bits; high = v.bits; bank = bank }

pub z_is : (s : AbsState) (bank : TriByte) (u v : AbsByte) (r : ℕ) → u ≡ value s r → v ≡ value s (r + 1) → r ≡ 30 → three_bytes u v bank ≡ z_with s bank
z_is s bank u v r low high is = λ i. three_bytes ((low ∙ ap (value s) is) i) ((high ∙ ap (λ n. value s (n + 1)) is) i) bank

-- which byte a bit of a pointer is in
bit_low : (p : PointerBits) (i : ℕ) → i < 8 → tri_at p.low i ≡ pointer_bit p i
bit_low p i lt = cond_below i 8 (tri_at p.low i) (if nat_lt i 16 then tri_at p.high (i - 8) else tri_at p.bank (i - 16)) lt

bit_high : (p : PointerBits) (i : ℕ) → 8 ≤ i → i < 16 → tri_at p.high (i - 8) ≡ pointer_bit p i
bit_high p i above lt =
    cond_below i 16 (tri_at p.high (i - 8)) (tri_at p.bank (i - 16)) lt
    ∙ cond_above i 8 (tri_at p.low i) (if nat_lt i 16 then tri_at p.high (i - 8) else tri_at p.bank (i - 16)) (if nat_lt i 16 then tri_at p.high (i - 8) else tri_at p.bank (i - 16)) above refl

bit_bank : (p : PointerBits) (i : ℕ) → 16 ≤ i → tri_at p.bank (i - 16) ≡ pointer_bit p i
bit_bank p i above =
    cond_above i 16 (tri_at p.high (i - 8)) (tri_at p.bank (i - 16)) (tri_at p.bank (i - 16)) above refl
    ∙ cond_above i 8 (tri_at p.low i) (if nat_lt i 16 then tri_at p.high (i - 8) else tri_at p.bank (i - 16)) (if nat_lt i 16 then tri_at p.high (i - 8) else tri_at p.bank (i - 16)) (omega arith) refl

-- a bit of a byte of a number is one of the number
bit_of_second : (x i : ℕ) → i < 8 → bit_at (x / 256 % 256) i ≡ bit_at x (i + 8)
bit_of_second x i lt = bit_at-byte (x / 256) i lt ∙ high_bit x i

bit_of_third : (x i : ℕ) → bit_at (x / 65536) i ≡ bit_at x (i + 16)
bit_of_third x i =
    let split : x / 65536 ≡ x / 256 / 256 = omega arith in
    let far : i + 8 + 8 ≡ i + 16 = omega arith in
    ap (λ (n : ℕ). bit_at n i) split ∙ high_bit (x / 256) i ∙ high_bit x (i + 8) ∙ ap (bit_at x) far

-- the three bytes of a word are permitted
record AreIn (p : PointerBits) (high bank : TriByte) (x : ℕ) : Type 0 where
  first : Has p.low (x % 256)
  second : Has high (x / 256 % 256)
  third : Has bank (x / 65536)

-- a word of this many bits is permitted if its bytes are
permitted : (p : PointerBits) (high bank : TriByte) (width : ℕ) → width ≤ 24 → IsOpened p.high 8 width high → IsOpened p.bank 16 width bank
    → (x : ℕ) → x < 2 ^ width → AreIn p high bank x → IsPermitted (pointer_bit p) width x
permitted p high bank width most second third x small in_all = record {
  small = small;
  bits = λ i lt. elim (cases_lt i 8) [
    | inl below ↦ subst (λ (t : Tri). Permits t (bit_at x i)) (bit_low p i below) (subst (λ (n : ℕ). Permits (tri_at p.low i) n) (bit_at-byte x i below) (in_all.first i below))
    | inr above ↦ elim (cases_lt i 16) [
      | inl below ↦
          let back : i - 8 + 8 ≡ i = omega arith in
          let at : Permits (tri_at p.high (i - 8)) (bit_at (x / 256 % 256) (i - 8)) =
          subst (λ (t : Tri). Permits t (bit_at (x / 256 % 256) (i - 8))) (opened_under p.high high 8 width (i - 8) second (omega arith) (omega arith)) (in_all.second (i - 8) (omega arith)) in
          subst (λ (t : Tri). Permits t (bit_at x i)) (bit_high p i above below)
          (subst (λ (n : ℕ). Permits (tri_at p.high (i - 8)) n) (bit_of_second x (i - 8) (omega arith) ∙ ap (bit_at x) back) at)
      | inr over ↦
          let back : i - 16 + 16 ≡ i = omega arith in
          let few : i - 16 < 8 = omega arith in
          let at : Permits (tri_at p.bank (i - 16)) (bit_at (x / 65536) (i - 16)) =
          subst (λ (t : Tri). Permits t (bit_at (x / 65536) (i - 16))) (opened_under p.bank bank 16 width (i - 16) third few (omega arith)) (in_all.third (i - 16) few) in
          subst (λ (t : Tri). Permits t (bit_at x i)) (bit_bank p i over)
          (subst (λ (n : ℕ). Permits (tri_at p.bank (i - 16)) n) (bit_of_third x (i - 16) ∙ ap (bit_at x) back) at)
    ]
  ];
}

first_of : (p : PointerBits) (width x : ℕ) → 8 ≤ width → IsPermitted (pointer_bit p) width x → Has p.low (x % 256)
first_of p width x least h i lt =
    subst (λ (n : ℕ). Permits (tri_at p.low i) n) (sym (bit_at-byte x i lt))
    (subst (λ (t : Tri). Permits t (bit_at x i)) (sym (bit_low p i lt)) (h.bits i (omega (arith, lt, least))))

second_of : (p : PointerBits) (high : TriByte) (width x : ℕ) → IsOpened p.high 8 width high → IsPermitted (pointer_bit p) width x → Has high (x / 256 % 256)
second_of p high width x is h i lt = elim (cases_lt (i + 8) width) [
  | inl below ↦
      let back : i + 8 - 8 ≡ i = omega arith in
      let bit : tri_at p.high i ≡ pointer_bit p (i + 8) = ap (tri_at p.high) (sym back) ∙ bit_high p (i + 8) (omega arith) (omega arith) in
      subst (λ (t : Tri). Permits t (bit_at (x / 256 % 256) i)) (sym (opened_under p.high high 8 width i is lt below))
      (subst (λ (n : ℕ). Permits (tri_at p.high i) n) (sym (bit_of_second x i lt))
      (subst (λ (t : Tri). Permits t (bit_at x (i + 8))) (sym bit) (h.bits (i + 8) below)))
  | inr above ↦ subst (λ (t : Tri). Permits t (bit_at (x / 256 % 256) i)) (sym (opened_over p.high high 8 width i is lt above)) tt
]

third_of : (p : PointerBits) (bank : TriByte) (width x : ℕ) → IsOpened p.bank 16 width bank → IsPermitted (pointer_bit p) width x → Has bank (x / 65536)
third_of p bank width x is h i lt = elim (cases_lt (i + 16) width) [
  | inl below ↦
      let back : i + 16 - 16 ≡ i = omega arith in
      let bit : tri_at p.bank i ≡ pointer_bit p (i + 16) = ap (tri_at p.bank) (sym back) ∙ bit_bank p (i + 16) (omega arith) in
      subst (λ (t : Tri). Permits t (bit_at (x / 65536) i)) (sym (opened_under p.bank bank 16 width i is lt below))
      (subst (λ (n : ℕ). Permits (tri_at p.bank i) n) (sym (bit_of_third x i))
      (subst (λ (t : Tri). Permits t (bit_at x (i + 16))) (sym bit) (h.bits (i + 16) below)))
  | inr above ↦ subst (λ (t : Tri). Permits t (bit_at (x / 65536) i)) (sym (opened_over p.bank bank 16 width i is lt above)) tt
]

-- ---- the words of a pointer are those below the end of flash whose bytes are permitted, with the bits left open that no word has

in_list : (d : Device) (p : PointerBits) (x : ℕ) → lists (words_on d p) x ≡ true → IsPermitted (pointer_bit p) (width d) x
in_list d p x e = (numbers_are_permitted.members (pointer_bit p) (width d) x).0 (listed (words_on d p) x e)

pub none_above : (d : Device) (p : PointerBits) (x : ℕ) → words_of d ≤ x → false ≡ lists (words_on d p) x
none_above d p x above = same_test false (lists (words_on d p) x) (λ e. cc) (λ e. let small = (in_list d p x e).small in absurd (omega (arith, small, above)))

-- a byte that isn't permitted decides
decides : (d : Device) (p : PointerBits) (x : ℕ) (fits : Bool) → fits ≡ false → (IsPermitted (pointer_bit p) (width d) x → IsTrue fits) → fits ≡ lists (words_on d p) x
decides d p x fits not from = same_test fits (lists (words_on d p) x) (λ e. let wrong : true ≡ false = sym e ∙ not in cc) (λ e. from (in_list d p x e))

pub first_decides : (d : Device) (p : PointerBits) (x : ℕ) (fits : Bool) → fits ≡ false → (Has p.low (x % 256) → IsTrue fits) → fits ≡ lists (words_on d p) x
first_decides d p x fits not from = decides d p x fits not (λ h. from (first_of p (width d) x (let least = devices_are_alike.least_width d in omega arith) h))

pub second_decides : (d : Device) (p : PointerBits) (high : TriByte) → IsOpened p.high 8 (width d) high
    → (x : ℕ) (fits : Bool) → fits ≡ false → (Has high (x / 256 % 256) → IsTrue fits) → fits ≡ lists (words_on d p) x
second_decides d p high is x fits not from = decides d p x fits not (λ h. from (second_of p high (width d) x is h))

pub last_decides : (d : Device) (p : PointerBits) (high bank : TriByte) → IsOpened p.high 8 (width d) high → IsOpened p.bank 16 (width d) bank
    → (x : ℕ) (fits : Bool) → x < words_of d → Has p.low (x % 256) → Has high (x / 256 % 256)
    → (IsTrue fits → Has bank (x / 65536)) → (Has bank (x / 65536) → IsTrue fits) → fits ≡ lists (words_on d p) x
last_decides d p high bank second third x fits small low top to from =
    same_test fits (lists (words_on d p) x)
    (λ e.
    is_listed (words_on d p) x
    ((numbers_are_permitted.members (pointer_bit p) (width d) x).1 (permitted p high bank (width d) (let most = devices_are_alike.most_width d in omega arith) second third x small (record { first = low; second = top; third = to e }))))
    (λ e. from (third_of p bank (width d) x third (in_list d p x e)))
