-- Reading and spelling of tags are inverse.
use Rattle.std.proofs.Common.{ℕ, ◌+◌, ◌%◌, ◌<◌, ◌≤◌, ◌^◌, ◌≡◌, ◌==◌, ◌&&◌, nat_lt, nat_le, inl, inr, List, [], ◌∷◌, ◌++◌, length, length-append, codes, true, false, refl, ap, ap₂, sym, ◌∙◌, arith, Option, option_map, Some, subst}
use Rattle.std.proofs.lemmas.Bool.{eqb-true, eq-eqb, and_parts, cases_Bool}
use Rattle.std.proofs.lemmas.Bool.Decides.{nat_tests}
use Rattle.std.proofs.lemmas.List.{append-nil}
use Rattle.std.proofs.lemmas.Option.{cond_some, same_Some, none-some}
use Rattle.std.proofs.lemmas.Slice.Eq.{bytes_eq-Decides}
use Rattle.std.specs.Str.{bytes_eq}
use Rattle.basics.specs.Lists.{chosen}
use Rattle.basics.specs.Numbers.{less_from_test, test_from_less, at_most_from_test, test_from_at_most}
use Rattle.text_base.specs.Digits.{hex_digits}
use Rattle.line_reading.specs.Letters.{letter_at, digits_at, is_end}
use Rattle.line_reading.specs.Words.{WordLaws}
use Rattle.line_reading.proofs.AllLaws.{map_some, bind_some, end_is, letter_take, length_hex, digits_take, digits_again}
use Rattle.pair_domain.specs.declared.tags.SumTag.{SumTag}
use Rattle.pair_domain.specs.declared.tags.SumTag.TheVariants as sum
use Rattle.pair_domain.specs.declared.tags.Side.{Side}
use Rattle.pair_domain.specs.declared.tags.Side.TheVariants as side
use Rattle.pair_domain.specs.declared.tags.CompareTag.{CompareTag}
use Rattle.pair_domain.specs.declared.tags.CompareTag.TheVariants as compare
use Rattle.pair_domain.specs.declared.tags.ZeroTag.{ZeroTag}
use Rattle.pair_domain.specs.declared.tags.ZeroTag.TheVariants as zero
use Rattle.pair_domain.specs.Rank.{IsPair, EndsFit, SumFits, SideFits, CompareFits, ZeroFits}
use Rattle.pair_words.specs.Spelling.{ends_text, sum_word, side_text, compare_word, zero_word}
use Rattle.pair_words.specs.Reading.{register_at, is_even, pair_at, are_near, ends_in, sum_by, sum_in, side_at, compare_behind, compare_by, compare_in, alone, zero_by, zero_in}

abbrev front : ℕ → List ℕ → List ℕ
front x xs = x ∷ xs

-- words of two or more bytes are no dash
pub not_dash : (w : List ℕ) → 2 ≤ length w → bytes_eq w (codes "-") ≡ false
not_dash w long = elim (cases_Bool (bytes_eq w (codes "-"))) [
  | inl dash ↦ let size = ap length ((bytes_eq-Decides w (codes "-")).0 dash) in absurd (omega (arith, size, long))
  | inr other ↦ other
]

-- ---- registers and pairs

pub register_take : WordLaws → (bs : List ℕ) (z : ℕ × List ℕ) → register_at bs ≡ Some z → (bs ≡ hex_digits z.0 2 ++ z.1) × (z.0 < 32)
unfolding register_at
register_take k bs z e =
    let r = bind_some (digits_at 2 bs) _ z e in
    let last = cond_some (nat_lt r.0.0 32) r.0 z r.2 in
    let low : r.0.0 < 32 = grind (arith, nat_tests, last.0) in
    let P : ℕ × List ℕ → Type 0 = λ y. (bs ≡ hex_digits y.0 2 ++ y.1) × (y.0 < 32) in
    subst P last.1 ((digits_take k 2 bs r.0 r.1).0, low)

pub register_again : WordLaws → (r : ℕ) (rest : List ℕ) → r < 32 → register_at (hex_digits r 2 ++ rest) ≡ Some (r, rest)
unfolding register_at
register_again k r rest h =
    let low : nat_lt r 32 ≡ true = grind (arith, nat_tests, h) in
    rw (digits_again k 2 r rest (omega (arith, h)), low) refl

register_alone : WordLaws → (r : ℕ) → r < 32 → register_at (hex_digits r 2) ≡ Some (r, [])
register_alone k r h = ap register_at (sym (append-nil (hex_digits r 2))) ∙ register_again k r [] h

pair_take : WordLaws → (bs : List ℕ) (z : ℕ × List ℕ) → pair_at bs ≡ Some z → (bs ≡ hex_digits z.0 2 ++ z.1) × IsPair z.0
unfolding pair_at
pair_take k bs z e =
    let r = bind_some (register_at bs) _ z e in
    let last = cond_some (is_even r.0.0) r.0 z r.2 in
    let t = register_take k bs r.0 r.1 in
    let P : ℕ × List ℕ → Type 0 = λ y. (bs ≡ hex_digits y.0 2 ++ y.1) × IsPair y.0 in
    subst P last.1 (t.0, record { register = t.1; even = eqb-true (r.0.0 % 2) 0 last.0 })

pair_again : WordLaws → (r : ℕ) (rest : List ℕ) → IsPair r → pair_at (hex_digits r 2 ++ rest) ≡ Some (r, rest)
unfolding pair_at
pair_again k r rest h = rw (register_again k r rest h.register, eq-eqb (r % 2) 0 h.even) refl

pair_alone : WordLaws → (r : ℕ) → IsPair r → pair_at (hex_digits r 2) ≡ Some (r, [])
pair_alone k r h = ap pair_at (sym (append-nil (hex_digits r 2))) ∙ pair_again k r [] h

-- ---- the sum tag

record EndsOfTagRead (bs : List ℕ) (r a b : ℕ) : Type 0 where
  pub text : bs ≡ ends_text r a b
  pub fit : EndsFit r a b

ends_take : WordLaws → (bs : List ℕ) (z : ℕ × ℕ × ℕ) → ends_in bs ≡ Some z → EndsOfTagRead bs z.0 z.1 z.2
unfolding ends_in
ends_take k bs z e =
    let r = bind_some (pair_at bs) _ z e in
    let a = bind_some (digits_at 5 r.0.1) _ z r.2 in
    let b = bind_some (digits_at 5 a.0.1) _ z a.2 in
    let last = cond_some {A = ℕ × ℕ × ℕ} (are_near a.0.0 b.0.0 && is_end b.0.1) (r.0.0, a.0.0, b.0.0) z b.2 in
    let tests = and_parts (are_near a.0.0 b.0.0) (is_end b.0.1) last.0 in
    let near = and_parts (nat_le a.0.0 b.0.0) (nat_lt b.0.0 (a.0.0 + 65535)) tests.0 in
    let first = pair_take k bs r.0 r.1 in
    let second = digits_take k 5 r.0.1 a.0 a.1 in
    let third = digits_take k 5 a.0.1 b.0 b.1 in
    let upper : a.0.1 ≡ hex_digits b.0.0 5 = third.0 ∙ ap (λ (xs : List ℕ). hex_digits b.0.0 5 ++ xs) (end_is b.0.1 tests.1) ∙ append-nil (hex_digits b.0.0 5) in
    let ends : r.0.1 ≡ hex_digits a.0.0 5 ++ hex_digits b.0.0 5 = second.0 ∙ ap (λ (xs : List ℕ). hex_digits a.0.0 5 ++ xs) upper in
    let fit : EndsFit r.0.0 a.0.0 b.0.0 =
    record {
      pair = first.1;
      ordered = at_most_from_test a.0.0 b.0.0 near.0;
      near = less_from_test b.0.0 (a.0.0 + 65535) near.1;
      small = omega (arith, third.1);
    } in
    let P : ℕ × ℕ × ℕ → Type 0 = λ y. EndsOfTagRead bs y.0 y.1 y.2 in
    subst P last.1 (record { text = first.0 ∙ ap (λ (xs : List ℕ). hex_digits r.0.0 2 ++ xs) ends; fit = fit })

ends_again : WordLaws → (r a b : ℕ) → EndsFit r a b → ends_in (ends_text r a b) ≡ Some (r, a, b)
unfolding ends_in
ends_again k r a b h =
    let high : b < 16 ^ 5 = omega (arith, h.small) in
    let low : a < 16 ^ 5 = omega (arith, h.small, h.ordered) in
    let alone : digits_at 5 (hex_digits b 5) ≡ Some (b, []) = ap (digits_at 5) (sym (append-nil (hex_digits b 5))) ∙ digits_again k 5 b [] high in
    rw (
      pair_again k r (hex_digits a 5 ++ hex_digits b 5) h.pair,
      digits_again k 5 a (hex_digits b 5) low,
      alone,
      test_from_at_most a b h.ordered,
      test_from_less b (a + 65535) h.near,
    ) refl

sum_by_take : WordLaws → (letter : ℕ) (bs : List ℕ) (s : SumTag) → sum_by letter bs ≡ Some s → (letter ∷ bs ≡ sum_word s) × SumFits s
sum_by_take k letter bs s e =
    let P : SumTag → Type 0 = λ y. (letter ∷ bs ≡ sum_word y) × SumFits y in
    elim (chosen (letter == 117) _ _ (Some s) e) [
      | inl h ↦
          let z = map_some (ends_in bs) (λ x. sum.Up x.0 x.1 x.2) s h.1 in
          let t = ends_take k bs z.0 z.1 in
          subst P z.2 (ap₂ front (eqb-true letter 117 h.0) t.text, t.fit)
      | inr h ↦ elim (chosen (letter == 100) _ _ (Some s) h.1) [
        | inl g ↦
            let z = map_some (ends_in bs) (λ x. sum.Down x.0 x.1 x.2) s g.1 in
            let t = ends_take k bs z.0 z.1 in
            subst P z.2 (ap₂ front (eqb-true letter 100 g.0) t.text, t.fit)
        | inr g ↦ absurd (none-some s g.1)
      ]
    ]

pub sum_take : WordLaws → (w : List ℕ) (s : SumTag) → sum_in w ≡ Some s → (w ≡ sum_word s) × SumFits s
unfolding sum_in
sum_take k w s e =
    let P : SumTag → Type 0 = λ y. (w ≡ sum_word y) × SumFits y in
    elim (chosen (bytes_eq w (codes "-")) _ _ (Some s) e) [
      | inl h ↦ subst P (same_Some {A = SumTag} sum.None s h.1) ((bytes_eq-Decides w (codes "-")).0 h.0, tt)
      | inr h ↦
          let l = bind_some (letter_at w) _ s h.1 in
          let t = sum_by_take k l.0.0 l.0.1 s l.2 in
          (letter_take w l.0 l.1 ∙ t.0, t.1)
    ]

pub sum_again : WordLaws → (s : SumTag) → SumFits s → sum_in (sum_word s) ≡ Some s
unfolding sum_in
sum_again k sum.None h = refl
sum_again k (sum.Up r a b) h = ap (λ o. option_map (λ x. sum.Up x.0 x.1 x.2) o) (ends_again k r a b h)
sum_again k (sum.Down r a b) h = ap (λ o. option_map (λ x. sum.Down x.0 x.1 x.2) o) (ends_again k r a b h)

-- ---- the compare tag

side_take : WordLaws → (bs : List ℕ) (z : Side × List ℕ) → side_at bs ≡ Some z → (bs ≡ side_text z.0 ++ z.1) × SideFits z.0
unfolding side_at
side_take k bs z e =
    let l = bind_some (letter_at bs) _ z e in
    let first = letter_take bs l.0 l.1 in
    let P : Side × List ℕ → Type 0 = λ y. (bs ≡ side_text y.0 ++ y.1) × SideFits y.0 in
    elim (chosen (l.0.0 == 107) _ _ (Some z) l.2) [
      | inl h ↦
          let n = map_some (digits_at 2 l.0.1) (λ x. (side.Byte x.0, x.1)) z h.1 in
          let t = digits_take k 2 l.0.1 n.0 n.1 in
          subst P n.2 (first ∙ ap₂ front (eqb-true l.0.0 107 h.0) t.0, omega (arith, t.1))
      | inr h ↦ elim (chosen (l.0.0 == 114) _ _ (Some z) h.1) [
        | inl g ↦
            let n = map_some (register_at l.0.1) (λ x. (side.Register x.0, x.1)) z g.1 in
            let t = register_take k l.0.1 n.0 n.1 in
            subst P n.2 (first ∙ ap₂ front (eqb-true l.0.0 114 g.0) t.0, t.1)
        | inr g ↦ absurd (none-some z g.1)
      ]
    ]

side_again : WordLaws → (y : Side) (rest : List ℕ) → SideFits y → side_at (side_text y ++ rest) ≡ Some (y, rest)
unfolding side_at
side_again k (side.Byte b) rest h = rw (digits_again k 2 b rest (omega (arith, h))) refl
side_again k (side.Register q) rest h = rw (register_again k q rest h) refl

side_alone : WordLaws → (y : Side) → SideFits y → side_at (side_text y) ≡ Some (y, [])
side_alone k y h = ap side_at (sym (append-nil (side_text y))) ∙ side_again k y [] h

behind_take : WordLaws → (x : ℕ) (y : Side) (bs : List ℕ) (c : CompareTag) → x < 32 → SideFits y → compare_behind x y bs ≡ Some c
    → (hex_digits x 2 ++ (side_text y ++ bs) ≡ compare_word c) × CompareFits c
unfolding compare_behind
behind_take k x y bs c low fits e =
    let P : CompareTag → Type 0 = λ z. (hex_digits x 2 ++ (side_text y ++ bs) ≡ compare_word z) × CompareFits z in
    elim (chosen (is_end bs) _ _ (Some c) e) [
      | inl h ↦
          let none = ap (λ (xs : List ℕ). side_text y ++ xs) (end_is bs h.0) ∙ append-nil (side_text y) in
          subst P (same_Some {A = CompareTag} (compare.Byte x y) c h.1) (ap (λ (xs : List ℕ). hex_digits x 2 ++ xs) none, (low, fits))
      | inr h ↦
          let p = bind_some (register_at bs) _ c h.1 in
          let last = cond_some {A = CompareTag} (is_even x && is_end p.0.1) (compare.Pair x y p.0.0) c p.2 in
          let tests = and_parts (is_even x) (is_end p.0.1) last.0 in
          let t = register_take k bs p.0 p.1 in
          let beside = t.0 ∙ ap (λ (xs : List ℕ). hex_digits p.0.0 2 ++ xs) (end_is p.0.1 tests.1) ∙ append-nil (hex_digits p.0.0 2) in
          let pair : IsPair x = record { register = low; even = eqb-true (x % 2) 0 tests.0 } in
          subst P last.1 (ap (λ (xs : List ℕ). hex_digits x 2 ++ (side_text y ++ xs)) beside, (pair, fits, t.1))
    ]

pub compare_take : WordLaws → (w : List ℕ) (c : CompareTag) → compare_in w ≡ Some c → (w ≡ compare_word c) × CompareFits c
unfolding compare_in compare_by
compare_take k w c e =
    let P : CompareTag → Type 0 = λ y. (w ≡ compare_word y) × CompareFits y in
    elim (chosen (bytes_eq w (codes "-")) _ _ (Some c) e) [
      | inl h ↦ subst P (same_Some {A = CompareTag} compare.None c h.1) ((bytes_eq-Decides w (codes "-")).0 h.0, tt)
      | inr h ↦
          let x = bind_some (register_at w) _ c h.1 in
          let y = bind_some (side_at x.0.1) _ c x.2 in
          let first = register_take k w x.0 x.1 in
          let second = side_take k x.0.1 y.0 y.1 in
          let t = behind_take k x.0.0 y.0.0 y.0.1 c first.1 second.1 y.2 in
          (first.0 ∙ ap (λ (xs : List ℕ). hex_digits x.0.0 2 ++ xs) second.0 ∙ t.0, t.1)
    ]

-- digits followed by more bytes are no dash
digits_first : (x : ℕ) (xs : List ℕ) → bytes_eq (hex_digits x 2 ++ xs) (codes "-") ≡ false
digits_first x xs = not_dash (hex_digits x 2 ++ xs) (omega (arith, length-append (hex_digits x 2) xs, length_hex x 2))

beside_some : (p : ℕ) → is_end (hex_digits p 2) ≡ false
unfolding hex_digits
beside_some p = refl

byte_behind : (x : ℕ) (y : Side) → compare_behind x y [] ≡ Some (compare.Byte x y)
unfolding compare_behind
byte_behind x y = refl

pair_behind : WordLaws → (x : ℕ) (y : Side) (p : ℕ) → IsPair x → p < 32 → compare_behind x y (hex_digits p 2) ≡ Some (compare.Pair x y p)
unfolding compare_behind
pair_behind k x y p h low = rw (beside_some p, register_alone k p low, eq-eqb (x % 2) 0 h.even) refl

pub compare_again : WordLaws → (c : CompareTag) → CompareFits c → compare_in (compare_word c) ≡ Some c
unfolding compare_in compare_by
compare_again k compare.None h = refl
compare_again k (compare.Byte x y) h = rw (digits_first x (side_text y), register_again k x (side_text y) h.0, side_alone k y h.1) (byte_behind x y)
compare_again k (compare.Pair r y p) h =
    rw (digits_first r (side_text y ++ hex_digits p 2), register_again k r (side_text y ++ hex_digits p 2) h.0.register, side_again k y (hex_digits p 2) h.1) (pair_behind k r y p h.0 h.2)

-- ---- the zero tag

alone_is : (o : Option (ℕ × List ℕ)) (n : ℕ) → alone o ≡ Some n → o ≡ Some (n, [])
alone_is o n e =
    let r = bind_some o _ n e in
    let last = cond_some (is_end r.0.1) r.0.0 n r.2 in
    r.1 ∙ ap₂ (λ (m : ℕ) (xs : List ℕ). Some (m, xs)) last.1 (end_is r.0.1 last.0)

zero_by_take : WordLaws → (letter : ℕ) (bs : List ℕ) (z : ZeroTag) → zero_by letter bs ≡ Some z → (letter ∷ bs ≡ zero_word z) × ZeroFits z
zero_by_take k letter bs z e =
    let P : ZeroTag → Type 0 = λ y. (letter ∷ bs ≡ zero_word y) × ZeroFits y in
    elim (chosen (letter == 98) _ _ (Some z) e) [
      | inl h ↦
          let x = map_some (alone (register_at bs)) (λ x. zero.Byte x) z h.1 in
          let t = register_take k bs (x.0, []) (alone_is (register_at bs) x.0 x.1) in
          subst P x.2 (ap₂ front (eqb-true letter 98 h.0) (t.0 ∙ append-nil (hex_digits x.0 2)), t.1)
      | inr h ↦ elim (chosen (letter == 112) _ _ (Some z) h.1) [
        | inl g ↦
            let r = map_some (alone (pair_at bs)) (λ r. zero.Pair r) z g.1 in
            let t = pair_take k bs (r.0, []) (alone_is (pair_at bs) r.0 r.1) in
            subst P r.2 (ap₂ front (eqb-true letter 112 g.0) (t.0 ∙ append-nil (hex_digits r.0 2)), t.1)
        | inr g ↦ absurd (none-some z g.1)
      ]
    ]

pub zero_take : WordLaws → (w : List ℕ) (z : ZeroTag) → zero_in w ≡ Some z → (w ≡ zero_word z) × ZeroFits z
unfolding zero_in
zero_take k w z e =
    let P : ZeroTag → Type 0 = λ y. (w ≡ zero_word y) × ZeroFits y in
    elim (chosen (bytes_eq w (codes "-")) _ _ (Some z) e) [
      | inl h ↦ subst P (same_Some {A = ZeroTag} zero.None z h.1) ((bytes_eq-Decides w (codes "-")).0 h.0, tt)
      | inr h ↦
          let l = bind_some (letter_at w) _ z h.1 in
          let t = zero_by_take k l.0.0 l.0.1 z l.2 in
          (letter_take w l.0 l.1 ∙ t.0, t.1)
    ]

pub zero_again : WordLaws → (z : ZeroTag) → ZeroFits z → zero_in (zero_word z) ≡ Some z
unfolding zero_in
zero_again k zero.None h = refl
zero_again k (zero.Byte x) h = rw (register_alone k x h) refl
zero_again k (zero.Pair r) h = rw (pair_alone k r h) refl
