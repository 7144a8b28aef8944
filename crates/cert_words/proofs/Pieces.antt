-- Reading and spelling of the pieces of a word are inverse.
use Rattle.std.proofs.Common.{ℕ, ◌<◌, ◌≤◌, ◌^◌, ◌≡◌, ◌==◌, ◌&&◌, List, [], ◌∷◌, ◌++◌, Bool, true, false, refl, ap, ap₂, sym, ◌∙◌, arith, Some, subst, append_assoc}
use Rattle.std.proofs.lemmas.Bool.{eqb-true, eq-eqb}
use Rattle.std.proofs.lemmas.List.{append-nil}
use Rattle.std.specs.Int.{bit_at}
use Rattle.std.specs.Int.RustNames.{bit_and}
use Rattle.avr_model.specs.declared.device.Device.{Device}
use Rattle.avr_model.specs.Devices.{depth_of}
use Rattle.text_base.specs.Digits.{hex_digits}
use Rattle.line_reading.specs.Letters.{letter_at, digits_at, is_end}
use Rattle.line_reading.specs.Reading.{dec_at}
use Rattle.line_reading.specs.Words.{WordLaws}
use Rattle.line_reading.proofs.AllLaws.{bind_some, map_some, end_is, letter_take, digits_take, digits_again}
use Rattle.std.specs.Fmt.{decimal}
use Rattle.basics.specs.Numbers.{equals_itself}
use Rattle.std.proofs.lemmas.Option.{cond_some}
use Rattle.basics.specs.Lists.{same_head_and_tail}
use Rattle.bit_domain.specs.declared.bytes.TriByte.{TriByte}
use Rattle.bit_domain.specs.TriByte.{tri_of}
use Rattle.bit_domain.specs.Laws.{BytesAreTheirBits, BytesAreSets}
use Rattle.cert_words.specs.Spelling.{bits_text}
use Rattle.cert_words.specs.Reading.{tri_byte, bits_at, offset_in, marked_in}
use Rattle.cert_words.proofs.Limits.{depth_room}

pub three : (a b c : Bool) → (a && b && c) ≡ true → (a ≡ true) × (b ≡ true) × (c ≡ true)
three true true c e = (refl, refl, e)
three true false c e = cc
three false b c e = cc

-- ---- bits

made : BytesAreTheirBits → (known value : ℕ) → known < 256 → bit_and value known ≡ value → (t : TriByte) × (t.known ≡ known) × (t.value ≡ value) × (t ≡ tri_byte known value)
made b known value small inside =
    let t : TriByte = record { known = known; value = value; inside = inside; small = omega (arith, small) } in
    (t, refl, refl, b.built t (λ i. tri_of (bit_at known i) (bit_at value i)) (λ i h. refl))

pub known_is : BytesAreTheirBits → (known value : ℕ) → known < 256 → bit_and value known ≡ value → (tri_byte known value).known ≡ known
known_is b known value small inside = let m = made b known value small inside in sym (ap (λ (t : TriByte). t.known) m.3) ∙ m.1

pub value_is : BytesAreTheirBits → (known value : ℕ) → known < 256 → bit_and value known ≡ value → (tri_byte known value).value ≡ value
value_is b known value small inside = let m = made b known value small inside in sym (ap (λ (t : TriByte). t.value) m.3) ∙ m.2

pub bits_take : WordLaws → BytesAreTheirBits → (bs : List ℕ) (z : TriByte × List ℕ) → bits_at bs ≡ Some z → bs ≡ bits_text z.0 ++ z.1
unfolding bits_at
bits_take k b bs z e =
    let n = bind_some (digits_at 2 bs) _ z e in
    let v = bind_some (digits_at 2 n.0.1) _ z n.2 in
    let last = cond_some {A = TriByte × List ℕ} (bit_and v.0.0 n.0.0 == v.0.0) (tri_byte n.0.0 v.0.0, v.0.1) z v.2 in
    let inside = eqb-true (bit_and v.0.0 n.0.0) v.0.0 last.0 in
    let first = digits_take k 2 bs n.0 n.1 in
    let second = digits_take k 2 n.0.1 v.0 v.1 in
    let small : n.0.0 < 256 = omega (arith, first.1) in
    let digits = ap₂ (λ (x y : ℕ). hex_digits x 2 ++ hex_digits y 2) (sym (known_is b n.0.0 v.0.0 small inside)) (sym (value_is b n.0.0 v.0.0 small inside)) in
    let P : TriByte × List ℕ → Type 0 = λ y. bs ≡ bits_text y.0 ++ y.1 in
    subst P last.1 (first.0 ∙ ap (λ (xs : List ℕ). hex_digits n.0.0 2 ++ xs) second.0 ∙ sym (append_assoc (hex_digits n.0.0 2) (hex_digits v.0.0 2) v.0.1) ∙ ap (λ (xs : List ℕ). xs ++ v.0.1) digits)

pub bits_again : WordLaws → BytesAreTheirBits → BytesAreSets → (t : TriByte) (rest : List ℕ) → bits_at (bits_text t ++ rest) ≡ Some (t, rest)
unfolding bits_at
bits_again k b s t rest =
    let text = append_assoc (hex_digits t.known 2) (hex_digits t.value 2) rest in
    let small : t.known < 16 ^ 2 = omega (arith, t.small) in
    let low : t.value < 16 ^ 2 = omega (arith, (s.member t).0) in
    let first = digits_again k 2 t.known (hex_digits t.value 2 ++ rest) small in
    let second = digits_again k 2 t.value rest low in
    let inside = eq-eqb (bit_and t.value t.known) t.value t.inside in
    rw (text, first, second, inside) (ap (λ (u : TriByte). Some (u, rest)) (b.is_built t))

-- ---- a decimal, and a number behind a comma and a mark

pub offset_take : WordLaws → (device : Device) (bs : List ℕ) (n : ℕ) → offset_in device bs ≡ Some n → (bs ≡ decimal n) × (n ≤ depth_of device)
offset_take k device bs n e =
    let d = map_some (dec_at (depth_of device) (bs ∷ [])) (λ x. x.0) n e in
    let t = k.dec_takes (depth_of device) d.0.0 (bs ∷ []) d.0.1 (depth_room device) d.1 in
    let P : ℕ → Type 0 = λ y. (bs ≡ decimal y) × (y ≤ depth_of device) in
    subst P d.2 ((same_head_and_tail bs (decimal d.0.0) [] d.0.1 t.0).0, t.1)

pub offset_again : WordLaws → (device : Device) (n : ℕ) → n ≤ depth_of device → offset_in device (decimal n) ≡ Some n
offset_again k device n h = rw (k.dec_taken (depth_of device) n [] (depth_room device) h) refl

pub marked_take : WordLaws → (mark digits : ℕ) (bs : List ℕ) (n : ℕ) → marked_in mark digits bs ≡ Some n → (bs ≡ 44 ∷ mark ∷ hex_digits n digits) × (n < 16 ^ digits)
unfolding marked_in
marked_take k mark digits bs n e =
    let c = bind_some (letter_at bs) _ n e in
    let m = bind_some (letter_at c.0.1) _ n c.2 in
    let d = bind_some (digits_at digits m.0.1) _ n m.2 in
    let last = cond_some (c.0.0 == 44 && m.0.0 == mark && is_end d.0.1) d.0.0 n d.2 in
    let t = three (c.0.0 == 44) (m.0.0 == mark) (is_end d.0.1) last.0 in
    let number = digits_take k digits m.0.1 d.0 d.1 in
    let whole : m.0.1 ≡ hex_digits d.0.0 digits = number.0 ∙ ap (λ (xs : List ℕ). hex_digits d.0.0 digits ++ xs) (end_is d.0.1 t.2) ∙ append-nil (hex_digits d.0.0 digits) in
    let P : ℕ → Type 0 = λ y. (bs ≡ 44 ∷ mark ∷ hex_digits y digits) × (y < 16 ^ digits) in
    subst P last.1 (
      letter_take bs c.0 c.1 ∙ ap₂ (λ (x : ℕ) (xs : List ℕ). x ∷ xs) (eqb-true c.0.0 44 t.0) (letter_take c.0.1 m.0 m.1 ∙ ap₂ (λ (x : ℕ) (xs : List ℕ). x ∷ xs) (eqb-true m.0.0 mark t.1) whole),
      number.1,
    )

pub marked_again : WordLaws → (mark digits n : ℕ) → n < 16 ^ digits → marked_in mark digits (44 ∷ mark ∷ hex_digits n digits) ≡ Some n
unfolding marked_in
marked_again k mark digits n h =
    let number = digits_again k digits n [] h in
    let none = append-nil (hex_digits n digits) in
    let d : digits_at digits (hex_digits n digits) ≡ Some (n, []) = ap (digits_at digits) (sym none) ∙ number in
    rw (d, equals_itself mark) refl
