-- Reading and spelling of values, slots, flags, carry tags and forms are inverse.
use Rattle.std.proofs.Common.{ℕ, ◌-◌, ◌%◌, ◌<◌, ◌≤◌, ◌^◌, ◌≡◌, ◌==◌, ◌&&◌, not, nat_le, inl, inr, List, [], ◌∷◌, ◌++◌, length, take, drop, codes, Bool, true, false, refl, ap, ap₂, sym, ◌∙◌, arith, Some, cond, nat_lt, subst, length-append, append_assoc}
use Rattle.std.proofs.lemmas.Bool.{eqb-true, false≢true, not-true, and_parts}
use Rattle.std.proofs.lemmas.Bool.Decides.{nat_tests}
use Rattle.std.proofs.lemmas.List.{take-append-drop, append-nil}
use Rattle.std.proofs.lemmas.Slice.Eq.{bytes_eq-Decides}
use Rattle.std.proofs.Math.Seq.{take-append_seam, drop-append_seam}
use Rattle.std.specs.Int.{bit_at}
use Rattle.std.specs.Str.{bytes_eq}
use Rattle.std.specs.Fmt.{decimal}
use Rattle.std.proofs.lemmas.Option.{cond_some, same_Some as some_is, none-some}
use Rattle.basics.specs.Lists.{chosen}
use Rattle.basics.specs.Numbers.{at_most_from_test, test_from_at_most}
use Rattle.avr_model.specs.declared.device.Device.{Device}
use Rattle.avr_model.specs.Devices.{depth_of, has_sph}
use Rattle.text_base.specs.Digits.{hex_digits}
use Rattle.line_reading.specs.Letters.{letter_at, digits_at, is_end}
use Rattle.line_reading.specs.Words.{WordLaws, IsWord}
use Rattle.line_reading.proofs.AllLaws.{bind_some, lacks_append, map_some, end_is, letter_take, length_hex, digits_take, digits_again}
use Rattle.bit_domain.specs.declared.bits.Tri.TheVariants as tri
use Rattle.bit_domain.specs.declared.bytes.TriByte.{TriByte}
use Rattle.bit_domain.specs.TriByte.{tri_of, tri_at}
use Rattle.bit_domain.specs.Laws.{BytesAreTheirBits, BytesAreSets}
use Rattle.bit_domain.specs.Ranges.{least_of, most_of, RangesFit, ByteSet}
use Rattle.sp_domain.specs.declared.tags.Tag.{Tag}
use Rattle.sp_domain.specs.declared.tags.Tag.TheVariants as tag
use Rattle.sp_domain.specs.declared.tags.CarryTag.{CarryTag}
use Rattle.sp_domain.specs.declared.tags.CarryTag.TheVariants as carry
use Rattle.sp_domain.specs.declared.slots.Slot.{Slot}
use Rattle.sp_domain.specs.declared.slots.Slot.TheVariants.{Free, Guarded}
use Rattle.abs_state.specs.declared.values.AbsByte.{AbsByte}
use Rattle.abs_state.specs.Formed.{ByteFits}
use Rattle.abs_state.specs.Banks.{is_tag_of}
use Rattle.node_keys.specs.declared.keys.High.{High}
use Rattle.node_keys.specs.declared.keys.High.TheVariants as high
use Rattle.node_keys.specs.declared.keys.SpForm.{SpForm}
use Rattle.node_keys.specs.declared.keys.SpForm.TheVariants.{Closed, Open}
use Rattle.local_rules.specs.Cover.{TagFits}
use Rattle.certificate.specs.declared.version.Version.{Version}
use Rattle.certificate.specs.declared.version.Version.TheVariants.{One, Two, Three}
use Rattle.certificate.specs.Versions.{ValueIsOf, HasNewCarries}
use Rattle.cert_words.specs.Spelling.{bits_text, tag_text, range_text, value_word, entry_text, flags_word, carry_word, slot_word, high_text, form_word}
use Rattle.cert_words.specs.Reading.{bits_at, tag_by, own_tag_by, tag_at, ends_at, range_at, value_in, slot_in, entry_by, flags_in, bytes_in, borrow_in, sum_in, less_in, tagged_by, carry_by, carry_in, offset_in, marked_in, high_in, high_size, open_in, form_in}
use Rattle.pair_words.specs.Reading.{register_at}
use Rattle.pair_words.proofs.AllLaws.{register_take, register_again}
use Rattle.cert_words.specs.Fits.{IsTag, IsValue, AreFlags, IsCarry, IsSlot, IsHigh, IsSpForm}
use Rattle.cert_words.specs.Laws.{ValueWords}
use Rattle.cert_words.proofs.Limits.{depth_room}
use Rattle.cert_words.proofs.Tags.{register_below}
use Rattle.cert_words.proofs.Pieces.{three, bits_take, bits_again, offset_take, offset_again, marked_take, marked_again}

abbrev front : ℕ → List ℕ → List ℕ
front x xs = x ∷ xs

-- ---- tags

record IsTagText (letter : ℕ) (bs : List ℕ) (z : Tag × List ℕ) : Type 0 where
  pub text : letter ∷ bs ≡ tag_text z.0 ++ z.1
  pub fits : TagFits z.0

tag_by_take : WordLaws → (letter : ℕ) (bs : List ℕ) (z : Tag × List ℕ) → tag_by letter bs ≡ Some z → IsTagText letter bs z
unfolding tag_by
tag_by_take k letter bs z e =
    let P : Tag × List ℕ → Type 0 = λ y. IsTagText letter bs y in
    elim (chosen (letter == 101) _ _ (Some z) e) [
      | inl h ↦
          let r = map_some (digits_at 2 bs) (λ x. (tag.Entry x.0, x.1)) z h.1 in
          let d = digits_take k 2 bs r.0 r.1 in
          subst P r.2 (record { text = ap₂ front (eqb-true letter 101 h.0) d.0; fits = tt })
      | inr h ↦ elim (chosen (letter == 102) _ _ (Some z) h.1) [
        | inl g ↦ subst P (some_is {A = Tag × List ℕ} (tag.EntryFlags, bs) z g.1) (record { text = ap (λ (x : ℕ). x ∷ bs) (eqb-true letter 102 g.0); fits = tt })
        | inr g ↦ elim (chosen (letter == 108) _ _ (Some z) g.1) [
          | inl f ↦
              let j = map_some (digits_at 2 bs) (λ x. (tag.SpLo x.0, x.1)) z f.1 in
              let d = digits_take k 2 bs j.0 j.1 in
              subst P j.2 (record { text = ap₂ front (eqb-true letter 108 f.0) d.0; fits = omega (arith, d.1) })
          | inr f ↦ elim (chosen (letter == 104) _ _ (Some z) f.1) [
            | inl a ↦
                let j = map_some (digits_at 4 bs) (λ x. (tag.SpHi x.0, x.1)) z a.1 in
                let d = digits_take k 4 bs j.0 j.1 in
                subst P j.2 (record { text = ap₂ front (eqb-true letter 104 a.0) d.0; fits = omega (arith, d.1) })
            | inr a ↦ absurd (none-some z a.1)
          ]
        ]
      ]
    ]

not_root : (t : Tag) (root : Bool) → root ≡ false → root ≡ true → t ≡ tag.None
not_root t root e h = absurd (false≢true (sym e ∙ h))

own_tag_take : WordLaws → (device : Device) (letter : ℕ) (bs : List ℕ) (z : Tag × List ℕ) → own_tag_by device letter bs ≡ Some z → IsTagText letter bs z × (is_tag_of device z.0 ≡ true)
unfolding own_tag_by
own_tag_take k device letter bs z e =
    let t = bind_some (tag_by letter bs) _ z e in
    let last = cond_some {A = Tag × List ℕ} (is_tag_of device t.0.0) t.0 z t.2 in
    let P : Tag × List ℕ → Type 0 = λ y. IsTagText letter bs y × (is_tag_of device y.0 ≡ true) in
    subst P last.1 (tag_by_take k letter bs t.0 t.1, last.0)

tag_take : WordLaws → (device : Device) (root : Bool) (bs : List ℕ) (z : Tag × List ℕ) → tag_at device root bs ≡ Some z → (bs ≡ tag_text z.0 ++ z.1) × IsTag device root z.0
unfolding tag_at
tag_take k device root bs z e =
    let l = bind_some (letter_at bs) _ z e in
    let first = letter_take bs l.0 l.1 in
    let P : Tag × List ℕ → Type 0 = λ y. (bs ≡ tag_text y.0 ++ y.1) × IsTag device root y.0 in
    elim (chosen (l.0.0 == 45) _ _ (Some z) l.2) [
      | inl h ↦ subst P (some_is {A = Tag × List ℕ} (tag.None, l.0.1) z h.1) (first ∙ ap (λ (x : ℕ). x ∷ l.0.1) (eqb-true l.0.0 45 h.0), record { of = refl; fits = tt; none = λ _. refl })
      | inr h ↦ elim (chosen root _ _ (Some z) h.1) [
        | inl g ↦ absurd (none-some z g.1)
        | inr g ↦ let t = own_tag_take k device l.0.0 l.0.1 z g.1 in (first ∙ t.0.text, record { of = t.1; fits = t.0.fits; none = not_root z.0 root g.0 })
      ]
    ]

not_in_root : (device : Device) (root : Bool) (t : Tag) → (t ≡ tag.None → ⊥) → IsTag device root t → root ≡ false
not_in_root device true t other h = absurd (other (h.none refl))
not_in_root device false t other h = refl

tag_again : WordLaws → (device : Device) (root : Bool) (t : Tag) (rest : List ℕ) → IsTag device root t → tag_at device root (tag_text t ++ rest) ≡ Some (t, rest)
unfolding tag_at own_tag_by tag_by
tag_again k device root tag.None rest h = refl
tag_again k device root (tag.Entry r) rest h = rw (not_in_root device root (tag.Entry r) (λ e. cc) h, digits_again k 2 r rest (omega (arith, register_below device r h.of)), h.of) refl
tag_again k device root tag.EntryFlags rest h = rw (not_in_root device root tag.EntryFlags (λ e. cc) h) refl
tag_again k device root (tag.SpLo j) rest h = rw (not_in_root device root (tag.SpLo j) (λ e. cc) h, digits_again k 2 j rest (omega (arith, h.fits))) refl
tag_again k device root (tag.SpHi j) rest h = rw (not_in_root device root (tag.SpHi j) (λ e. cc) h, digits_again k 4 j rest (omega (arith, h.fits)), h.of) refl

-- ---- ranges

digits_alone : WordLaws → (count n : ℕ) → n < 16 ^ count → digits_at count (hex_digits n count) ≡ Some (n, [])
digits_alone k count n h = ap (digits_at count) (sym (append-nil (hex_digits n count))) ∙ digits_again k count n [] h

record EndsRead (bits : TriByte) (bs : List ℕ) (z : (ℕ × ℕ) × List ℕ) : Type 0 where
  pub text : bs ≡ hex_digits z.0.0 2 ++ (hex_digits z.0.1 2 ++ z.1)
  pub low : least_of bits ≤ z.0.0
  pub ordered : z.0.0 ≤ z.0.1
  pub high : z.0.1 ≤ most_of bits

ends_take : WordLaws → (bits : TriByte) (bs : List ℕ) (z : (ℕ × ℕ) × List ℕ) → ends_at bits bs ≡ Some z → EndsRead bits bs z
unfolding ends_at
ends_take k bits bs z e =
    let l = bind_some (digits_at 2 bs) _ z e in
    let h = bind_some (digits_at 2 l.0.1) _ z l.2 in
    let last = cond_some {A = (ℕ × ℕ) × List ℕ} (nat_le (least_of bits) l.0.0 && nat_le l.0.0 h.0.0 && nat_le h.0.0 (most_of bits)) ((l.0.0, h.0.0), h.0.1) z h.2 in
    let t = three (nat_le (least_of bits) l.0.0) (nat_le l.0.0 h.0.0) (nat_le h.0.0 (most_of bits)) last.0 in
    let first = digits_take k 2 bs l.0 l.1 in
    let second = digits_take k 2 l.0.1 h.0 h.1 in
    let P : (ℕ × ℕ) × List ℕ → Type 0 = λ y. EndsRead bits bs y in
    subst P last.1 (record {
      text = first.0 ∙ ap (λ (xs : List ℕ). hex_digits l.0.0 2 ++ xs) second.0;
      low = at_most_from_test (least_of bits) l.0.0 t.0;
      ordered = at_most_from_test l.0.0 h.0.0 t.1;
      high = at_most_from_test h.0.0 (most_of bits) t.2;
    })

two_digits : (x most : ℕ) → x ≤ most → most < 256 → x < 16 ^ 2
two_digits x most h g = omega (arith, h, g)

ends_again : WordLaws → RangesFit → (bits : TriByte) (low high : ℕ) → least_of bits ≤ low → low ≤ high → high ≤ most_of bits → ends_at bits (hex_digits low 2 ++ hex_digits high 2) ≡ Some ((low, high), [])
unfolding ends_at
ends_again k r bits low high least ordered most =
    let last = two_digits high (most_of bits) most (r.most bits) in
    let first : low < 16 ^ 2 = omega (arith, ordered, last) in
    rw (digits_again k 2 low (hex_digits high 2) first, digits_alone k 2 high last, test_from_at_most (least_of bits) low least, test_from_at_most low high ordered, test_from_at_most high (most_of bits) most) refl

-- the value from these parts
abbrev value_of : Tag → TriByte → ℕ × ℕ → AbsByte
value_of t bits ends = record { tag = t; bits = bits; low = ends.0; high = ends.1 }

record RangeRead (version : Version) (t : Tag) (bits : TriByte) (bs : List ℕ) (z : (ℕ × ℕ) × List ℕ) : Type 0 where
  pub text : bs ≡ range_text version (value_of t bits z.0) ++ z.1
  pub fits : ByteFits (value_of t bits z.0)
  pub of_version : ValueIsOf version (value_of t bits z.0)

range_take : WordLaws → RangesFit → (version : Version) (t : Tag) (bits : TriByte) (bs : List ℕ) (z : (ℕ × ℕ) × List ℕ) → range_at version bits bs ≡ Some z → RangeRead version t bits bs z
range_take k r One t bits bs z e =
    let P : (ℕ × ℕ) × List ℕ → Type 0 = λ y. RangeRead One t bits bs y in
    subst P (some_is {A = (ℕ × ℕ) × List ℕ} ((least_of bits, most_of bits), bs) z e) (record { text = refl; fits = r.of_bits bits; of_version = refl })
range_take k r Two t bits bs z e =
    let d = ends_take k bits bs z e in
    record { text = d.text ∙ sym (append_assoc (hex_digits z.0.0 2) (hex_digits z.0.1 2) z.1); fits = record { low = d.low; ordered = d.ordered; high = d.high }; of_version = tt }
range_take k r Three t bits bs z e =
    let d = ends_take k bits bs z e in
    record { text = d.text ∙ sym (append_assoc (hex_digits z.0.0 2) (hex_digits z.0.1 2) z.1); fits = record { low = d.low; ordered = d.ordered; high = d.high }; of_version = tt }

range_again : WordLaws → RangesFit → (version : Version) (v : AbsByte) → ByteFits v → ValueIsOf version v → range_at version v.bits (range_text version v) ≡ Some ((v.low, v.high), [])
range_again k r One v fits h = ap (λ (s : ByteSet). Some ((s.low, s.high), [])) (sym h)
range_again k r Two v fits h = ends_again k r v.bits v.low v.high fits.low fits.ordered fits.high
range_again k r Three v fits h = ends_again k r v.bits v.low v.high fits.low fits.ordered fits.high

-- ---- values and slots

value_take : WordLaws → BytesAreTheirBits → RangesFit → (device : Device) (version : Version) (root : Bool) (w : List ℕ) (v : AbsByte) → value_in device version root w ≡ Some v → (w ≡ value_word version v) × IsValue device version root v
unfolding value_in
value_take k b r device version root w v e =
    let t = bind_some (tag_at device root w) _ v e in
    let n = bind_some (bits_at t.0.1) _ v t.2 in
    let g = bind_some (range_at version n.0.0 n.0.1) _ v n.2 in
    let last = cond_some {A = AbsByte} (is_end g.0.1) (value_of t.0.0 n.0.0 g.0.0) v g.2 in
    let first = tag_take k device root w t.0 t.1 in
    let range = range_take k r version t.0.0 n.0.0 n.0.1 g.0 g.1 in
    let ends : List ℕ = range_text version (value_of t.0.0 n.0.0 g.0.0) in
    let behind : n.0.1 ≡ ends = range.text ∙ ap (λ (xs : List ℕ). ends ++ xs) (end_is g.0.1 last.0) ∙ append-nil ends in
    let bits : t.0.1 ≡ bits_text n.0.0 ++ ends = bits_take k b t.0.1 n.0 n.1 ∙ ap (λ (xs : List ℕ). bits_text n.0.0 ++ xs) behind in
    let P : AbsByte → Type 0 = λ y. (w ≡ value_word version y) × IsValue device version root y in
    subst P last.1 (first.0 ∙ ap (λ (xs : List ℕ). tag_text t.0.0 ++ xs) bits, record { fits_tag = first.1; range = range.fits; of_version = range.of_version })

bits_alone : WordLaws → BytesAreTheirBits → BytesAreSets → (t : TriByte) → bits_at (bits_text t) ≡ Some (t, [])
bits_alone k b s t = ap bits_at (sym (append-nil (bits_text t))) ∙ bits_again k b s t []

value_again : WordLaws → BytesAreTheirBits → BytesAreSets → RangesFit → (device : Device) (version : Version) (root : Bool) (v : AbsByte) → IsValue device version root v → value_in device version root (value_word version v) ≡ Some v
unfolding value_in
value_again k b s r device version root v h =
    let first = tag_again k device root v.tag (bits_text v.bits ++ range_text version v) h.fits_tag in
    let bits = bits_again k b s v.bits (range_text version v) in
    let range = range_again k r version v h.range h.of_version in
    rw (first, bits, range) refl

slot_take : WordLaws → BytesAreTheirBits → RangesFit → (device : Device) (version : Version) (root : Bool) (w : List ℕ) (s : Slot AbsByte) → slot_in device version root w ≡ Some s → (w ≡ slot_word version s) × IsSlot device version root s
unfolding slot_in
slot_take k b r device version root w s e =
    let P : Slot AbsByte → Type 0 = λ y. (w ≡ slot_word version y) × IsSlot device version root y in
    elim (chosen (bytes_eq w (codes ".")) _ _ (Some s) e) [
      | inl h ↦ subst P (some_is {A = Slot AbsByte} Free s h.1) ((bytes_eq-Decides w (codes ".")).0 h.0, tt)
      | inr h ↦ let v = map_some (value_in device version root w) (λ x. Guarded x) s h.1 in subst P v.2 (value_take k b r device version root w v.0 v.1)
    ]

not_free : (t : Tag) (xs : List ℕ) → bytes_eq (tag_text t ++ xs) (codes ".") ≡ false
not_free tag.None xs = refl
not_free (tag.Entry r) xs = refl
not_free tag.EntryFlags xs = refl
not_free (tag.SpLo j) xs = refl
not_free (tag.SpHi j) xs = refl

slot_again : WordLaws → BytesAreTheirBits → BytesAreSets → RangesFit → (device : Device) (version : Version) (root : Bool) (t : Slot AbsByte) → IsSlot device version root t → slot_in device version root (slot_word version t) ≡ Some t
unfolding slot_in
slot_again k b s r device version root Free h = refl
slot_again k b s r device version root (Guarded v) h = rw (not_free v.tag (bits_text v.bits ++ range_text version v), value_again k b s r device version root v h) refl

-- ---- flags

entry_take : (root : Bool) (letter : ℕ) (entry : Bool) → entry_by root letter ≡ Some entry → (letter ∷ [] ≡ entry_text entry) × (root ≡ true → entry ≡ false)
entry_take root letter entry e =
    let P : Bool → Type 0 = λ y. (letter ∷ [] ≡ entry_text y) × (root ≡ true → y ≡ false) in
    elim (chosen (letter == 45) _ _ (Some entry) e) [
      | inl h ↦ subst P (some_is false entry h.1) (ap (λ (x : ℕ). x ∷ []) (eqb-true letter 45 h.0), λ _. refl)
      | inr h ↦ elim (chosen root _ _ (Some entry) h.1) [
        | inl g ↦ absurd (none-some entry g.1)
        | inr g ↦ let t = cond_some (letter == 102) true entry g.1 in subst P t.1 (ap (λ (x : ℕ). x ∷ []) (eqb-true letter 102 t.0), λ r. absurd (false≢true (sym g.0 ∙ r)))
      ]
    ]

low_bit_7 : (n : ℕ) → n < 128 → bit_at n 7 ≡ 0
low_bit_7 n h = omega (arith, h)

high_bit_7 : (n : ℕ) → n % 256 ≡ n → bit_at n 7 ≡ 0 → n < 128
high_bit_7 n small e = omega (arith, small, e)

unknown_if : (t : TriByte) → nat_lt t.known 128 ≡ true → tri_at t 7 ≡ tri.Any
unknown_if t h = let low : t.known < 128 = grind (arith, nat_tests, h) in rw (low_bit_7 t.known low) refl

zero_any : tri.Zero ≡ tri.Any → ⊥
zero_any e = cc

one_any : tri.One ≡ tri.Any → ⊥
one_any e = cc

tri_any : (known value : ℕ) → tri_of known value ≡ tri.Any → known ≡ 0
tri_any known value e = elim (chosen (known == 0) tri.Any (cond (value == 0) tri.Zero tri.One) tri.Any e) [
  | inl h ↦ eqb-true known 0 h.0
  | inr h ↦ elim (chosen (value == 0) tri.Zero tri.One tri.Any h.1) [
    | inl g ↦ absurd (zero_any g.1)
    | inr g ↦ absurd (one_any g.1)
  ]
]

known_if : (t : TriByte) → tri_at t 7 ≡ tri.Any → nat_lt t.known 128 ≡ true
known_if t h = let low = high_bit_7 t.known t.small (tri_any (bit_at t.known 7) (bit_at t.value 7) h) in grind (arith, nat_tests, low)

flags_take : WordLaws → BytesAreTheirBits → (root : Bool) (w : List ℕ) (entry : Bool) (bits : TriByte) → flags_in root w ≡ Some (entry, bits) → (w ≡ flags_word entry bits) × AreFlags root entry bits
unfolding flags_in
flags_take k b root w entry bits e =
    let z : Bool × TriByte = (entry, bits) in
    let l = bind_some (letter_at w) _ z e in
    let n = bind_some (entry_by root l.0.0) _ z l.2 in
    let t = bind_some (bits_at l.0.1) _ z n.2 in
    let last = cond_some {A = Bool × TriByte} (nat_lt t.0.0.known 128 && is_end t.0.1) (n.0, t.0.0) z t.2 in
    let tests = and_parts (nat_lt t.0.0.known 128) (is_end t.0.1) last.0 in
    let first = entry_take root l.0.0 n.0 n.1 in
    let text = bits_take k b l.0.1 t.0 t.1 ∙ ap (λ (xs : List ℕ). bits_text t.0.0 ++ xs) (end_is t.0.1 tests.1) ∙ append-nil (bits_text t.0.0) in
    let P : Bool × TriByte → Type 0 = λ y. (w ≡ flags_word y.0 y.1) × AreFlags root y.0 y.1 in
    subst P last.1 (letter_take w l.0 l.1 ∙ ap₂ (λ (xs ys : List ℕ). xs ++ ys) first.0 text, record { bit_7 = unknown_if t.0.0 tests.0; none = first.1 })

entry_again : (root entry : Bool) → (root ≡ true → entry ≡ false) → (letter : ℕ) × (entry_text entry ≡ letter ∷ []) × (entry_by root letter ≡ Some entry)
entry_again root false h = (45, refl, refl)
entry_again false true h = (102, refl, refl)
entry_again true true h = absurd (false≢true (sym (h refl)))

flags_by_letter : WordLaws → BytesAreTheirBits → BytesAreSets → (root entry : Bool) (letter : ℕ) (bits : TriByte) → entry_by root letter ≡ Some entry → tri_at bits 7 ≡ tri.Any → flags_in root (letter ∷ bits_text bits) ≡ Some (entry, bits)
unfolding flags_in
flags_by_letter k b s root entry letter bits e h = rw (e, bits_alone k b s bits, known_if bits h) refl

flags_again : WordLaws → BytesAreTheirBits → BytesAreSets → (root entry : Bool) (bits : TriByte) → AreFlags root entry bits → flags_in root (flags_word entry bits) ≡ Some (entry, bits)
flags_again k b s root entry bits h =
    let l = entry_again root entry h.none in
    ap (λ (xs : List ℕ). flags_in root (xs ++ bits_text bits)) l.1 ∙ flags_by_letter k b s root entry l.0 bits l.2 h.bit_7

-- ---- carry tags

bytes_take : WordLaws → (bs : List ℕ) (n : ℕ × ℕ) → bytes_in bs ≡ Some n → (bs ≡ hex_digits n.0 2 ++ hex_digits n.1 2) × ((n.0 < 256) × (n.1 < 256))
unfolding bytes_in
bytes_take k bs n e =
    let j = bind_some (digits_at 2 bs) _ n e in
    let l = bind_some (digits_at 2 j.0.1) _ n j.2 in
    let last = cond_some {A = ℕ × ℕ} (is_end l.0.1) (j.0.0, l.0.0) n l.2 in
    let first = digits_take k 2 bs j.0 j.1 in
    let second = digits_take k 2 j.0.1 l.0 l.1 in
    let text = second.0 ∙ ap (λ (xs : List ℕ). hex_digits l.0.0 2 ++ xs) (end_is l.0.1 last.0) ∙ append-nil (hex_digits l.0.0 2) in
    let P : ℕ × ℕ → Type 0 = λ y. (bs ≡ hex_digits y.0 2 ++ hex_digits y.1 2) × ((y.0 < 256) × (y.1 < 256)) in
    subst P last.1 (first.0 ∙ ap (λ (xs : List ℕ). hex_digits j.0.0 2 ++ xs) text, (omega (arith, first.1), omega (arith, second.1)))

no_root : {X : Type 0} (root : Bool) → root ≡ false → root ≡ true → X
no_root root r t = absurd (false≢true (sym r ∙ t))

borrow_take : WordLaws → (bs : List ℕ) (c : CarryTag) → borrow_in bs ≡ Some c → (98 ∷ bs ≡ carry_word c) × ((version : Version) (root : Bool) → root ≡ false → IsCarry version root c)
borrow_take k bs c e =
    let n = map_some (bytes_in bs) (λ n. carry.Borrow n.0 n.1) c e in
    let t = bytes_take k bs n.0 n.1 in
    let P : CarryTag → Type 0 = λ y. (98 ∷ bs ≡ carry_word y) × ((version : Version) (root : Bool) → root ≡ false → IsCarry version root y) in
    subst P n.2 (ap (front 98) t.0, λ version root r. record { bytes = t.1; names = tt; untagged = λ t. no_root root r t; of_version = tt })

sum_take : WordLaws → (bs : List ℕ) (c : CarryTag) → sum_in bs ≡ Some c → (115 ∷ bs ≡ carry_word c) × ((version : Version) (root : Bool) → HasNewCarries version → root ≡ false → IsCarry version root c)
sum_take k bs c e =
    let n = map_some (bytes_in bs) (λ n. carry.Sum n.0 n.1) c e in
    let t = bytes_take k bs n.0 n.1 in
    let P : CarryTag → Type 0 = λ y. (115 ∷ bs ≡ carry_word y) × ((version : Version) (root : Bool) → HasNewCarries version → root ≡ false → IsCarry version root y) in
    subst P n.2 (ap (front 115) t.0, λ version root new r. record { bytes = t.1; names = tt; untagged = λ t. no_root root r t; of_version = new })

less_take : WordLaws → (bs : List ℕ) (c : CarryTag) → less_in bs ≡ Some c → (99 ∷ bs ≡ carry_word c) × ((version : Version) (root : Bool) → HasNewCarries version → IsCarry version root c)
unfolding less_in
less_take k bs c e =
    let r = bind_some (register_at bs) _ c e in
    let n = bind_some (digits_at 2 r.0.1) _ c r.2 in
    let last = cond_some {A = CarryTag} (is_end n.0.1) (carry.Less r.0.0 n.0.0) c n.2 in
    let first = register_take k bs r.0 r.1 in
    let second = digits_take k 2 r.0.1 n.0 n.1 in
    let text = second.0 ∙ ap (λ (xs : List ℕ). hex_digits n.0.0 2 ++ xs) (end_is n.0.1 last.0) ∙ append-nil (hex_digits n.0.0 2) in
    let P : CarryTag → Type 0 = λ y. (99 ∷ bs ≡ carry_word y) × ((version : Version) (root : Bool) → HasNewCarries version → IsCarry version root y) in
    subst P last.1 (
      ap (front 99) (first.0 ∙ ap (λ (xs : List ℕ). hex_digits r.0.0 2 ++ xs) text),
      λ version root new. record { bytes = (omega (arith, first.1), omega (arith, second.1)); names = first.1; untagged = λ _. tt; of_version = new },
    )

borrow_by : WordLaws → (version : Version) (root : Bool) (letter : ℕ) (bs : List ℕ) (c : CarryTag) → letter == 98 && not root ≡ true → borrow_in bs ≡ Some c → (letter ∷ bs ≡ carry_word c) × IsCarry version root c
borrow_by k version root letter bs c t e =
    let h = and_parts (letter == 98) (not root) t in
    let b = borrow_take k bs c e in
    (ap (λ (x : ℕ). x ∷ bs) (eqb-true letter 98 h.0) ∙ b.0, b.1 version root (not-true root h.1))

sum_by : WordLaws → (version : Version) (root : Bool) (letter : ℕ) (bs : List ℕ) (c : CarryTag) → HasNewCarries version → letter == 115 && not root ≡ true → sum_in bs ≡ Some c → (letter ∷ bs ≡ carry_word c) × IsCarry version root c
sum_by k version root letter bs c new t e =
    let h = and_parts (letter == 115) (not root) t in
    let s = sum_take k bs c e in
    (ap (λ (x : ℕ). x ∷ bs) (eqb-true letter 115 h.0) ∙ s.0, s.1 version root new (not-true root h.1))

tagged_take : WordLaws → (version : Version) (root : Bool) (letter : ℕ) (bs : List ℕ) (c : CarryTag) → HasNewCarries version → tagged_by root letter bs ≡ Some c → (letter ∷ bs ≡ carry_word c) × IsCarry version root c
tagged_take k version root letter bs c new e = elim (chosen (letter == 98 && not root) _ _ (Some c) e) [
  | inl h ↦ borrow_by k version root letter bs c h.0 h.1
  | inr h ↦ elim (chosen (letter == 115 && not root) _ _ (Some c) h.1) [
    | inl s ↦ sum_by k version root letter bs c new s.0 s.1
    | inr s ↦ elim (chosen (letter == 99) _ _ (Some c) s.1) [
      | inl g ↦ let l = less_take k bs c g.1 in (ap (λ (x : ℕ). x ∷ bs) (eqb-true letter 99 g.0) ∙ l.0, l.1 version root new)
      | inr g ↦ absurd (none-some c g.1)
    ]
  ]
]

carry_by_take : WordLaws → (version : Version) (root : Bool) (letter : ℕ) (bs : List ℕ) (c : CarryTag) → carry_by version root letter bs ≡ Some c → (letter ∷ bs ≡ carry_word c) × IsCarry version root c
unfolding carry_by
carry_by_take k One root letter bs c e = elim (chosen (letter == 98 && not root) _ _ (Some c) e) [
  | inl h ↦ borrow_by k One root letter bs c h.0 h.1
  | inr h ↦ absurd (none-some c h.1)
]
carry_by_take k Two root letter bs c e = tagged_take k Two root letter bs c tt e
carry_by_take k Three root letter bs c e = tagged_take k Three root letter bs c tt e

carry_take : WordLaws → (version : Version) (root : Bool) (w : List ℕ) (c : CarryTag) → carry_in version root w ≡ Some c → (w ≡ carry_word c) × IsCarry version root c
unfolding carry_in
carry_take k version root w c e =
    let P : CarryTag → Type 0 = λ y. (w ≡ carry_word y) × IsCarry version root y in
    elim (chosen (bytes_eq w (codes "-")) _ _ (Some c) e) [
      | inl h ↦ subst P (some_is {A = CarryTag} carry.None c h.1) ((bytes_eq-Decides w (codes "-")).0 h.0, record { bytes = tt; names = tt; untagged = λ _. tt; of_version = tt })
      | inr h ↦
          let l = bind_some (letter_at w) _ c h.1 in
          let t = carry_by_take k version root l.0.0 l.0.1 c l.2 in
          (letter_take w l.0 l.1 ∙ t.0, t.1)
    ]

not_carried : (version : Version) (root : Bool) (j l : ℕ) → IsCarry version root (carry.Borrow j l) → root ≡ false
not_carried version true j l h = absurd (h.untagged refl)
not_carried version false j l h = refl

not_summed : (version : Version) (root : Bool) (j l : ℕ) → IsCarry version root (carry.Sum j l) → root ≡ false
not_summed version true j l h = absurd (h.untagged refl)
not_summed version false j l h = refl

bytes_again : WordLaws → (j l : ℕ) → j < 256 → l < 256 → bytes_in (hex_digits j 2 ++ hex_digits l 2) ≡ Some (j, l)
unfolding bytes_in
bytes_again k j l h g = rw (digits_again k 2 j (hex_digits l 2) (omega (arith, h)), digits_alone k 2 l (omega (arith, g))) refl

less_again : WordLaws → (r n : ℕ) → r < 32 → n < 256 → less_in (hex_digits r 2 ++ hex_digits n 2) ≡ Some (carry.Less r n)
unfolding less_in
less_again k r n h g = rw (register_again k r (hex_digits n 2) h, digits_alone k 2 n (omega (arith, g))) refl

borrow_by_again : WordLaws → (version : Version) (root : Bool) (j l : ℕ) → root ≡ false → j < 256 → l < 256 → carry_by version root 98 (hex_digits j 2 ++ hex_digits l 2) ≡ Some (carry.Borrow j l)
unfolding carry_by
borrow_by_again k One root j l e h g = rw (e, bytes_again k j l h g) refl
borrow_by_again k Two root j l e h g = rw (e, bytes_again k j l h g) refl
borrow_by_again k Three root j l e h g = rw (e, bytes_again k j l h g) refl

sum_by_again : WordLaws → (version : Version) (root : Bool) (j l : ℕ) → IsCarry version root (carry.Sum j l) → carry_by version root 115 (hex_digits j 2 ++ hex_digits l 2) ≡ Some (carry.Sum j l)
unfolding carry_by
sum_by_again k One root j l h = absurd h.of_version
sum_by_again k Two root j l h = rw (not_summed Two root j l h, bytes_again k j l h.bytes.0 h.bytes.1) refl
sum_by_again k Three root j l h = rw (not_summed Three root j l h, bytes_again k j l h.bytes.0 h.bytes.1) refl

less_by_again : WordLaws → (version : Version) (root : Bool) (r n : ℕ) → IsCarry version root (carry.Less r n) → carry_by version root 99 (hex_digits r 2 ++ hex_digits n 2) ≡ Some (carry.Less r n)
unfolding carry_by
less_by_again k One root r n h = absurd h.of_version
less_by_again k Two root r n h = less_again k r n h.names h.bytes.1
less_by_again k Three root r n h = less_again k r n h.names h.bytes.1

carry_again : WordLaws → (version : Version) (root : Bool) (c : CarryTag) → IsCarry version root c → carry_in version root (carry_word c) ≡ Some c
unfolding carry_in
carry_again k version root carry.None h = refl
carry_again k version root (carry.Borrow j l) h = borrow_by_again k version root j l (not_carried version root j l h) h.bytes.0 h.bytes.1
carry_again k version root (carry.Sum j l) h = sum_by_again k version root j l h
carry_again k version root (carry.Less r n) h = less_by_again k version root r n h

-- ---- forms of the stack pointer

high_take : WordLaws → (root : Bool) (bs : List ℕ) (h : High) → high_in root bs ≡ Some h → (bs ≡ high_text h) × IsHigh root h
high_take k true bs h e =
    let n = map_some (marked_in 107 2 bs) (λ x. high.Known x) h e in
    let t = marked_take k 107 2 bs n.0 n.1 in
    let P : High → Type 0 = λ y. (bs ≡ high_text y) × IsHigh true y in
    subst P n.2 (t.0, omega (arith, t.1))
high_take k false bs h e =
    let n = map_some (marked_in 116 4 bs) (λ x. high.Tag x) h e in
    let t = marked_take k 116 4 bs n.0 n.1 in
    let P : High → Type 0 = λ y. (bs ≡ high_text y) × IsHigh false y in
    subst P n.2 (t.0, omega (arith, t.1))

high_again : WordLaws → (root : Bool) (h : High) → IsHigh root h → high_in root (high_text h) ≡ Some h
high_again k true (high.Known byte) h = rw (marked_again k 107 2 byte (omega (arith, h))) refl
high_again k true (high.Tag j) h = absurd h
high_again k false (high.Known byte) h = absurd h
high_again k false (high.Tag j) h = rw (marked_again k 116 4 j (omega (arith, h))) refl

high_length : (root : Bool) (h : High) → IsHigh root h → length (high_text h) ≡ high_size root
high_length true (high.Known byte) h = omega (arith, length_hex byte 2)
high_length true (high.Tag j) h = absurd h
high_length false (high.Known byte) h = absurd h
high_length false (high.Tag j) h = omega (arith, length_hex j 4)

open_take : WordLaws → (device : Device) (root : Bool) (bs : List ℕ) (f : SpForm) → has_sph device ≡ true → open_in device root bs ≡ Some f → (111 ∷ bs ≡ form_word f) × IsSpForm device root f
unfolding open_in
open_take k device root bs f sph e = elim (chosen (nat_lt (length bs) (high_size root)) _ _ (Some f) e) [
  | inl h ↦ absurd (none-some f h.1)
  | inr h ↦
      let i = length bs - high_size root in
      let n = bind_some (offset_in device (take i bs)) _ f h.1 in
      let g = bind_some (high_in root (drop i bs)) _ f n.2 in
      let number = offset_take k device (take i bs) n.0 n.1 in
      let byte = high_take k root (drop i bs) g.0 g.1 in
      let P : SpForm → Type 0 = λ y. (111 ∷ bs ≡ form_word y) × IsSpForm device root y in
      subst P (some_is (Open n.0 g.0) f g.2) (ap (front 111) (sym (take-append-drop i bs) ∙ ap₂ (λ (xs ys : List ℕ). xs ++ ys) number.0 byte.0), (number.1, (sph, byte.1)))
]

open_again : WordLaws → (device : Device) (root : Bool) (n : ℕ) (h : High) → n ≤ depth_of device → IsHigh root h → open_in device root (decimal n ++ high_text h) ≡ Some (Open n h)
unfolding open_in
open_again k device root n h small fits =
    let ds = decimal n in
    let hs = high_text h in
    let size = high_length root h fits in
    let all = length-append ds hs in
    let long : nat_lt (length (ds ++ hs)) (high_size root) ≡ false = grind (arith, nat_tests, size, all) in
    let seam : length (ds ++ hs) - high_size root ≡ length ds = omega (arith, size, all) in
    let first : take (length ds) (ds ++ hs) ≡ ds = take-append_seam ds hs in
    let back : drop (length ds) (ds ++ hs) ≡ hs = drop-append_seam ds hs in
    rw (long, seam, first, back, offset_again k device n small, high_again k root h fits) refl

form_take : WordLaws → (device : Device) (root : Bool) (w : List ℕ) (f : SpForm) → form_in device root w ≡ Some f → (w ≡ form_word f) × IsSpForm device root f
unfolding form_in
form_take k device root w f e =
    let l = bind_some (letter_at w) _ f e in
    let first = letter_take w l.0 l.1 in
    let P : SpForm → Type 0 = λ y. (w ≡ form_word y) × IsSpForm device root y in
    elim (chosen (l.0.0 == 99) _ _ (Some f) l.2) [
      | inl h ↦
          let n = map_some (offset_in device l.0.1) (λ x. Closed x) f h.1 in
          let number = offset_take k device l.0.1 n.0 n.1 in
          subst P n.2 (first ∙ ap₂ front (eqb-true l.0.0 99 h.0) number.0, number.1)
      | inr h ↦ elim (chosen ((l.0.0 == 111) && has_sph device) _ _ (Some f) h.1) [
        | inl g ↦
            let both = and_parts (l.0.0 == 111) (has_sph device) g.0 in
            let t = open_take k device root l.0.1 f both.1 g.1 in
            (first ∙ ap (λ (x : ℕ). x ∷ l.0.1) (eqb-true l.0.0 111 both.0) ∙ t.0, t.1)
        | inr g ↦ absurd (none-some f g.1)
      ]
    ]

form_again : WordLaws → (device : Device) (root : Bool) (f : SpForm) → IsSpForm device root f → form_in device root (form_word f) ≡ Some f
unfolding form_in
form_again k device root (Closed offset) h = rw (offset_again k device offset h) refl
form_again k device root (Open offset h) g = rw (g.1.0, open_again k device root offset h g.0 g.1.1) refl

-- ---- no space and no line feed

pub joined_word : (a b : List ℕ) → IsWord a → IsWord b → IsWord (a ++ b)
joined_word a b h g = (lacks_append 32 a b h.0 g.0, lacks_append 10 a b h.1 g.1)

bits_word : WordLaws → BytesAreSets → (t : TriByte) → IsWord (bits_text t)
bits_word k s t =
    joined_word (hex_digits t.known 2) (hex_digits t.value 2) (k.hex_word t.known 2 (omega (arith, t.small))) (k.hex_word t.value 2 (omega (arith, (s.member t).0)))

tag_is_word : WordLaws → (device : Device) (root : Bool) (t : Tag) → IsTag device root t → IsWord (tag_text t)
tag_is_word k device root tag.None h = ((refl, tt), (refl, tt))
tag_is_word k device root (tag.Entry r) h = joined_word (codes "e") (hex_digits r 2) ((refl, tt), (refl, tt)) (k.hex_word r 2 (omega (arith, register_below device r h.of)))
tag_is_word k device root tag.EntryFlags h = ((refl, tt), (refl, tt))
tag_is_word k device root (tag.SpLo j) h = joined_word (codes "l") (hex_digits j 2) ((refl, tt), (refl, tt)) (k.hex_word j 2 (omega (arith, h.fits)))
tag_is_word k device root (tag.SpHi j) h = joined_word (codes "h") (hex_digits j 4) ((refl, tt), (refl, tt)) (k.hex_word j 4 (omega (arith, h.fits)))

ends_are_word : WordLaws → RangesFit → (v : AbsByte) → ByteFits v → IsWord (hex_digits v.low 2 ++ hex_digits v.high 2)
ends_are_word k r v h =
    let last = two_digits v.high (most_of v.bits) h.high (r.most v.bits) in
    let first : v.low < 16 ^ 2 = omega (arith, h.ordered, last) in
    joined_word (hex_digits v.low 2) (hex_digits v.high 2) (k.hex_word v.low 2 first) (k.hex_word v.high 2 last)

range_is_word : WordLaws → RangesFit → (version : Version) (v : AbsByte) → ByteFits v → IsWord (range_text version v)
range_is_word k r One v h = (tt, tt)
range_is_word k r Two v h = ends_are_word k r v h
range_is_word k r Three v h = ends_are_word k r v h

value_is_word : WordLaws → BytesAreSets → RangesFit → (device : Device) (version : Version) (root : Bool) (v : AbsByte) → IsValue device version root v → IsWord (value_word version v)
value_is_word k s r device version root v h =
    joined_word (tag_text v.tag) (bits_text v.bits ++ range_text version v) (tag_is_word k device root v.tag h.fits_tag)
    (joined_word (bits_text v.bits) (range_text version v) (bits_word k s v.bits) (range_is_word k r version v h.range))

slot_is_word : WordLaws → BytesAreSets → RangesFit → (device : Device) (version : Version) (root : Bool) (t : Slot AbsByte) → IsSlot device version root t → IsWord (slot_word version t)
slot_is_word k s r device version root Free h = ((refl, tt), (refl, tt))
slot_is_word k s r device version root (Guarded v) h = value_is_word k s r device version root v h

flags_are_word : WordLaws → BytesAreSets → (entry : Bool) (bits : TriByte) → IsWord (flags_word entry bits)
flags_are_word k s true bits = joined_word (codes "f") (bits_text bits) ((refl, tt), (refl, tt)) (bits_word k s bits)
flags_are_word k s false bits = joined_word (codes "-") (bits_text bits) ((refl, tt), (refl, tt)) (bits_word k s bits)

carry_is_word : WordLaws → (version : Version) (root : Bool) (c : CarryTag) → IsCarry version root c → IsWord (carry_word c)
carry_is_word k version root carry.None h = ((refl, tt), (refl, tt))
carry_is_word k version root (carry.Borrow j l) h =
    joined_word (codes "b") (hex_digits j 2 ++ hex_digits l 2) ((refl, tt), (refl, tt))
    (joined_word (hex_digits j 2) (hex_digits l 2) (k.hex_word j 2 (omega (arith, h.bytes.0))) (k.hex_word l 2 (omega (arith, h.bytes.1))))
carry_is_word k version root (carry.Sum j l) h =
    joined_word (codes "s") (hex_digits j 2 ++ hex_digits l 2) ((refl, tt), (refl, tt))
    (joined_word (hex_digits j 2) (hex_digits l 2) (k.hex_word j 2 (omega (arith, h.bytes.0))) (k.hex_word l 2 (omega (arith, h.bytes.1))))
carry_is_word k version root (carry.Less r n) h =
    joined_word (codes "c") (hex_digits r 2 ++ hex_digits n 2) ((refl, tt), (refl, tt))
    (joined_word (hex_digits r 2) (hex_digits n 2) (k.hex_word r 2 (omega (arith, h.bytes.0))) (k.hex_word n 2 (omega (arith, h.bytes.1))))

high_is_word : WordLaws → (root : Bool) (h : High) → IsHigh root h → IsWord (high_text h)
high_is_word k true (high.Known byte) h = joined_word (codes ",k") (hex_digits byte 2) ((refl, (refl, tt)), (refl, (refl, tt))) (k.hex_word byte 2 (omega (arith, h)))
high_is_word k true (high.Tag j) h = absurd h
high_is_word k false (high.Known byte) h = absurd h
high_is_word k false (high.Tag j) h = joined_word (codes ",t") (hex_digits j 4) ((refl, (refl, tt)), (refl, (refl, tt))) (k.hex_word j 4 (omega (arith, h)))

form_is_word : WordLaws → (device : Device) (root : Bool) (f : SpForm) → IsSpForm device root f → IsWord (form_word f)
form_is_word k device root (Closed offset) h = joined_word (codes "c") (decimal offset) ((refl, tt), (refl, tt)) (k.dec_word offset (omega (arith, h, depth_room device)))
form_is_word k device root (Open offset h) g =
    joined_word (codes "o") (decimal offset ++ high_text h) ((refl, tt), (refl, tt))
    (joined_word (decimal offset) (high_text h) (k.dec_word offset (omega (arith, g.0, depth_room device))) (high_is_word k root h g.1.1))

-- ---- all of them

pub value_words : WordLaws → BytesAreTheirBits → BytesAreSets → RangesFit → ValueWords
value_words k b s r = record {
  spelled = record { value = value_take k b r; slot = slot_take k b r; flags = flags_take k b; carry = carry_take k; form = form_take k };
  read = record { value = value_again k b s r; slot = slot_again k b s r; flags = flags_again k b s; carry = carry_again k; form = form_again k };
  words = record { value = value_is_word k s r; slot = slot_is_word k s r; flags = flags_are_word k s; carry = carry_is_word k; form = form_is_word k };
}
