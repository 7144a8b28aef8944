-- Reading and spelling of the key of an instance are inverse.
use Rattle.std.proofs.Common.{ℕ, ◌*◌, ◌-◌, ◌^◌, ◌<◌, ◌≤◌, ◌≡◌, ◌==◌, ◌&&◌, ◌||◌, ◌⊎◌, inl, inr, List, [], ◌∷◌, ◌++◌, codes, Bool, true, false, not, refl, ap, ap₂, ◌∙◌, arith, Some, nat_le, subst}
use Rattle.std.specs.List.{AllByRecursion}
use Rattle.std.specs.Str.{bytes_eq}
use Rattle.std.specs.Fmt.{decimal}
use Rattle.std.proofs.lemmas.Bool.{eqb-true, and_parts}
use Rattle.std.proofs.lemmas.Slice.Eq.{bytes_eq-Decides}
use Rattle.std.proofs.lemmas.Option.{cond_some, same_Some, none-some}
use Rattle.basics.specs.Lists.{chosen, same_head_and_tail}
use Rattle.basics.specs.Numbers.{less_from_test, at_most_from_test}
use Rattle.avr_model.specs.declared.device.Device.{Device}
use Rattle.avr_model.specs.Devices.{limit_of, word_digits}
use Rattle.avr_model.specs.Vectors.{last_vector, is_vector, vector_word}
use Rattle.avr_model.proofs.AllLaws.{devices_are_alike}
use Rattle.witness_replay.proofs.Runs.{bit_word}
use Rattle.text_base.specs.Digits.{hex_digits}
use Rattle.assumption_files.specs.Spelling.{word_address_text}
use Rattle.assumption_files.specs.Reading.{word_address_at}
use Rattle.line_reading.specs.Letters.{letter_at}
use Rattle.line_reading.specs.Reading.{dec_at, word_by}
use Rattle.line_reading.specs.Words.{IsWord, WordLaws}
use Rattle.line_reading.proofs.AllLaws.{bind_some, map_some, letter_take}
use Rattle.witness_replay.specs.Spelling.{bit}
use Rattle.node_keys.specs.declared.keys.Kind.{Kind}
use Rattle.node_keys.specs.declared.keys.Kind.TheVariants.{Root, Call, Vector}
use Rattle.node_keys.specs.declared.keys.InstKey.{InstKey}
use Rattle.certificate.specs.Versions.{says_device}
use Rattle.certificate.specs.Insts.{is_vector_word, fits_kind}
use Rattle.cert_words.specs.KeySpelling.{kind_word, masks_digits, inst_key_words}
use Rattle.cert_words.specs.KeyReading.{masks_at, flag_at, vector_in, kind_in, inst_key_at}
use Rattle.cert_words.specs.KeyLaws.{IsInstKey, InstKeyWords}
use Rattle.cert_words.proofs.Limits.{vector_room, word_fits, masks_fit}
use Rattle.cert_words.proofs.Words.{joined_word}
use Rattle.cert_words.proofs.Fields.{hex_take, dec_take, masks_take, masks_again, flag_take, flag_again, word_by_take}

abbrev pub cons : List ℕ → List (List ℕ) → List (List ℕ)
cons w ws = w ∷ ws

-- ---- the kind

vector_take : WordLaws → (device : Device) (w : List ℕ) (kd : Kind) → vector_in device w ≡ Some kd → w ≡ kind_word kd
unfolding vector_in
vector_take k device w kd e =
    let l = bind_some (letter_at w) _ kd e in
    elim (chosen (l.0.0 == 118) _ _ (Some kd) l.2) [
      | inl h ↦
          let n = map_some (dec_at (last_vector device) (l.0.1 ∷ [])) (λ x. Vector x.0) kd h.1 in
          let t = dec_take k (last_vector device) (l.0.1 ∷ []) n.0 (vector_room device) n.1 in
          let P : Kind → Type 0 = λ y. w ≡ kind_word y in
          subst P n.2 (letter_take w l.0 l.1 ∙ ap₂ (λ (x : ℕ) (xs : List ℕ). x ∷ xs) (eqb-true l.0.0 118 h.0) (same_head_and_tail l.0.1 (decimal n.0.0) [] n.0.1 t.0).0)
      | inr h ↦ absurd (none-some kd h.1)
    ]

kind_take : WordLaws → (device : Device) (w : List ℕ) (kd : Kind) → kind_in device w ≡ Some kd → w ≡ kind_word kd
unfolding kind_in
kind_take k device w kd e =
    let P : Kind → Type 0 = λ y. w ≡ kind_word y in
    elim (chosen (bytes_eq w (codes "root")) _ _ (Some kd) e) [
      | inl h ↦ subst P (same_Some Root kd h.1) ((bytes_eq-Decides w (codes "root")).0 h.0)
      | inr h ↦ elim (chosen (bytes_eq w (codes "call")) _ _ (Some kd) h.1) [
        | inl g ↦ subst P (same_Some Call kd g.1) ((bytes_eq-Decides w (codes "call")).0 g.0)
        | inr g ↦ vector_take k device w kd g.1
      ]
    ]

-- vectors are numbered up to the device's last
abbrev IsKindNumbered : Device → Kind → Type 0
IsKindNumbered device Root = Unit {0}
IsKindNumbered device Call = Unit {0}
IsKindNumbered device (Vector v) = v ≤ last_vector device

kind_again : WordLaws → (device : Device) (kd : Kind) → IsKindNumbered device kd → kind_in device (kind_word kd) ≡ Some kd
unfolding kind_in vector_in
kind_again k device Root h = refl
kind_again k device Call h = refl
kind_again k device (Vector v) h = rw (k.dec_taken (last_vector device) v [] (vector_room device) h) refl

kind_is_word : WordLaws → (device : Device) (kd : Kind) → IsKindNumbered device kd → IsWord (kind_word kd)
kind_is_word k device Root h = ((refl, (refl, (refl, (refl, tt)))), (refl, (refl, (refl, (refl, tt)))))
kind_is_word k device Call h = ((refl, (refl, (refl, (refl, tt)))), (refl, (refl, (refl, (refl, tt)))))
kind_is_word k device (Vector v) h = joined_word (codes "v") (decimal v) ((refl, tt), (refl, tt)) (k.dec_word v (omega (arith, h, vector_room device)))

either : (a b : Bool) → a || b ≡ true → (a ≡ true) ⊎ (b ≡ true)
either true b e = inl refl
either false b e = inr e

vector_low : (device : Device) (v entry : ℕ) → v ≤ last_vector device → is_vector_word device v entry ≡ true → entry < limit_of device
vector_low device v entry most e = elim (chosen (says_device device) _ _ true e) [
  | inl says ↦ omega (arith, eqb-true entry (vector_word device v) says.1, devices_are_alike.vectors device v most, devices_are_alike.in_limit device)
  | inr none ↦ elim (either (entry == 2 * (v - 1)) (entry == v - 1) none.1) [
    | inl h ↦ omega (arith, most, devices_are_alike.most_vectors device, eqb-true entry (2 * (v - 1)) h)
    | inr h ↦ omega (arith, most, devices_are_alike.most_vectors device, eqb-true entry (v - 1) h)
  ]
]

vector_fits : (device : Device) (v entry masks : ℕ) (i : Bool) → fits_kind device (Vector v) entry masks i ≡ true → (v ≤ last_vector device) × (entry < limit_of device)
vector_fits device v entry masks i e =
    let a = and_parts (is_vector device v && is_vector_word device v entry) (not i) e in
    let b = and_parts (is_vector device v) (is_vector_word device v entry) a.0 in
    let most : v ≤ last_vector device = at_most_from_test v (last_vector device) (and_parts (nat_le 2 v) (nat_le v (last_vector device)) b.0).1 in
    (most, vector_low device v entry most b.1)

numbered : (device : Device) (kd : Kind) (entry masks : ℕ) (i : Bool) → fits_kind device kd entry masks i ≡ true → IsKindNumbered device kd
numbered device Root entry masks i e = tt
numbered device Call entry masks i e = tt
numbered device (Vector v) entry masks i e = (vector_fits device v entry masks i e).0

entry_below : (device : Device) (kd : Kind) (entry masks : ℕ) (i : Bool) → fits_kind device kd entry masks i ≡ true → entry < limit_of device
entry_below device Root entry masks i e =
    let a = and_parts ((entry == 0) && (masks == 0)) (not i) e in
    let none = eqb-true entry 0 (and_parts (entry == 0) (masks == 0) a.0).0 in
    omega (arith, none)
entry_below device Call entry masks i e = less_from_test entry (limit_of device) e
entry_below device (Vector v) entry masks i e = (vector_fits device v entry masks i e).1

small_entry : (device : Device) (kd : Kind) (entry masks : ℕ) (i : Bool) → fits_kind device kd entry masks i ≡ true → entry < 16 ^ word_digits device
small_entry device kd entry masks i e = word_fits device entry (entry_below device kd entry masks i e)

-- ---- the key

record IsKeyRead (device : Device) (ws : List (List ℕ)) (z : InstKey × List (List ℕ)) : Type 0 where
  pub words : ws ≡ inst_key_words device z.0 ++ z.1
  pub fits : IsInstKey device z.0

key_take : WordLaws → (device : Device) (ws : List (List ℕ)) (z : InstKey × List (List ℕ)) → inst_key_at device ws ≡ Some z → IsKeyRead device ws z
unfolding inst_key_at
key_take k device ws z e =
    let kd = bind_some (word_by (kind_in device) ws) _ z e in
    let en = bind_some (word_address_at device kd.0.1) _ z kd.2 in
    let m = bind_some (masks_at device en.0.1) _ z en.2 in
    let i = bind_some (flag_at m.0.1) _ z m.2 in
    let key : InstKey = record { kind = kd.0.0; entry = en.0.0; masks = m.0.0; i = i.0.0 } in
    let last = cond_some {A = InstKey × List (List ℕ)} (fits_kind device kd.0.0 en.0.0 m.0.0 i.0.0) (key, i.0.1) z i.2 in
    let w = word_by_take (kind_in device) ws kd.0 kd.1 in
    let masks = masks_take k device en.0.1 m.0 m.1 in
    let P : InstKey × List (List ℕ) → Type 0 = λ y. IsKeyRead device ws y in
    subst P last.1 (record {
      words = w.1 ∙ ap₂ cons (kind_take k device w.0 kd.0.0 w.2) ((hex_take k (word_digits device) kd.0.1 en.0 en.1).0 ∙ ap (cons (word_address_text device en.0.0)) (masks.0 ∙ ap (cons (hex_digits m.0.0 (masks_digits device))) (flag_take k m.0.1 i.0 i.1)));
      fits = record { kind = last.0; masks = masks.1 };
    })

key_spelled : WordLaws → (device : Device) (ws rest : List (List ℕ)) (key : InstKey) → inst_key_at device ws ≡ Some (key, rest) → (ws ≡ inst_key_words device key ++ rest) × IsInstKey device key
key_spelled k device ws rest key e = let t = key_take k device ws (key, rest) e in (t.words, t.fits)

key_again : WordLaws → (device : Device) (key : InstKey) (rest : List (List ℕ)) → IsInstKey device key → inst_key_at device (inst_key_words device key ++ rest) ≡ Some (key, rest)
unfolding inst_key_at
key_again k device key rest h =
    let kd = kind_again k device key.kind (numbered device key.kind key.entry key.masks key.i h.kind) in
    let en = k.hex_taken (word_digits device) key.entry (hex_digits key.masks (masks_digits device) ∷ bit key.i ∷ rest) (small_entry device key.kind key.entry key.masks key.i h.kind) in
    let m = masks_again k device key.masks (bit key.i ∷ rest) h.masks in
    let i = flag_again k key.i rest in
    rw (kd, en, m, i, h.kind) refl

key_plain : WordLaws → (device : Device) (key : InstKey) → IsInstKey device key → AllByRecursion IsWord (inst_key_words device key)
key_plain k device key h = (
  kind_is_word k device key.kind (numbered device key.kind key.entry key.masks key.i h.kind),
  (
    k.hex_word key.entry (word_digits device) (small_entry device key.kind key.entry key.masks key.i h.kind),
    (k.hex_word key.masks (masks_digits device) (masks_fit device key.masks h.masks), (bit_word key.i, tt)),
  ),
)

pub inst_keys : WordLaws → InstKeyWords
inst_keys k = record { spelled = key_spelled k; read = key_again k; words = key_plain k }
