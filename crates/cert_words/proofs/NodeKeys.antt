-- Reading and spelling of a node's program point are inverse.
use Rattle.std.proofs.Common.{ℕ, ◌<◌, ◌≤◌, ◌≡◌, inl, inr, List, [], ◌∷◌, ◌++◌, length, codes, Bool, true, false, refl, ap, ap₂, sym, ◌∙◌, arith, Option, Some, None, nat_lt, subst}
use Rattle.std.specs.List.{AllByRecursion}
use Rattle.std.specs.Str.{bytes_eq}
use Rattle.std.proofs.lemmas.Slice.Eq.{bytes_eq-Decides}
use Rattle.std.proofs.lemmas.Option.{cond_some, same_Some as some_is}
use Rattle.basics.specs.Lists.{chosen, same_head_and_tail}
use Rattle.witness_replay.proofs.Runs.{bit_word}
use Rattle.basics.specs.Numbers.{less_from_test, test_from_less}
use Rattle.avr_model.specs.declared.device.Device.{Device}
use Rattle.avr_model.specs.Devices.{limit_of, word_digits, depth_of}
use Rattle.text_base.specs.Digits.{hex_digits}
use Rattle.assumption_files.specs.Spelling.{word_address_text}
use Rattle.assumption_files.specs.Reading.{word_address_at}
use Rattle.line_reading.specs.Reading.{hex_at, word_by}
use Rattle.line_reading.specs.Words.{IsWord, WordLaws}
use Rattle.line_reading.proofs.AllLaws.{bind_some, map_some, length_hex}
use Rattle.witness_replay.specs.Spelling.{bit}
use Rattle.node_keys.specs.declared.keys.Kind.{Kind}
use Rattle.node_keys.specs.declared.keys.Kind.TheVariants.{Root, Call, Vector}
use Rattle.node_keys.specs.declared.keys.InstKey.{InstKey}
use Rattle.node_keys.specs.declared.keys.NodeKey.{NodeKey}
use Rattle.node_keys.specs.declared.keys.High.{High}
use Rattle.node_keys.specs.declared.keys.High.TheVariants as high
use Rattle.node_keys.specs.declared.keys.SpForm.{SpForm}
use Rattle.node_keys.specs.declared.keys.SpForm.TheVariants.{Closed, Open}
use Rattle.node_keys.specs.Keys.{offset_of, is_root, PickFits}
use Rattle.local_rules.specs.Cover.{HighFitsKind, FormFitsKind, IsKey}
use Rattle.certificate.specs.declared.version.Version.{Version}
use Rattle.certificate.specs.declared.version.Version.TheVariants.{One, Two, Three}
use Rattle.certificate.specs.Versions.{PickIsOf}
use Rattle.cert_words.specs.Spelling.{form_word}
use Rattle.cert_words.specs.KeySpelling.{masks_digits, pick_word, pick_words, point_words}
use Rattle.cert_words.specs.Reading.{form_in}
use Rattle.cert_words.specs.KeyReading.{masks_at, flag_at, pick_in, pick_at, node_key_at}
use Rattle.cert_words.specs.Fits.{IsHigh, IsSpForm}
use Rattle.cert_words.specs.Laws.{ValueWords}
use Rattle.cert_words.specs.KeyLaws.{IsPointSpelled, PointWords}
use Rattle.cert_words.proofs.Limits.{word_fits, masks_fit}
use Rattle.cert_words.proofs.Fields.{hex_take, masks_take, masks_again, flag_take, flag_again, word_by_take}
use Rattle.cert_words.proofs.InstKeys.{cons}

form_offset : (device : Device) (root : Bool) (f : SpForm) → IsSpForm device root f → offset_of f ≤ depth_of device
form_offset device root (Closed offset) h = h
form_offset device root (Open offset x) h = h.0

high_fits : (kd : Kind) (offset : ℕ) (x : High) → IsHigh (is_root kd) x → HighFitsKind kd x
high_fits Root offset (high.Known byte) h = h
high_fits Root offset (high.Tag k) h = h
high_fits Call offset (high.Known byte) h = h
high_fits Call offset (high.Tag k) h = h
high_fits (Vector v) offset (high.Known byte) h = h
high_fits (Vector v) offset (high.Tag k) h = h

form_fits : (device : Device) (kd : Kind) (f : SpForm) → IsSpForm device (is_root kd) f → FormFitsKind device kd f
form_fits device kd (Closed offset) h = tt
form_fits device kd (Open offset x) h = (h.1.0, high_fits kd offset x h.1.1)

is_high : (kd : Kind) (offset : ℕ) (x : High) → HighFitsKind kd x → IsHigh (is_root kd) x
is_high Root offset (high.Known byte) h = h
is_high Root offset (high.Tag k) h = h
is_high Call offset (high.Known byte) h = h
is_high Call offset (high.Tag k) h = h
is_high (Vector v) offset (high.Known byte) h = h
is_high (Vector v) offset (high.Tag k) h = h

is_form : (device : Device) (kd : Kind) (f : SpForm) → offset_of f ≤ depth_of device → FormFitsKind device kd f → IsSpForm device (is_root kd) f
is_form device kd (Closed offset) small h = small
is_form device kd (Open offset x) small h = (small, (h.0, is_high kd offset x h.1))

-- ---- the pick

not_dash_by : (w : List ℕ) (t : Bool) → 2 ≤ length w → bytes_eq w (codes "-") ≡ t → t ≡ false
not_dash_by w false long e = refl
not_dash_by w true long e = absurd (omega (arith, long, ap length ((bytes_eq-Decides w (codes "-")).0 e)))

not_dash : (byte : ℕ) → bytes_eq (hex_digits byte 2) (codes "-") ≡ false
not_dash byte = not_dash_by (hex_digits byte 2) (bytes_eq (hex_digits byte 2) (codes "-")) (omega (arith, length_hex byte 2)) refl

pick_take : WordLaws → (w : List ℕ) (pick : Option ℕ) → pick_in w ≡ Some pick → (w ≡ pick_word pick) × PickFits pick
unfolding pick_in
pick_take k w pick e =
    let P : Option ℕ → Type 0 = λ y. (w ≡ pick_word y) × PickFits y in
    elim (chosen (bytes_eq w (codes "-")) _ _ (Some pick) e) [
      | inl h ↦ subst P (some_is {A = Option ℕ} None pick h.1) ((bytes_eq-Decides w (codes "-")).0 h.0, tt)
      | inr h ↦
          let n = map_some (hex_at 2 (w ∷ [])) (λ x. Some x.0) pick h.1 in
          let d = hex_take k 2 (w ∷ []) n.0 n.1 in
          subst P n.2 ((same_head_and_tail w (hex_digits n.0.0 2) [] n.0.1 d.0).0, omega (arith, d.1))
    ]

pick_again : WordLaws → (pick : Option ℕ) → PickFits pick → pick_in (pick_word pick) ≡ Some pick
unfolding pick_in
pick_again k None h = refl
pick_again k (Some byte) h = rw (not_dash byte, k.hex_taken 2 byte [] (omega (arith, h))) refl

record PickRead (version : Version) (ws : List (List ℕ)) (z : Option ℕ × List (List ℕ)) : Type 0 where
  pub words : ws ≡ pick_words version z.0 ++ z.1
  pub fits : PickFits z.0
  pub of_version : PickIsOf version z.0

pick_at_take : WordLaws → (version : Version) (ws : List (List ℕ)) (z : Option ℕ × List (List ℕ)) → pick_at version ws ≡ Some z → PickRead version ws z
pick_at_take k One ws z e =
    let P : Option ℕ × List (List ℕ) → Type 0 = λ y. PickRead One ws y in
    subst P (some_is {A = Option ℕ × List (List ℕ)} (None, ws) z e) (record { words = refl; fits = tt; of_version = refl })
pick_at_take k Two ws z e =
    let w = word_by_take pick_in ws z e in
    let t = pick_take k w.0 z.0 w.2 in
    record { words = w.1 ∙ ap (λ (x : List ℕ). x ∷ z.1) t.0; fits = t.1; of_version = tt }
pick_at_take k Three ws z e =
    let w = word_by_take pick_in ws z e in
    let t = pick_take k w.0 z.0 w.2 in
    record { words = w.1 ∙ ap (λ (x : List ℕ). x ∷ z.1) t.0; fits = t.1; of_version = tt }

pick_at_again : WordLaws → (version : Version) (pick : Option ℕ) (rest : List (List ℕ)) → PickFits pick → PickIsOf version pick → pick_at version (pick_words version pick ++ rest) ≡ Some (pick, rest)
pick_at_again k One pick rest h g = ap (λ (p : Option ℕ). Some (p, rest)) (sym g)
pick_at_again k Two pick rest h g = rw (pick_again k pick h) refl
pick_at_again k Three pick rest h g = rw (pick_again k pick h) refl

pick_is_word : WordLaws → (pick : Option ℕ) → PickFits pick → IsWord (pick_word pick)
pick_is_word k None h = ((refl, tt), (refl, tt))
pick_is_word k (Some byte) h = k.hex_word byte 2 (omega (arith, h))

pick_plain : WordLaws → (version : Version) (pick : Option ℕ) → PickFits pick → AllByRecursion IsWord (pick_words version pick)
pick_plain k One pick h = tt
pick_plain k Two pick h = (pick_is_word k pick h, tt)
pick_plain k Three pick h = (pick_is_word k pick h, tt)

-- ---- the key

key_take : WordLaws → ValueWords → (device : Device) (version : Version) (inst : InstKey) (ws : List (List ℕ)) (z : NodeKey × List (List ℕ)) → node_key_at device version inst ws ≡ Some z → IsPointSpelled device version inst ws z.1 z.0
unfolding node_key_at
key_take k v device version inst ws z e =
    let pc = bind_some (word_address_at device ws) _ z e in
    let m = bind_some (masks_at device pc.0.1) _ z pc.2 in
    let i = bind_some (flag_at m.0.1) _ z m.2 in
    let d = bind_some (flag_at i.0.1) _ z i.2 in
    let f = bind_some (word_by (form_in device (is_root inst.kind)) d.0.1) _ z d.2 in
    let p = bind_some (pick_at version f.0.1) _ z f.2 in
    let key : NodeKey = record { inst = inst; pc = pc.0.0; masks = m.0.0; i = i.0.0; delay = d.0.0; sp = f.0.0; pick = p.0.0 } in
    let last = cond_some {A = NodeKey × List (List ℕ)} (nat_lt pc.0.0 (limit_of device)) (key, p.0.1) z p.2 in
    let w = word_by_take (form_in device (is_root inst.kind)) d.0.1 f.0 f.1 in
    let form = v.spelled.form device (is_root inst.kind) w.0 f.0.0 w.2 in
    let pick = pick_at_take k version f.0.1 p.0 p.1 in
    let masks = masks_take k device pc.0.1 m.0 m.1 in
    let below : pc.0.0 < limit_of device = less_from_test pc.0.0 (limit_of device) last.0 in
    let P : NodeKey × List (List ℕ) → Type 0 = λ y. IsPointSpelled device version inst ws y.1 y.0 in
    subst P last.1 (record {
      words = (hex_take k (word_digits device) ws pc.0 pc.1).0 ∙ ap (cons (word_address_text device pc.0.0)) (masks.0 ∙ ap (cons (hex_digits m.0.0 (masks_digits device))) (flag_take k m.0.1 i.0 i.1
          ∙ ap (cons (bit i.0.0)) (flag_take k i.0.1 d.0 d.1 ∙ ap (cons (bit d.0.0)) (w.1 ∙ ap₂ cons form.0 pick.words))));
      key_fits = record { word = below; small = form_offset device (is_root inst.kind) f.0.0 form.1; masks = masks.1; fits = form_fits device inst.kind f.0.0 form.1; pick = pick.fits };
      of_version = pick.of_version;
      same = refl;
    })

key_spelled : WordLaws → ValueWords → (device : Device) (version : Version) (inst : InstKey) (ws rest : List (List ℕ)) (key : NodeKey) → node_key_at device version inst ws ≡ Some (key, rest) → IsPointSpelled device version inst ws rest key
key_spelled k v device version inst ws rest key e = key_take k v device version inst ws (key, rest) e

key_again : WordLaws → ValueWords → (device : Device) (version : Version) (key : NodeKey) (rest : List (List ℕ)) → IsKey device key → PickIsOf version key.pick → node_key_at device version key.inst (point_words device version key ++ rest) ≡ Some (key, rest)
unfolding node_key_at
key_again k v device version key rest h g =
    let behind : List (List ℕ) = pick_words version key.pick ++ rest in
    let pc = k.hex_taken (word_digits device) key.pc (hex_digits key.masks (masks_digits device) ∷ bit key.i ∷ bit key.delay ∷ form_word key.sp ∷ behind) (word_fits device key.pc h.word) in
    let m = masks_again k device key.masks (bit key.i ∷ bit key.delay ∷ form_word key.sp ∷ behind) h.masks in
    let i = flag_again k key.i (bit key.delay ∷ form_word key.sp ∷ behind) in
    let d = flag_again k key.delay (form_word key.sp ∷ behind) in
    let f = v.read.form device (is_root key.inst.kind) key.sp (is_form device key.inst.kind key.sp h.small h.fits) in
    let p = pick_at_again k version key.pick rest h.pick g in
    let below : nat_lt key.pc (limit_of device) ≡ true = test_from_less key.pc (limit_of device) h.word in
    rw (pc, m, i, d, f, p, below) refl

key_plain : WordLaws → ValueWords → (device : Device) (version : Version) (key : NodeKey) → IsKey device key → AllByRecursion IsWord (point_words device version key)
key_plain k v device version key h = (
  k.hex_word key.pc (word_digits device) (word_fits device key.pc h.word),
  (
    k.hex_word key.masks (masks_digits device) (masks_fit device key.masks h.masks),
    (
      bit_word key.i,
      (bit_word key.delay, (v.words.form device (is_root key.inst.kind) key.sp (is_form device key.inst.kind key.sp h.small h.fits), pick_plain k version key.pick h.pick)),
    ),
  ),
)

pub points : WordLaws → ValueWords → PointWords
points k v = record { spelled = key_spelled k v; read = key_again k v; words = key_plain k v }
