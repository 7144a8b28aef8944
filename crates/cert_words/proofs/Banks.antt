-- RAMPZ and EIND, the registers behind r31: their words, and lists of registers that have both.
use Rattle.std.proofs.Common.{ℕ, zero, suc, ◌<◌, ◌≤◌, ◌≡◌, ◌||◌, inl, inr, List, [], ◌∷◌, ◌++◌, length, length-append, map, take, Bool, true, false, if◌then◌else◌, refl, ap, sym, ◌∙◌, arith, Some, nat_le, slice_set, subst, append_assoc}
use Rattle.std.specs.List.{AllByRecursion}
use Rattle.std.proofs.lemmas.Bool.{false≢true}
use Rattle.std.proofs.lemmas.List.{append-nil, map-append}
use Rattle.std.proofs.lemmas.Option.{cond_some, same_Some as some_is}
use Rattle.std.proofs.Math.Seq.{take-append_seam}
use Rattle.basics.specs.Lists.{chosen}
use Rattle.basics.specs.Numbers.{at_most_from_test, test_from_at_most}
use Rattle.line_reading.specs.Words.{IsWord}
use Rattle.line_reading.proofs.AllLaws.{bind_some}
use Rattle.avr_model.specs.declared.device.Device.{Device}
use Rattle.avr_model.specs.Devices.{has_elpm, has_eijmp}
use Rattle.avr_model.specs.State.{RAMPZ, EIND, bank_most, has_register}
use Rattle.avr_model.proofs.AllLaws.{devices_are_alike}
use Rattle.bit_domain.specs.TriByte.{byte_known}
use Rattle.bit_domain.specs.Packed.{packed}
use Rattle.bit_domain.specs.Ranges.{most_of, RangesFit}
use Rattle.sp_domain.specs.declared.tags.Tag.{Tag}
use Rattle.sp_domain.specs.declared.tags.Tag.TheVariants as tag
use Rattle.abs_state.specs.declared.values.AbsByte.{AbsByte}
use Rattle.abs_state.specs.Values.{value_at}
use Rattle.abs_state.specs.Formed.{NamesRegister, ByteFits, TagFits}
use Rattle.abs_state.specs.Banks.{is_tag_of, absent, IsBankIn}
use Rattle.certificate.specs.declared.version.Version.{Version}
use Rattle.certificate.specs.declared.version.Version.TheVariants.{One, Two, Three}
use Rattle.certificate.specs.Versions.{ValueIsOf}
use Rattle.cert_words.specs.Spelling.{value_word}
use Rattle.cert_words.specs.KeySpelling.{register_count}
use Rattle.cert_words.specs.Reading.{value_in, bank_in}
use Rattle.cert_words.specs.KeyReading.{words_from, bank_at, registers_behind}
use Rattle.cert_words.specs.Fits.{IsTag, IsValue}
use Rattle.cert_words.specs.Laws.{ValueWords}
use Rattle.cert_words.proofs.Fields.{word_by_take, words_take, words_again, words_plain, joined_words}
use Rattle.cert_words.proofs.InstKeys.{cons}
use Rattle.cert_words.proofs.Loops.{all_taken}
use Rattle.cert_words.proofs.Tags.{register_below}

-- ---- a value of a state

-- the value fits by itself; the device may lack its register
pub record IsKept (version : Version) (root : Bool) (v : AbsByte) : Type 0 where
  pub names : NamesRegister v.tag
  pub fits : TagFits v.tag
  pub none : root ≡ true → v.tag ≡ tag.None
  pub range : ByteFits v
  pub of_version : ValueIsOf version v

tag_names : (device : Device) (t : Tag) → is_tag_of device t ≡ true → NamesRegister t
tag_names device tag.None h = tt
tag_names device (tag.Entry r) h = register_below device r h
tag_names device tag.EntryFlags h = tt
tag_names device (tag.SpLo j) h = tt
tag_names device (tag.SpHi k) h = tt

pub tag_named : (device : Device) (root : Bool) (t : Tag) → IsTag device root t → NamesRegister t
tag_named device root t h = tag_names device t h.of

value_kept : (device : Device) (version : Version) (root : Bool) (v : AbsByte) → IsValue device version root v → IsKept version root v
value_kept device version root v h = record { names = tag_named device root v.tag h.fits_tag; fits = h.fits_tag.fits; none = h.fits_tag.none; range = h.range; of_version = h.of_version }

absent_names : (root : Bool) (r : ℕ) → r < 34 → NamesRegister (absent root r).tag
absent_names true r lt = tt
absent_names false r lt = lt

absent_fits : (root : Bool) (r : ℕ) → TagFits (absent root r).tag
absent_fits true r = tt
absent_fits false r = tt

absent_in_root : (root : Bool) (r : ℕ) → root ≡ true → (absent root r).tag ≡ tag.None
absent_in_root true r e = refl
absent_in_root false r e = cc

absent_of : (version : Version) (root : Bool) (r : ℕ) → ValueIsOf version (absent root r)
absent_of One root r = refl
absent_of Two root r = tt
absent_of Three root r = tt

absent_kept : RangesFit → (version : Version) (root : Bool) (r : ℕ) → r < 34 → IsKept version root (absent root r)
absent_kept g version root r lt = record {
  names = absent_names root r lt;
  fits = absent_fits root r;
  none = absent_in_root root r;
  range = g.of_bits (byte_known 0);
  of_version = absent_of version root r;
}

-- ---- RAMPZ or EIND

most_zero : most_of (byte_known 0) ≡ 0
unfolding packed
most_zero = refl

-- the value of the register is in a text, or the absent one
pub record IsBank (device : Device) (version : Version) (root : Bool) (r : ℕ) (v : AbsByte) : Type 0 where
  pub most : most_of v.bits ≤ bank_most device r
  pub value : has_register device r ≡ true → IsValue device version root v
  pub lacking : has_register device r ≡ false → v ≡ absent root r

bank_kept : RangesFit → (device : Device) (version : Version) (root : Bool) (r : ℕ) (v : AbsByte) → r < 34 → IsBank device version root r v → IsKept version root v
bank_kept g device version root r v lt h = by (has_register device r) refl
  where
    by : (has : Bool) → has_register device r ≡ has → IsKept version root v
    by true is = value_kept device version root v (h.value is)
    by false is = subst (IsKept version root) (sym (h.lacking is)) (absent_kept g version root r lt)

pub bank_is : (device : Device) (version : Version) (root : Bool) (r : ℕ) (v : AbsByte) → IsBank device version root r v → IsBankIn (is_tag_of device) device root r v
bank_is device version root r v h = record { most = h.most; tag = λ has. (h.value has).fits_tag.of; lacking = h.lacking }

-- its word, if the device has it
abbrev bank_words : Device → Version → ℕ → AbsByte → List (List ℕ)
bank_words device version r v = if has_register device r then value_word version v ∷ [] else []

bank_take : ValueWords → (device : Device) (version : Version) (root : Bool) (r : ℕ) (ws : List (List ℕ)) (z : AbsByte × List (List ℕ)) → bank_at device version root r ws ≡ Some z
    → (ws ≡ bank_words device version r z.0 ++ z.1) × IsBank device version root r z.0
unfolding bank_at bank_in
bank_take v device version root r ws z e = elim (chosen (has_register device r) _ _ (Some z) e) [
  | inl h ↦
      let w = word_by_take (bank_in device version root r) ws z h.1 in
      let x = bind_some (value_in device version root w.0) _ z.0 w.2 in
      let last = cond_some {A = AbsByte} (nat_le (most_of x.0.bits) (bank_most device r)) x.0 z.0 x.2 in
      let word = v.spelled.value device version root w.0 x.0 x.1 in
      let P : AbsByte → Type 0 = λ y. (w.0 ≡ value_word version y) × IsValue device version root y × (most_of y.bits ≤ bank_most device r) in
      let is = subst P last.1 (word.0, word.1, at_most_from_test (most_of x.0.bits) (bank_most device r) last.0) in
      let said : bank_words device version r z.0 ≡ value_word version z.0 ∷ [] = ap (λ (b : Bool). if b then value_word version z.0 ∷ [] else []) h.0 in
      (w.1 ∙ ap (λ (y : List ℕ). y ∷ z.1) is.0 ∙ ap (λ (ys : List (List ℕ)). ys ++ z.1) (sym said), record { most = is.2; value = λ _. is.1; lacking = λ f. cc })
  | inr h ↦
      let P : AbsByte × List (List ℕ) → Type 0 = λ y. (ws ≡ bank_words device version r y.0 ++ y.1) × IsBank device version root r y.0 in
      let said : bank_words device version r (absent root r) ≡ [] = ap (λ (b : Bool). if b then value_word version (absent root r) ∷ [] else []) h.0 in
      let none : most_of (absent root r).bits ≡ 0 = most_zero in
      subst P (some_is {A = AbsByte × List (List ℕ)} (absent root r, ws) z h.1) (ap (λ (ys : List (List ℕ)). ys ++ ws) (sym said), record { most = omega (arith, none); value = λ t. cc; lacking = λ _. refl })
]

bank_in_again : ValueWords → (device : Device) (version : Version) (root : Bool) (r : ℕ) (x : AbsByte) → IsValue device version root x → most_of x.bits ≤ bank_most device r → bank_in device version root r (value_word version x) ≡ Some x
unfolding bank_in
bank_in_again v device version root r x h most = rw (v.read.value device version root x h, test_from_at_most (most_of x.bits) (bank_most device r) most) refl

bank_again : ValueWords → (device : Device) (version : Version) (root : Bool) (r : ℕ) (x : AbsByte) (rest : List (List ℕ)) → IsBank device version root r x → bank_at device version root r (bank_words device version r x ++ rest) ≡ Some (x, rest)
unfolding bank_at
bank_again v device version root r x rest h = by (has_register device r) refl
  where
    by : (has : Bool) → has_register device r ≡ has → bank_at device version root r (bank_words device version r x ++ rest) ≡ Some (x, rest)
    by true is = rw (is, bank_in_again v device version root r x (h.value is) h.most) refl
    by false is = rw is (ap (λ (y : AbsByte). Some (y, rest)) (sym (h.lacking is)))

bank_plain : ValueWords → (device : Device) (version : Version) (root : Bool) (r : ℕ) (x : AbsByte) → IsBank device version root r x → AllByRecursion IsWord (bank_words device version r x)
bank_plain v device version root r x h = by (has_register device r) refl
  where
    by : (has : Bool) → has_register device r ≡ has → AllByRecursion IsWord (if has then value_word version x ∷ [] else [])
    by true is = (v.words.value device version root x (h.value is), tt)
    by false is = tt

-- ---- all registers

pub record AreRegisters (device : Device) (version : Version) (root : Bool) (registers : List AbsByte) : Type 0 where
  pub front : List AbsByte
  pub rampz : AbsByte
  pub eind : AbsByte
  pub are : registers ≡ front ++ rampz ∷ eind ∷ []
  pub count : length front ≡ 32
  pub fit : AllByRecursion (λ v. IsValue device version root v) front
  pub rampz_fits : IsBank device version root RAMPZ rampz
  pub eind_fits : IsBank device version root EIND eind

pub count_all : {device : Device} {version : Version} {root : Bool} (registers : List AbsByte) → AreRegisters device version root registers → length registers ≡ 34
count_all registers h = ap length h.are ∙ length-append h.front (h.rampz ∷ h.eind ∷ []) ∙ omega (arith, h.count)

all_kept : RangesFit → (device : Device) (version : Version) (root : Bool) (xs : List AbsByte) (z e : AbsByte) → AllByRecursion (λ v. IsValue device version root v) xs → IsKept version root z → IsKept version root e
    → AllByRecursion (λ v. IsKept version root v) (xs ++ z ∷ e ∷ [])
all_kept g device version root [] z e h a b = (a, (b, tt))
all_kept g device version root (x ∷ xs) z e h a b = (value_kept device version root x h.0, all_kept g device version root xs z e h.1 a b)

pub are_kept : RangesFit → (device : Device) (version : Version) (root : Bool) (registers : List AbsByte) → AreRegisters device version root registers → AllByRecursion (λ v. IsKept version root v) registers
are_kept g device version root registers h =
    let P : List AbsByte → Type 0 = λ rs. AllByRecursion (λ v. IsKept version root v) rs in
    subst P (sym h.are)
    (all_kept g device version root h.front h.rampz h.eind h.fit (bank_kept g device version root RAMPZ h.rampz (omega arith) h.rampz_fits) (bank_kept g device version root EIND h.eind (omega arith) h.eind_fits))

-- by index

front_at : (P : AbsByte → Type 0) (xs ys : List AbsByte) (r : ℕ) → AllByRecursion P xs → r < length xs → P (value_at (xs ++ ys) r)
front_at P [] ys r h lt = absurd (omega (arith, lt))
front_at P (x ∷ xs) ys zero h lt = h.0
front_at P (x ∷ xs) ys (suc r) h lt = front_at P xs ys r h.1 (omega (arith, lt))

at_seam : (xs ys : List AbsByte) (z : AbsByte) → value_at (xs ++ z ∷ ys) (length xs) ≡ z
at_seam [] ys z = refl
at_seam (x ∷ xs) ys z = at_seam xs ys z

behind_seam : (xs ys : List AbsByte) (z e : AbsByte) → value_at (xs ++ z ∷ e ∷ ys) (suc (length xs)) ≡ e
behind_seam [] ys z e = refl
behind_seam (x ∷ xs) ys z e = behind_seam xs ys z e

pub register_is : {device : Device} {version : Version} {root : Bool} (registers : List AbsByte) (r : ℕ) → AreRegisters device version root registers → r < 32 → IsValue device version root (value_at registers r)
register_is {device} {version} {root} registers r h lt =
    let P : List AbsByte → Type 0 = λ rs. IsValue device version root (value_at rs r) in
    subst P (sym h.are) (front_at (λ v. IsValue device version root v) h.front (h.rampz ∷ h.eind ∷ []) r h.fit (omega (arith, h.count, lt)))

pub rampz_is : {device : Device} {version : Version} {root : Bool} (registers : List AbsByte) → AreRegisters device version root registers → IsBank device version root RAMPZ (value_at registers RAMPZ)
rampz_is {device} {version} {root} registers h =
    let P : ℕ → Type 0 = λ n. value_at (h.front ++ h.rampz ∷ h.eind ∷ []) n ≡ h.rampz in
    let is : value_at registers RAMPZ ≡ h.rampz = ap (λ (rs : List AbsByte). value_at rs RAMPZ) h.are ∙ subst P h.count (at_seam h.front (h.eind ∷ []) h.rampz) in
    subst (IsBank device version root RAMPZ) (sym is) h.rampz_fits

pub eind_is : {device : Device} {version : Version} {root : Bool} (registers : List AbsByte) → AreRegisters device version root registers → IsBank device version root EIND (value_at registers EIND)
eind_is {device} {version} {root} registers h =
    let P : ℕ → Type 0 = λ n. value_at (h.front ++ h.rampz ∷ h.eind ∷ []) (suc n) ≡ h.eind in
    let is : value_at registers EIND ≡ h.eind = ap (λ (rs : List AbsByte). value_at rs EIND) h.are ∙ subst P h.count (behind_seam h.front [] h.rampz h.eind) in
    subst (IsBank device version root EIND) (sym is) h.eind_fits

cut_at : (n : ℕ) (xs : List AbsByte) → length xs ≡ suc (suc n) → xs ≡ take n xs ++ value_at xs n ∷ value_at xs (suc n) ∷ []
cut_at n [] h = absurd (omega (arith, h))
cut_at n (x ∷ []) h = absurd (omega (arith, h))
cut_at zero (x ∷ y ∷ []) h = refl
cut_at zero (x ∷ y ∷ z ∷ xs) h = absurd (omega (arith, h))
cut_at (suc n) (x ∷ y ∷ xs) h = ap (λ (ys : List AbsByte). x ∷ ys) (cut_at n (y ∷ xs) (omega (arith, h)))

first_all : (P : AbsByte → Type 0) (n : ℕ) (xs : List AbsByte) → n ≤ length xs → ((r : ℕ) → r < n → P (value_at xs r)) → AllByRecursion P (take n xs)
first_all P zero xs le h = tt
first_all P (suc n) [] le h = absurd (omega (arith, le))
first_all P (suc n) (x ∷ xs) le h = (h 0 (omega arith), first_all P n xs (omega (arith, le)) (λ r lt. h (suc r) (omega (arith, lt))))

count_first : (n : ℕ) (xs : List AbsByte) → n ≤ length xs → length (take n xs) ≡ n
count_first zero xs le = refl
count_first (suc n) [] le = absurd (omega (arith, le))
count_first (suc n) (x ∷ xs) le = ap suc (count_first n xs (omega (arith, le)))

pub are_registers : (device : Device) (version : Version) (root : Bool) (registers : List AbsByte) → length registers ≡ 34 → ((r : ℕ) → r < 32 → IsValue device version root (value_at registers r))
    → IsBank device version root RAMPZ (value_at registers RAMPZ) → IsBank device version root EIND (value_at registers EIND) → AreRegisters device version root registers
are_registers device version root registers count fit rampz_fits eind_fits = record {
  front = take 32 registers;
  rampz = value_at registers RAMPZ;
  eind = value_at registers EIND;
  are = cut_at 32 registers count;
  count = count_first 32 registers (omega (arith, count));
  fit = first_all (λ v. IsValue device version root v) 32 registers (omega (arith, count)) fit;
  rampz_fits = rampz_fits;
  eind_fits = eind_fits;
}

-- ---- their words

or_false : (b : Bool) → (b || false) ≡ b
or_false true = refl
or_false false = refl

rampz_there : (device : Device) → has_register device RAMPZ ≡ has_elpm device
rampz_there device = or_false (has_elpm device)

seam_taken : (xs ys : List AbsByte) (n : ℕ) → length xs ≡ n → take n (xs ++ ys) ≡ xs
seam_taken xs ys n h = ap (λ (m : ℕ). take m (xs ++ ys)) (sym h) ∙ take-append_seam xs ys

one_more : (xs : List AbsByte) (z e : AbsByte) (n : ℕ) → length xs ≡ n → take (suc n) (xs ++ z ∷ e ∷ []) ≡ xs ++ z ∷ []
one_more xs z e n h =
    let long : length (xs ++ z ∷ []) ≡ suc n = length-append xs (z ∷ []) ∙ omega (arith, h) in
    ap (take (suc n)) (sym (append_assoc xs (z ∷ []) (e ∷ []))) ∙ seam_taken (xs ++ z ∷ []) (e ∷ []) (suc n) long

abbrev word_if : Bool → Version → AbsByte → List (List ℕ)
word_if there version v = if there then value_word version v ∷ [] else []

said_by : (version : Version) (front : List AbsByte) (z e : AbsByte) (elpm eijmp : Bool) → length front ≡ 32 → (eijmp ≡ true → elpm ≡ true)
    → map (value_word version) (take (if eijmp then 34 else (if elpm then 33 else 32)) (front ++ z ∷ e ∷ [])) ≡ map (value_word version) front ++ (word_if elpm version z ++ word_if eijmp version e)
said_by version front z e true true count both =
    let long : length (front ++ z ∷ e ∷ []) ≡ 34 = length-append front (z ∷ e ∷ []) ∙ omega (arith, count) in
    ap (map (value_word version)) (all_taken 34 (front ++ z ∷ e ∷ []) long) ∙ map-append (value_word version) front (z ∷ e ∷ [])
said_by version front z e true false count both = ap (map (value_word version)) (one_more front z e 32 count) ∙ map-append (value_word version) front (z ∷ [])
said_by version front z e false true count both = absurd (false≢true (both refl))
said_by version front z e false false count both = ap (map (value_word version)) (seam_taken front (z ∷ e ∷ []) 32 count) ∙ sym (append-nil (map (value_word version) front))

said : (device : Device) (version : Version) (front : List AbsByte) (z e : AbsByte) → length front ≡ 32
    → map (value_word version) (take (register_count device) (front ++ z ∷ e ∷ [])) ≡ map (value_word version) front ++ (bank_words device version RAMPZ z ++ bank_words device version EIND e)
said device version front z e count =
    said_by version front z e (has_elpm device) (has_eijmp device) count (devices_are_alike.elpm device)
    ∙ ap (λ (b : Bool). map (value_word version) front ++ (word_if b version z ++ bank_words device version EIND e)) (sym (rampz_there device))

-- the words of all registers, and others behind them
said_before : (device : Device) (version : Version) (front : List AbsByte) (z e : AbsByte) (rest : List (List ℕ)) → length front ≡ 32
    → map (value_word version) (take (register_count device) (front ++ z ∷ e ∷ [])) ++ rest ≡ map (value_word version) front ++ (bank_words device version RAMPZ z ++ (bank_words device version EIND e ++ rest))
said_before device version front z e rest count =
    let own : List (List ℕ) = map (value_word version) front in
    let first : List (List ℕ) = bank_words device version RAMPZ z in
    let second : List (List ℕ) = bank_words device version EIND e in
    ap (λ (xs : List (List ℕ)). xs ++ rest) (said device version front z e count) ∙ append_assoc own (first ++ second) rest ∙ ap (λ (xs : List (List ℕ)). own ++ xs) (append_assoc first second rest)

pub record RegistersRead (device : Device) (version : Version) (root : Bool) (first : AbsByte) (ws : List (List ℕ)) (z : List AbsByte × List (List ℕ)) : Type 0 where
  pub words : value_word version first ∷ ws ≡ map (value_word version) (take (register_count device) z.0) ++ z.1
  pub fit : AreRegisters device version root z.0

pub registers_take : ValueWords → (device : Device) (version : Version) (root : Bool) (first : AbsByte) (ws : List (List ℕ)) (z : List AbsByte × List (List ℕ)) → IsValue device version root first
    → registers_behind device version root first ws ≡ Some z → RegistersRead device version root first ws z
unfolding registers_behind
registers_take v device version root first ws z h e =
    let r = bind_some (words_from (value_in device version root) (first ∷ []) 31 ws) _ z e in
    let a = bind_some (bank_at device version root RAMPZ r.0.1) _ z r.2 in
    let b = bind_some (bank_at device version root EIND a.0.1) _ z a.2 in
    let rs = words_take (value_in device version root) (value_word version) (λ x. IsValue device version root x) (v.spelled.value device version root) (first ∷ []) 31 ws r.0 r.1 in
    let az = bank_take v device version root RAMPZ r.0.1 a.0 a.1 in
    let bz = bank_take v device version root EIND a.0.1 b.0 b.1 in
    let count : length (first ∷ rs.items) ≡ 32 = omega (arith, rs.number) in
    let front : List AbsByte = first ∷ rs.items in
    let behind : r.0.1 ≡ bank_words device version RAMPZ a.0.0 ++ (bank_words device version EIND b.0.0 ++ b.0.1) = az.0 ∙ ap (λ (xs : List (List ℕ)). bank_words device version RAMPZ a.0.0 ++ xs) bz.0 in
    let all : value_word version first ∷ ws ≡ map (value_word version) front ++ (bank_words device version RAMPZ a.0.0 ++ (bank_words device version EIND b.0.0 ++ b.0.1)) =
    ap (cons (value_word version first)) (rs.words ∙ ap (λ (xs : List (List ℕ)). map (value_word version) rs.items ++ xs) behind) in
    let same : r.0.0 ++ a.0.0 ∷ b.0.0 ∷ [] ≡ front ++ a.0.0 ∷ b.0.0 ∷ [] = ap (λ (xs : List AbsByte). xs ++ a.0.0 ∷ b.0.0 ∷ []) rs.all in
    let P : List AbsByte × List (List ℕ) → Type 0 = λ y. RegistersRead device version root first ws y in
    let Q : List AbsByte → Type 0 = λ y. RegistersRead device version root first ws (y, b.0.1) in
    subst P (some_is {A = List AbsByte × List (List ℕ)} (r.0.0 ++ a.0.0 ∷ b.0.0 ∷ [], b.0.1) z b.2) (subst Q (sym same) (record {
      words = all ∙ sym (said_before device version front a.0.0 b.0.0 b.0.1 count);
      fit = record { front = front; rampz = a.0.0; eind = b.0.0; are = refl; count = count; fit = (h, rs.fit); rampz_fits = az.1; eind_fits = bz.1 };
    }))

registers_again : ValueWords → (device : Device) (version : Version) (root : Bool) (first : AbsByte) (more : List AbsByte) (z e : AbsByte) (rest : List (List ℕ)) → length (first ∷ more) ≡ 32
    → AllByRecursion (λ x. IsValue device version root x) more → IsBank device version root RAMPZ z → IsBank device version root EIND e
    → registers_behind device version root first (map (value_word version) more ++ (bank_words device version RAMPZ z ++ (bank_words device version EIND e ++ rest))) ≡ Some ((first ∷ more) ++ z ∷ e ∷ [], rest)
unfolding registers_behind
registers_again v device version root first more z e rest count fit a b =
    let behind : List (List ℕ) = bank_words device version EIND e ++ rest in
    let rs = words_again (value_in device version root) (value_word version) (λ x. IsValue device version root x) (v.read.value device version root) (first ∷ []) more 31 (bank_words device version RAMPZ z ++ behind) fit (omega (arith, count)) in
    rw (rs, bank_again v device version root RAMPZ z behind a, bank_again v device version root EIND e rest b) refl

-- The words begin with that of a value, and are read as the registers.
pub record AreRead (device : Device) (version : Version) (root : Bool) (registers : List AbsByte) (rest : List (List ℕ)) : Type 0 where
  pub first : AbsByte
  pub more : List (List ℕ)
  pub words : map (value_word version) (take (register_count device) registers) ++ rest ≡ value_word version first ∷ more
  pub fits : IsValue device version root first
  pub read : registers_behind device version root first more ≡ Some (registers, rest)

pub are_read : ValueWords → (device : Device) (version : Version) (root : Bool) (registers : List AbsByte) (rest : List (List ℕ)) → AreRegisters device version root registers → AreRead device version root registers rest
are_read v device version root registers rest h =
    let P : List AbsByte → Type 0 = λ rs. AreRead device version root rs rest in
    subst P (sym h.are) (by h.front h.count h.fit)
  where
    by : (front : List AbsByte) → length front ≡ 32 → AllByRecursion (λ x. IsValue device version root x) front → AreRead device version root (front ++ h.rampz ∷ h.eind ∷ []) rest
    by [] count fit = absurd (omega (arith, count))
    by (first ∷ more) count fit = record {
      first = first;
      more = map (value_word version) more ++ (bank_words device version RAMPZ h.rampz ++ (bank_words device version EIND h.eind ++ rest));
      words = said_before device version (first ∷ more) h.rampz h.eind rest count;
      fits = fit.0;
      read = registers_again v device version root first more h.rampz h.eind rest count fit.1 h.rampz_fits h.eind_fits;
    }

pub registers_plain : ValueWords → (device : Device) (version : Version) (root : Bool) (registers : List AbsByte) → AreRegisters device version root registers → AllByRecursion IsWord (map (value_word version) (take (register_count device) registers))
registers_plain v device version root registers h =
    let P : List (List ℕ) → Type 0 = λ ws. AllByRecursion IsWord ws in
    let first : List (List ℕ) = bank_words device version RAMPZ h.rampz in
    let second : List (List ℕ) = bank_words device version EIND h.eind in
    let all : map (value_word version) (take (register_count device) registers) ≡ map (value_word version) h.front ++ (first ++ second) =
    ap (λ (rs : List AbsByte). map (value_word version) (take (register_count device) rs)) h.are ∙ said device version h.front h.rampz h.eind h.count in
    subst P (sym all)
    (joined_words (map (value_word version) h.front) (first ++ second) (words_plain (value_word version) (λ x. IsValue device version root x) (v.words.value device version root) h.front h.fit)
    (joined_words first second (bank_plain v device version root RAMPZ h.rampz h.rampz_fits) (bank_plain v device version root EIND h.eind h.eind_fits)))

-- ---- the code's array

set_last : (n : ℕ) (xs : List AbsByte) (z e : AbsByte) → length xs ≡ suc (suc n) → slice_set (slice_set xs n z) (suc n) e ≡ take n xs ++ z ∷ e ∷ []
set_last n [] z e h = absurd (omega (arith, h))
set_last n (x ∷ []) z e h = absurd (omega (arith, h))
set_last zero (x ∷ y ∷ []) z e h = refl
set_last zero (x ∷ y ∷ w ∷ xs) z e h = absurd (omega (arith, h))
set_last (suc n) (x ∷ y ∷ xs) z e h = ap (λ (ys : List AbsByte). x ∷ ys) (set_last n (y ∷ xs) z e (omega (arith, h)))

pub registers_set : (device : Device) (version : Version) (root : Bool) (first : AbsByte) (ws w1 w2 w3 : List (List ℕ)) (xs : List AbsByte) (z e : AbsByte) → length xs ≡ 34
    → Some (take 32 xs, w1) ≡ words_from (value_in device version root) (first ∷ []) 31 ws → Some (z, w2) ≡ bank_at device version root RAMPZ w1 → Some (e, w3) ≡ bank_at device version root EIND w2
    → Some (slice_set (slice_set xs 32 z) 33 e, w3) ≡ registers_behind device version root first ws
unfolding registers_behind
registers_set device version root first ws w1 w2 w3 xs z e count r a b = rw (sym r, sym a, sym b) (ap (λ (ys : List AbsByte). Some (ys, w3)) (set_last 32 xs z e count))
