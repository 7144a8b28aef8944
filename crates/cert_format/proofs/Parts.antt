-- Reading and spelling of the parts of a certificate are inverse.
use Rattle.std.proofs.Common.{nat_le, ℕ, ◌+◌, ◌<◌, ◌≤◌, ◌^◌, ◌≡◌, ◌==◌, ◌&&◌, ◌⊎◌, inl, inr, List, [], ◌∷◌, ◌++◌, length, map, codes, Bool, true, false, not, refl, ap, sym, ◌∙◌, arith, Option, Some, None, Result, Ok, Err, subst, lit<, append_assoc}
use Rattle.std.specs.Prelude.{IfSome, ◌≢◌}
use Rattle.std.specs.List.{AllByRecursion, flat_map}
use Rattle.std.specs.Fmt.{decimal}
use Rattle.std.specs.Str.{bytes_eq}
use Rattle.std.proofs.lemmas.List.{map-append}
use Rattle.std.proofs.lemmas.Slice.Eq.{bytes_eq-Decides}
use Rattle.std.proofs.lemmas.Bool.{false≢true, not-true, and_parts}
use Rattle.basics.specs.Lists.{chosen}
use Rattle.basics.specs.Numbers.{at_most_from_test, test_from_at_most}
use Rattle.std.proofs.lemmas.Option.{same_Some, none-some, cond_some}
use Rattle.witness_replay.proofs.Exact.{as_words}
use Rattle.avr_model.specs.declared.device.Device.{Device}
use Rattle.avr_model.specs.Devices.{depth_of}
use Rattle.text_base.specs.Digits.{dec_answer}
use Rattle.text_base.specs.declared.digits.DigitFault.{DigitFault}
use Rattle.text_base.specs.declared.digits.DigitFault.TheVariants.{WrongLength, BadDigit, TooGreat}
use Rattle.text_base.specs.Lines.{TextLine, Position, Lacks, lines_of, words_of, spaced, line}
use Rattle.line_reading.specs.Reading.{dec_at, word_at, word_by, is_over, number_and, this_by, line_by}
use Rattle.line_reading.specs.Words.{IsWord, whole, sizes, Passes, WordLaws}
use Rattle.line_reading.proofs.AllLaws.{bind_some, map_some, no_words, line_takes, line_again, passes_none, passes_end, passes_more, passes_split, sizes_append, number_of}
use Rattle.witness_replay.specs.Spelling.{Plan, IsSchedule, schedule_lines, text_of as schedule_text}
use Rattle.witness_replay.specs.Reading.{schedule_at}
use Rattle.witness_replay.specs.Exact.{TextIsReading, ReadScheduleIsSpelled as ScheduleIsSpelled, SpelledScheduleIsRead as ScheduleIsRead}
use Rattle.cert_format.specs.declared.fault.CertFault.{CertFault}
use Rattle.cert_format.specs.declared.fault.CertFault.TheVariants as fault
use Rattle.certificate.specs.Claims.{most_nodes}
use Rattle.certificate.specs.declared.version.Version.{Version}
use Rattle.certificate.specs.declared.version.Version.TheVariants.{One, Two, Three}
use Rattle.avr_model.specs.Devices.{has_elpm}
use Rattle.avr_model.specs.Names.{class_of, device_of_class}
use Rattle.certificate.specs.Versions.{says_device}
use Rattle.cert_words.specs.Text.{numbered, version_word, version_line, device_line, device_lines, heading, open_line, attained_line, witness_lines, end_line}
use Rattle.cert_format.specs.Reading.{formed, numbered_in, numbered_by, counted, count_at, count_in, count_by, limited, version_by, other_by, device_in, device_by, for_this, device_at, ending_by, items_from, heading_at, plan_if, witness_at, if_last, end_at}
use Rattle.cert_words.proofs.AllLaws.{depth_room, same_text, word_take, dec_take, word_by_take, class_word, class_named}
use Rattle.cert_format.proofs.FirstEntries.{version_read}
use Rattle.cert_format.proofs.Lists.{ok_is, err_ok, then_ok, formed_ok, Admitted, Steady, Spells, Reads, items_take, items_again}

-- ---- positions

abbrev pub Stand : Position → List (List (List ℕ)) → Position → Type 0
Stand p wss q = Passes p (map whole wss) q

pub stand_more : (p m q : Position) (xs bs : List (List (List ℕ))) → Stand p xs m → Stand m bs q → Stand p (xs ++ bs) q
stand_more p m q xs bs h g = let P : List TextLine → Type 0 = λ ls. Passes p ls q in subst P (sym (map-append whole xs bs)) (passes_more p m q (map whole xs) (map whole bs) h g)

pub stand_cut : (p q : Position) (xs bs : List (List (List ℕ))) → Stand p (xs ++ bs) q → (m : Position) × Stand p xs m × Stand m bs q
stand_cut p q xs bs h =
    let P : List TextLine → Type 0 = λ ls. Passes p ls q in
    let g = subst P (map-append whole xs bs) h in (
      record { at = p.at + sizes (map whole xs); rest = map whole bs ++ q.rest },
      record { lines = g.lines ∙ append_assoc (map whole xs) (map whole bs) q.rest; offset = refl },
      record { lines = refl; offset = omega (arith, g.offset, sizes_append (map whole xs) (map whole bs)) },
    )

-- the position of a reader before a text
abbrev pub before : ℕ → List ℕ → Position
before at text = record { at = at; rest = lines_of text }

-- lines of words are at a position exactly when their text is
pub stand : WordLaws → (wss : List (List (List ℕ))) (at : ℕ) (text : List ℕ) → AllByRecursion (AllByRecursion IsWord) wss → Stand (before at (flat_map line wss ++ text)) wss (before (at + length (flat_map line wss)) text)
stand k wss at text h =
    k.text_lines (before at (flat_map line wss ++ text)) wss (before (at + length (flat_map line wss)) text) h (k.are_lines (flat_map line wss ++ text)) (k.are_lines text)
    (record { bytes = k.text_joined (flat_map line wss ++ text) ∙ ap (λ (xs : List ℕ). flat_map line wss ++ xs) (sym (k.text_joined text)); offset = refl })

-- ---- words that are written out

abbrev pub lacks : ℕ → List ℕ → Bool
lacks c [] = true
lacks c (b ∷ bs) = not (b == c) && lacks c bs

abbrev pub are_plain : List (List ℕ) → Bool
are_plain [] = true
are_plain (w ∷ ws) = (lacks 32 w && lacks 10 w) && are_plain ws

lacks_by : (c : ℕ) (w : List ℕ) → lacks c w ≡ true → Lacks c w
lacks_by c [] e = tt
lacks_by c (b ∷ bs) e = let t = and_parts (not (b == c)) (lacks c bs) e in (not-true (b == c) t.0, lacks_by c bs t.1)

pub plain : (ws : List (List ℕ)) → are_plain ws ≡ true → AllByRecursion IsWord ws
plain [] e = tt
plain (w ∷ ws) e =
    let t = and_parts (lacks 32 w && lacks 10 w) (are_plain ws) e in
    let h = and_parts (lacks 32 w) (lacks 10 w) t.0 in
    ((lacks_by 32 w h.0, lacks_by 10 w h.1), plain ws t.1)

pub numbered_plain : WordLaws → (name : List ℕ) (n : ℕ) → IsWord name → n < 2 ^ 64 → AllByRecursion IsWord (numbered name n)
numbered_plain k name n h room = (h, (k.dec_word n room, tt))

-- ---- one line

this_is : (text t : List ℕ) (u : Unit {0}) → this_by text t ≡ Some u → t ≡ text
this_is text t u e = (bytes_eq-Decides t text).0 (cond_some (bytes_eq t text) tt u e).0

pub this_again : (text : List ℕ) → this_by text text ≡ Some tt
this_again text = rw (same_text text) refl

pub this_take : (ws : List (List ℕ)) (p : Position) (z : Unit {0} × Position) → formed (line_by (this_by (spaced ws)) p) ≡ Ok z → Stand p (ws ∷ []) z.1
this_take ws p z e =
    let l = line_takes (this_by (spaced ws)) p z.0 z.1 (formed_ok (line_by (this_by (spaced ws)) p) z e) in
    as_words (this_by (spaced ws)) p z.0 z.1 l ws (this_is (spaced ws) l.text z.0 l.read)

pub this_line : (ws : List (List ℕ)) (p q : Position) → Stand p (ws ∷ []) q → formed (line_by (this_by (spaced ws)) p) ≡ Ok (tt, q)
this_line ws p q h = ap formed (line_again (this_by (spaced ws)) p q (spaced ws) tt (this_again (spaced ws)) h)

numbered_take : WordLaws → (name : List ℕ) (least most n : ℕ) (ws : List (List ℕ)) → most < 2 ^ 64 → numbered_in name least most ws ≡ Some n → (ws ≡ numbered name n) × (least ≤ n) × (n ≤ most)
unfolding numbered_in
numbered_take k name least most n ws room e =
    let w = bind_some (word_at name ws) _ n e in
    let d = bind_some (dec_at most w.0.1) _ n w.2 in
    let last = cond_some (nat_le least d.0.0 && is_over d.0.1) d.0.0 n d.2 in
    let tests = and_parts (nat_le least d.0.0) (is_over d.0.1) last.0 in
    let t = dec_take k most w.0.1 d.0 room d.1 in
    let P : ℕ → Type 0 = λ y. (ws ≡ numbered name y) × (least ≤ y) × (y ≤ most) in
    subst P last.1 (
      word_take name ws w.0 w.1 ∙ ap (λ (xs : List (List ℕ)). name ∷ xs) (t.0 ∙ ap (λ (xs : List (List ℕ)). decimal d.0.0 ∷ xs) (no_words d.0.1 tests.1)),
      at_most_from_test least d.0.0 tests.0,
      t.1,
    )

pub numbered_again : WordLaws → (name : List ℕ) (least most n : ℕ) → most < 2 ^ 64 → least ≤ n → n ≤ most → numbered_in name least most (numbered name n) ≡ Some n
unfolding numbered_in
numbered_again k name least most n room large h = let t = k.dec_taken most n [] room h in rw (same_text name, t, test_from_at_most least n large) refl

pub number_take : WordLaws → (name : List ℕ) (least most : ℕ) (p : Position) (z : ℕ × Position) → most < 2 ^ 64 → formed (line_by (numbered_by name least most) p) ≡ Ok z
    → Stand p (numbered name z.0 ∷ []) z.1 × (least ≤ z.0) × (z.0 ≤ most)
number_take k name least most p z room e =
    let l = line_takes (numbered_by name least most) p z.0 z.1 (formed_ok (line_by (numbered_by name least most) p) z e) in
    let t = numbered_take k name least most z.0 (words_of l.text) room l.read in
    (as_words (numbered_by name least most) p z.0 z.1 l (numbered name z.0) (sym (k.line_words l.text) ∙ ap spaced t.0), t.1, t.2)

pub number_line : WordLaws → (name : List ℕ) (least most n : ℕ) (p q : Position) → IsWord name → most < 2 ^ 64 → least ≤ n → n ≤ most → Stand p (numbered name n ∷ []) q → formed (line_by (numbered_by name least most) p) ≡ Ok (n, q)
number_line k name least most n p q word room large small h =
    ap formed (line_again (numbered_by name least most) p q (spaced (numbered name n)) n
    (ap (numbered_in name least most) (k.words_stand name (decimal n ∷ []) (numbered_plain k name n word (omega (arith, small, room)))) ∙ numbered_again k name least most n room large small) h)

-- ---- how many nodes there are

counted_is : (r : Result ℕ DigitFault) (n : ℕ) → counted r ≡ Some (Some n) → r ≡ Ok n
counted_is (Ok m) n e = let same : m ≡ n = cc in ap (λ (x : ℕ). Ok x) same
counted_is (Err TooGreat) n e = cc
counted_is (Err (WrongLength m)) n e = cc
counted_is (Err (BadDigit m)) n e = cc

count_at_take : WordLaws → (ws : List (List ℕ)) (n : ℕ) → count_at ws ≡ Some (Some n) → (ws ≡ decimal n ∷ []) × (n ≤ most_nodes)
count_at_take k [] n e = absurd (none-some (Some n) e)
count_at_take k (w ∷ ws) n e = elim (chosen (is_over ws) _ _ (Some (Some n)) e) [
  | inl h ↦
      let t = k.dec_takes most_nodes n (w ∷ []) [] (lit< tt) (ap (λ (r : Result ℕ DigitFault). number_and r []) (counted_is (dec_answer w most_nodes) n h.1)) in
      (ap (λ (xs : List (List ℕ)). w ∷ xs) (no_words ws h.0) ∙ t.0, t.1)
  | inr h ↦ absurd (none-some (Some n) h.1)
]

count_take : WordLaws → (ws : List (List ℕ)) (n : ℕ) → count_in ws ≡ Some (Some n) → (ws ≡ numbered (codes "nodes") n) × (n ≤ most_nodes)
unfolding count_in
count_take k ws n e =
    let w = bind_some (word_at (codes "nodes") ws) _ (Some n) e in
    let t = count_at_take k w.0.1 n w.2 in
    (word_take (codes "nodes") ws w.0 w.1 ∙ ap (λ (xs : List (List ℕ)). codes "nodes" ∷ xs) t.0, t.1)

count_again : WordLaws → (n : ℕ) → n ≤ most_nodes → count_in (numbered (codes "nodes") n) ≡ Some (Some n)
unfolding count_in
count_again k n h = let t = number_of (dec_answer (decimal n) most_nodes) n (k.dec_taken most_nodes n [] (lit< tt) h) in rw t refl

limited_ok : (d : Result (Option ℕ × Position) CertFault) (z : ℕ × Position) → limited d ≡ Ok z → d ≡ Ok (Some z.0, z.1)
limited_ok (Ok (Some n, q)) z e = ap (λ (y : ℕ × Position). Ok (Some y.0, y.1)) (ok_is {A = ℕ × Position} (n, q) z e)
limited_ok (Ok (None, q)) z e = absurd (err_ok _ z e)
limited_ok (Err f) z e = absurd (err_ok f z e)

pub nodes_take : WordLaws → (p : Position) (z : ℕ × Position) → limited (formed (line_by count_by p)) ≡ Ok z → Stand p (numbered (codes "nodes") z.0 ∷ []) z.1 × (z.0 ≤ most_nodes)
nodes_take k p z e =
    let l = line_takes count_by p (Some z.0) z.1 (formed_ok (line_by count_by p) (Some z.0, z.1) (limited_ok (formed (line_by count_by p)) z e)) in
    let t = count_take k (words_of l.text) z.0 l.read in
    (as_words count_by p (Some z.0) z.1 l (numbered (codes "nodes") z.0) (sym (k.line_words l.text) ∙ ap spaced t.0), t.1)

pub nodes_line : WordLaws → (n : ℕ) (p q : Position) → n ≤ most_nodes → Stand p (numbered (codes "nodes") n ∷ []) q → limited (formed (line_by count_by p)) ≡ Ok (n, q)
nodes_line k n p q small h =
    ap (λ (d : Result (Option ℕ × Position) Position). limited (formed d)) (line_again count_by p q (spaced (numbered (codes "nodes") n)) (Some n)
    (ap count_in (k.words_stand (codes "nodes") (decimal n ∷ []) (numbered_plain k (codes "nodes") n (plain (codes "nodes" ∷ []) refl).0 (omega (arith, small)))) ∙ count_again k n small) h)

-- ---- a list

pub record ListPart {A : Type 0} (name : List ℕ) (most : ℕ) (words : A → List (List ℕ)) (P : ℕ → A → Type 0) (refused : List A → A → ℕ → Option CertFault) (p : Position) (z : List A × Position) : Type 0 where
  pub fit : Admitted P refused [] z.0
  pub few : length z.0 ≤ most
  pub lines : Stand p (numbered name (length z.0) ∷ map words z.0) z.1

pub list_take : {A : Type 0} (by : ℕ → List ℕ → Option A) (words : A → List (List ℕ)) (P : ℕ → A → Type 0) (refused : List A → A → ℕ → Option CertFault) → Spells by words P → Steady refused
    → (name : List ℕ) (most n : ℕ) (p m : Position) (z : List A × Position) → Stand p (numbered name n ∷ []) m → n ≤ most → items_from by refused [] n m ≡ Ok z → ListPart name most words P refused p z
list_take {A} by words P refused spells steady name most n p m z count small e =
    let r = items_take by words P refused spells steady [] n m z e in
    let Q : ℕ → Type 0 = λ i. Stand p (numbered name i ∷ []) m in
    let R : List A → Type 0 = λ xs. Admitted P refused [] xs × (length xs ≤ most) × Stand p (numbered name (length xs) ∷ map words xs) z.1 in
    let t = subst R r.all (r.fit, omega (arith, r.number, small), passes_more p m z.1 (whole (numbered name (length r.items)) ∷ []) (map whole (map words r.items)) (subst Q (sym r.number) count) r.passes) in
    record { fit = t.0; few = t.1; lines = t.2 }

pub list_again : {A : Type 0} (by : ℕ → List ℕ → Option A) (words : A → List (List ℕ)) (P : ℕ → A → Type 0) (refused : List A → A → ℕ → Option CertFault) → Reads by words P
    → (name : List ℕ) (xs : List A) (p q : Position) → length xs ≤ 65536 → Admitted P refused [] xs → Stand p (numbered name (length xs) ∷ map words xs) q → (m : Position) × Stand p (numbered name (length xs) ∷ []) m × (items_from by refused [] (length xs) m ≡ Ok (xs, q))
list_again by words P refused reads name xs p q few fit h =
    let s = passes_split p q (whole (numbered name (length xs))) (map whole (map words xs)) h in
    (s.0, s.1, items_again by words P refused reads [] xs (length xs) s.0 q (omega (arith, few)) fit refl s.2)

-- ---- the version

-- the first line of a text that says its device or not, with RAMPZ or without
abbrev pub first_line : Bool → Bool → Version → List (List ℕ)
first_line says banked version = codes "stackcert" ∷ version_word says banked version ∷ []

own_is : (banked : Bool) (t : List ℕ) (version : Version) → version_by false banked t ≡ Some version → t ≡ spaced (first_line false banked version)
unfolding version_by
own_is banked t version e =
    let P : Version → Type 0 = λ x. t ≡ spaced (first_line false banked x) in
    elim (chosen (bytes_eq t (spaced (first_line false banked One))) _ _ (Some version) e) [
      | inl h ↦ subst P (same_Some One version h.1) ((bytes_eq-Decides t (spaced (first_line false banked One))).0 h.0)
      | inr h ↦ elim (chosen (bytes_eq t (spaced (first_line false banked Two))) _ _ (Some version) h.1) [
        | inl f ↦ subst P (same_Some Two version f.1) ((bytes_eq-Decides t (spaced (first_line false banked Two))).0 f.0)
        | inr f ↦ let g = cond_some (bytes_eq t (spaced (first_line false banked Three))) Three version f.1 in subst P g.1 ((bytes_eq-Decides t (spaced (first_line false banked Three))).0 g.0)
      ]
    ]

version_is : (says banked : Bool) (t : List ℕ) (version : Version) → version_by says banked t ≡ Some version → t ≡ spaced (first_line says banked version)
unfolding version_by
version_is true true t version e =
    let g = cond_some (bytes_eq t (spaced (first_line true true Two))) Two version e in
    (bytes_eq-Decides t (spaced (first_line true true Two))).0 g.0
version_is true false t version e =
    let g = cond_some (bytes_eq t (spaced (first_line true false Two))) Two version e in
    (bytes_eq-Decides t (spaced (first_line true false Two))).0 g.0
version_is false banked t version e = own_is banked t version e

-- where the text says its device
later_by : (says banked : Bool) (t : List ℕ) (version : Version) → version_by says banked t ≡ Some version → says ≡ true → version ≡ Two
unfolding version_by
later_by true true t version e h = sym (cond_some (bytes_eq t (spaced (first_line true true Two))) Two version e).1
later_by true false t version e h = sym (cond_some (bytes_eq t (spaced (first_line true false Two))) Two version e).1
later_by false banked t version e h = absurd (false≢true h)

pub version_again : (says banked : Bool) (version : Version) → version_by says banked (spaced (first_line says banked version)) ≡ Some (version_read says version)
unfolding version_by
version_again true true version = refl
version_again true false version = refl
version_again false banked One = refl
version_again false banked Two = refl
version_again false banked Three = refl

pub version_take : (says banked : Bool) (p : Position) (z : Version × Position) → formed (line_by (version_by says banked) p) ≡ Ok z → Stand p (first_line says banked z.0 ∷ []) z.1 × (says ≡ true → z.0 ≡ Two)
version_take says banked p z e =
    let l = line_takes (version_by says banked) p z.0 z.1 (formed_ok (line_by (version_by says banked) p) z e) in
    (as_words (version_by says banked) p z.0 z.1 l (first_line says banked z.0) (version_is says banked l.text z.0 l.read), later_by says banked l.text z.0 l.read)

pub version_plain : (says banked : Bool) (version : Version) → AllByRecursion IsWord (first_line says banked version)
version_plain true true version = plain (first_line true true version) refl
version_plain true false version = plain (first_line true false version) refl
version_plain false banked One = plain (first_line false banked One) refl
version_plain false banked Two = plain (first_line false banked Two) refl
version_plain false banked Three = plain (first_line false banked Three) refl

-- ---- the device

-- the name of this device, or of another one that has a name in texts
pub other_is : (device : Device) (name : List ℕ) (o : Option Device) → other_by device name ≡ Some o
    → ((o ≡ None) × (name ≡ class_of device)) ⊎ ((other : Device) × (o ≡ Some other) × (device_of_class name ≡ Some other) × (name ≢ class_of device))
unfolding other_by
other_is device name o e = elim (chosen (bytes_eq name (class_of device)) _ _ (Some o) e) [
  | inl h ↦ inl (sym (same_Some None o h.1), (bytes_eq-Decides name (class_of device)).0 h.0)
  | inr h ↦
      let t = map_some (device_of_class name) (λ (d : Device). Some d) o h.1 in
      inr (t.0, sym t.2, t.1, λ same. false≢true (sym h.0 ∙ (bytes_eq-Decides name (class_of device)).1 same))
]

pub device_is : (device : Device) (ws : List (List ℕ)) (o : Option Device) → device_in device ws ≡ Some o → (name : List ℕ) × (ws ≡ device_line name) × (other_by device name ≡ Some o)
unfolding device_in
device_is device ws o e =
    let w = bind_some (word_at (codes "device") ws) _ o e in
    let d = bind_some (word_by (other_by device) w.0.1) _ o w.2 in
    let last = cond_some (is_over d.0.1) d.0.0 o d.2 in
    let t = word_by_take (other_by device) w.0.1 d.0 d.1 in (
      t.0,
      word_take (codes "device") ws w.0 w.1 ∙ ap (λ (xs : List (List ℕ)). codes "device" ∷ xs) (t.1 ∙ ap (λ (xs : List (List ℕ)). t.0 ∷ xs) (no_words d.0.1 last.0)),
      t.2 ∙ ap (λ (x : Option Device). Some x) last.1,
    )

pub device_reads : (device : Device) (name : List ℕ) (o : Option Device) → other_by device name ≡ Some o → device_in device (device_line name) ≡ Some o
unfolding device_in
device_reads device name o e = rw e refl

-- this device's name
own_name : (device : Device) → other_by device (class_of device) ≡ Some None
unfolding other_by
own_name device = rw (same_text (class_of device)) refl

pub decided : (b : Bool) → (b ≡ true) ⊎ (b ≡ false)
decided true = inl refl
decided false = inr refl

-- another device's name
pub other_name : (device other : Device) (name : List ℕ) → device_of_class name ≡ Some other → (o : Option Device) × (other_by device name ≡ Some o)
unfolding other_by
other_name device other name e = elim (decided (bytes_eq name (class_of device))) [
  | inl h ↦ (None, rw h refl)
  | inr h ↦ (Some other, rw (h, e) refl)
]

-- a name in texts is one word
pub named_word : (other : Device) (name : List ℕ) → device_of_class name ≡ Some other → IsWord name
named_word other name e = subst IsWord (class_named other name e) (class_word other)

pub name_words : (name : List ℕ) → IsWord name → AllByRecursion IsWord (device_line name)
name_words name h = ((plain (codes "device" ∷ []) refl).0, (h, tt))

for_this_ok : (d : Result (Option Device × Position) CertFault) (z : Unit {0} × Position) → for_this d ≡ Ok z → d ≡ Ok (None, z.1)
for_this_ok (Ok (None, q)) z e = ap (λ (y : Unit {0} × Position). Ok (None, y.1)) (ok_is {A = Unit {0} × Position} (tt, q) z e)
for_this_ok (Ok (Some other, q)) z e = absurd (err_ok _ z e)
for_this_ok (Err f) z e = absurd (err_ok f z e)

pub device_take : WordLaws → (says : Bool) (device : Device) (p : Position) (z : Unit {0} × Position) → device_at says device p ≡ Ok z → Stand p (device_lines says device) z.1
unfolding device_at
device_take k true device p z e =
    let l = line_takes (device_by device) p None z.1 (formed_ok (line_by (device_by device) p) (None, z.1) (for_this_ok (formed (line_by (device_by device) p)) z e)) in
    let t = device_is device (words_of l.text) None l.read in
    let own : t.0 ≡ class_of device = elim (other_is device t.0 None t.2) [
      | inl h ↦ h.1
      | inr h ↦ absurd (none-some h.0 h.1)
    ] in
    as_words (device_by device) p None z.1 l (device_line (class_of device)) (sym (k.line_words l.text) ∙ ap spaced (t.1 ∙ ap device_line own))
device_take k false device p z e = let P : Unit {0} × Position → Type 0 = λ y. Stand p [] y.1 in subst P (ok_is {A = Unit {0} × Position} (tt, p) z e) (passes_none p)

device_again : WordLaws → (says : Bool) (device : Device) (p q : Position) → Stand p (device_lines says device) q → device_at says device p ≡ Ok (tt, q)
unfolding device_at
device_again k true device p q h =
    let name = class_of device in
    ap (λ (d : Result (Option Device × Position) Position). for_this (formed d)) (line_again (device_by device) p q (spaced (device_line name)) None
    (ap (device_in device) (k.words_stand (codes "device") (name ∷ []) (name_words name (class_word device))) ∙ device_reads device name None (own_name device)) h)
device_again k false device p q h = ap (λ (r : Position). Ok (tt, r)) (passes_end p q h)

-- ---- the heading

pub record HeadingPart (device : Device) (p : Position) (z : (Version × ℕ) × Position) : Type 0 where
  pub lines : Stand p (heading device z.0.0 z.0.1) z.1
  pub small : z.0.1 ≤ depth_of device
  pub later : says_device device ≡ true → z.0.0 ≡ Two

pub heading_take : (device : Device) → WordLaws → (p : Position) (z : (Version × ℕ) × Position) → heading_at device p ≡ Ok z → HeadingPart device p z
unfolding heading_at
heading_take device k p z e =
    let says = says_device device in
    let banked = has_elpm device in
    let v = then_ok (formed (line_by (version_by says banked) p)) _ z e in
    let d = then_ok (device_at says device v.0.1) _ z v.2 in
    let n = then_ok (formed (line_by (numbered_by (codes "bound") 0 (depth_of device)) d.0.1)) _ z d.2 in
    let b = number_take k (codes "bound") 0 (depth_of device) d.0.1 n.0 (depth_room device) n.1 in
    let first = version_take says banked p v.0 v.1 in
    let second = stand_more v.0.1 d.0.1 n.0.1 (device_lines says device) (numbered (codes "bound") n.0.0 ∷ []) (device_take k says device v.0.1 d.0 d.1) b.0 in
    let P : (Version × ℕ) × Position → Type 0 = λ y. HeadingPart device p y in
    subst P (ok_is {A = (Version × ℕ) × Position} ((v.0.0, n.0.0), n.0.1) z n.2) (record {
      lines = stand_more p v.0.1 n.0.1 (version_line device v.0.0 ∷ []) (device_lines says device ++ numbered (codes "bound") n.0.0 ∷ []) first.0 second;
      small = b.2;
      later = first.1;
    })

pub heading_again : (device : Device) → WordLaws → (p : Position) (version : Version) (n : ℕ) (q : Position) → n ≤ depth_of device → Stand p (heading device version n) q → heading_at device p ≡ Ok ((version_read (says_device device) version, n), q)
unfolding heading_at
heading_again device k p version n q small h =
    let says = says_device device in
    let last : List (List (List ℕ)) = numbered (codes "bound") n ∷ [] in
    let banked = has_elpm device in
    let s = stand_cut p q (version_line device version ∷ []) (device_lines says device ++ last) h in
    let t = stand_cut s.0 q (device_lines says device) last s.2 in
    let first : formed (line_by (version_by says banked) p) ≡ Ok (version_read says version, s.0) =
    ap formed (line_again (version_by says banked) p s.0 (spaced (version_line device version)) (version_read says version) (version_again says banked version) s.1) in
    let second = device_again k says device s.0 t.0 t.1 in
    let third = number_line k (codes "bound") 0 (depth_of device) n t.0 q (plain (codes "bound" ∷ []) refl).0 (depth_room device) (omega arith) small t.2 in
    rw (first, second, third) refl

-- ---- the schedule

abbrev pub ending_words : Bool → List (List ℕ)
ending_words false = open_line
ending_words true = attained_line

pub ending_is : (t : List ℕ) (b : Bool) → ending_by t ≡ Some b → t ≡ spaced (ending_words b)
unfolding ending_by
ending_is t b e =
    let P : Bool → Type 0 = λ x. t ≡ spaced (ending_words x) in
    elim (chosen (bytes_eq t (spaced open_line)) _ _ (Some b) e) [
      | inl h ↦ subst P (same_Some false b h.1) ((bytes_eq-Decides t (spaced open_line)).0 h.0)
      | inr h ↦ let g = cond_some (bytes_eq t (spaced attained_line)) true b h.1 in subst P g.1 ((bytes_eq-Decides t (spaced attained_line)).0 g.0)
    ]

pub ending_again : (b : Bool) → ending_by (spaced (ending_words b)) ≡ Some b
unfolding ending_by
ending_again false = refl
ending_again true = refl

pub record WitnessPart (device : Device) (p : Position) (z : Option Plan × Position) : Type 0 where
  pub schedule : IfSome z.0 (IsSchedule device)
  pub lines : Stand p (witness_lines z.0) z.1

plan_take : (device : Device) → ScheduleIsSpelled → (b : Bool) (p m : Position) (z : Option Plan × Position) → Stand p (ending_words b ∷ []) m → plan_if device b m ≡ Ok z → WitnessPart device p z
plan_take device read false p m z h e =
    let P : Option Plan × Position → Type 0 = λ y. WitnessPart device p y in
    subst P (ok_is {A = Option Plan × Position} (None, m) z e) (record { schedule = tt; lines = h })
plan_take device read true p m z h e =
    let s = then_ok (formed (schedule_at device m)) _ z e in
    let r = read device m s.0.0 s.0.1 (formed_ok (schedule_at device m) s.0 s.1) in
    let P : Option Plan × Position → Type 0 = λ y. WitnessPart device p y in
    subst P (ok_is {A = Option Plan × Position} (Some s.0.0, s.0.1) z s.2) (record { schedule = r.fits; lines = passes_more p m s.0.1 (whole attained_line ∷ []) (map whole (schedule_lines s.0.0)) h r.lines })

pub witness_part : (device : Device) → ScheduleIsSpelled → (p : Position) (z : Option Plan × Position) → witness_at device p ≡ Ok z → WitnessPart device p z
unfolding witness_at
witness_part device read p z e =
    let b = then_ok (formed (line_by ending_by p)) _ z e in
    let l = line_takes ending_by p b.0.0 b.0.1 (formed_ok (line_by ending_by p) b.0 b.1) in
    plan_take device read b.0.0 p b.0.1 z (as_words ending_by p b.0.0 b.0.1 l (ending_words b.0.0) (ending_is l.text b.0.0 l.read)) b.2

-- a witness that is read from a text, and the rest of the text
pub witness_again : (device : Device) → WordLaws → TextIsReading → ScheduleIsRead → (w : Option Plan) (at : ℕ) (text : List ℕ) → IfSome w (IsSchedule device)
    → (behind : ℕ) × (witness_at device (before at (flat_map line (witness_lines w) ++ text)) ≡ Ok (w, before behind text))
unfolding witness_at
witness_again device k reads read None at text h =
    let p = before at (flat_map line (open_line ∷ []) ++ text) in
    let q = before (at + length (flat_map line (open_line ∷ []))) text in
    let e = line_again ending_by p q (spaced open_line) false (ending_again false) (stand k (open_line ∷ []) at text (plain open_line refl, tt)) in
    (q.at, rw e refl)
witness_again device k reads read (Some plan) at text h =
    let all : List ℕ = schedule_text plan ++ text in
    let p = before at (flat_map line (attained_line ∷ []) ++ all) in
    let m = before (at + length (flat_map line (attained_line ∷ []))) all in
    let q = before (m.at + length (schedule_text plan)) text in
    let e = line_again ending_by p m (spaced attained_line) true (ending_again true) (stand k (attained_line ∷ []) at all (plain attained_line refl, tt)) in
    let r = reads device m plan q (k.are_lines all) (k.are_lines text) (record { fits = h; bytes = k.text_joined all ∙ ap (λ (xs : List ℕ). schedule_text plan ++ xs) (sym (k.text_joined text)); offset = refl }) in
    let s = read device m plan q r in
    (q.at, rw (e, s) refl)

-- ---- the end

last_is : (ls : List TextLine) (p : Position) (z : Unit {0} × Position) → if_last ls p ≡ Ok z → (ls ≡ []) × (p ≡ z.1)
last_is [] p z e = (refl, ap (λ (y : Unit {0} × Position). y.1) (ok_is {A = Unit {0} × Position} (tt, p) z e))
last_is (l ∷ ls) p z e = absurd (err_ok {A = Unit {0} × Position} (fault.Malformed p.at) z e)

pub record EndPart (p q : Position) : Type 0 where
  pub lines : Stand p (end_line ∷ []) q
  pub over : q.rest ≡ []

pub end_part : (p : Position) (z : Unit {0} × Position) → end_at p ≡ Ok z → EndPart p z.1
unfolding end_at
end_part p z e =
    let a = then_ok (formed (line_by (this_by (spaced end_line)) p)) _ z e in
    let last = last_is a.0.1.rest a.0.1 z a.2 in
    let P : Position → Type 0 = λ y. EndPart p y in
    subst P last.1 (record { lines = this_take end_line p a.0 a.1; over = last.0 })

pub end_again : WordLaws → (at : ℕ) → (behind : ℕ) × (end_at (before at (flat_map line (end_line ∷ []))) ≡ Ok (tt, before behind []))
unfolding end_at
end_again k at =
    let e = this_line end_line (before at (flat_map line (end_line ∷ []))) (before (at + length (flat_map line (end_line ∷ []))) []) (stand k (end_line ∷ []) at [] (plain end_line refl, tt)) in
    (at + length (flat_map line (end_line ∷ [])), rw e refl)
