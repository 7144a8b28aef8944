-- Each refusal is due: the text before it begins a certificate, and the line there has the reason.
use Rattle.std.proofs.Common.{◌-◌, length-append, ℕ, ◌+◌, ◌<◌, ◌≤◌, ◌^◌, ◌≡◌, ◌||◌, List, [], ◌∷◌, ◌++◌, length, map, codes, Bool, true, false, refl, ap, sym, ◌∙◌, arith, Option, Some, None, Result, Ok, Err, ◌⊎◌, inl, inr, cond, subst, lit<, nat_le}
use Rattle.std.specs.Prelude.{◌≢◌, ⊤}
use Rattle.std.specs.List.{AllByRecursion}
use Rattle.std.specs.List.Sorted.{IsStrictlySortedBy}
use Rattle.std.specs.Fmt.{decimal}
use Rattle.std.proofs.lemmas.Bool.Decides.{nat_tests}
use Rattle.std.proofs.lemmas.Bool.{false≢true}
use Rattle.std.proofs.lemmas.List.{map-append}
use Rattle.std.proofs.lemmas.Option.{none-some, same_Some}
use Rattle.witness_replay.proofs.Exact.{as_words}
use Rattle.avr_model.specs.declared.assumption.Entry.{Entry}
use Rattle.avr_model.specs.declared.assumption.Entry.TheVariants.{Pairs}
use Rattle.avr_model.specs.Assumptions.{has_pairs}
use Rattle.avr_model.specs.declared.device.Device.{Device}
use Rattle.avr_model.specs.Devices.{depth_of, has_elpm}
use Rattle.avr_model.specs.Names.{class_of}
use Rattle.text_base.specs.Answers.{Answers}
use Rattle.text_base.specs.Lines.{TextLine, Position, words_of, spaced}
use Rattle.line_reading.specs.Reading.{first_by, this_by, line_by}
use Rattle.line_reading.specs.Words.{IsWord, whole, Passes, WordLaws}
use Rattle.line_reading.proofs.AllLaws.{passes_none, passes_more, line_takes}
use Rattle.vector_table.specs.Entries.{is_above_last, most_entries}
use Rattle.assumption_files.specs.Exact.{AreEntriesOf}
use Rattle.assumption_files.specs.Spelling.{entry_words}
use Rattle.node_keys.specs.declared.keys.NodeKey.{NodeKey}
use Rattle.node_keys.specs.declared.keys.InstKey.{InstKey}
use Rattle.node_keys.specs.Keys.{offset_of}
use Rattle.node_keys.specs.Order.{inst_cmp, node_cmp}
use Rattle.edge_rules.specs.declared.seeded.NodeForm.{NodeForm}
use Rattle.edge_rules.specs.Expansion.{Seeds}
use Rattle.witness_replay.specs.Spelling.{Plan}
use Rattle.witness_replay.specs.Reading.{schedule_at}
use Rattle.witness_replay.specs.Exact.{RefusedScheduleIsStuck}
use Rattle.certificate.specs.declared.instance.Inst.{Inst}
use Rattle.certificate.specs.declared.version.Version.{Version}
use Rattle.certificate.specs.declared.version.Version.TheVariants.{One, Two, Three}
use Rattle.certificate.specs.Versions.{is_first, is_third, says_device}
use Rattle.certificate.specs.Insts.{IsInst, inst_keys}
use Rattle.certificate.specs.Claims.{Claim, IsClaim, IsCertificate, most_instances, most_nodes, most_cells, cells_of, seed_keys}
use Rattle.cert_words.specs.Text.{numbered, version_line, device_lines, heading, entry_lines, inst_lines, node_lines, inst_words, node_words, open_line, attained_line, witness_lines, end_line, front_lines}
use Rattle.cert_format.specs.declared.fault.CertFault.{CertFault}
use Rattle.cert_format.specs.declared.fault.CertFault.TheVariants as fault
use Rattle.certificate.specs.declared.limit.Limit.{Limit}
use Rattle.certificate.specs.declared.limit.Limit.TheVariants as limit
use Rattle.cert_format.specs.Reading.{entry_by, inst_by, node_by, numbered_in, numbered_by, count_in, count_by, version_by, device_in, device_by, for_this, device_at, is_admitted, is_paired, version_with, ending_by, formed, limited, last_in, is_inst_above, is_node_above, refused_entry, refused_inst, refused_node, heading_at, least_entries, first_at, entries_at, insts_at, nodes_at, plan_if, witness_at, if_last, end_at, claim_at, claim_alone, certificate_in}
use Rattle.cert_format.specs.Refusals.{CertPart, Begin, Named, IsNaming, Bound, Assume, FirstEntry, AnEntry, Instances, AnInst, Nodes, ANode, Ending, End, Nothing, StandsBefore, IsNextLine, IsNumbered, IsNodesLine, IsLow, IsTooMuch, IsStopped, IsCertificateRefused, IsCertificateDue, IsCertificateDueUnlessMemory, ReadCertificateIsDue, start}
use Rattle.cert_words.proofs.AllLaws.{depth_room}
use Rattle.cert_format.proofs.Numbers.{decimal_word, nodes_count, too_many}
use Rattle.cert_format.proofs.Lists.{err_ok, formed_ok, AllFrom, all_of_any, admitted_all, sorted_at, sorted_push, lines}
use Rattle.cert_format.proofs.Items.{cells_more}
use Rattle.cert_format.proofs.FirstEntries.{version_read, firsts, firsts_count, firsts_mode, firsts_are, with_later}
use Rattle.cert_format.proofs.Kept.{EntryOf, entry_steady, entry_spells, entry_reads, AnyInst, inst_steady, insts_kept, inst_spells, inst_reads, inst_above_is, FitsNode, node_steady, NodesKeep, nodes_kept, node_spells, node_reads, node_above_is, keys_append}
use Rattle.cert_format.proofs.Parts.{Stand, first_line, stand_more, plain, numbered_again, numbered_plain, number_take, nodes_take, this_again, this_take, version_again, version_take, decided, other_is, device_is, device_reads, other_name, name_words, named_word, device_take, heading_take, witness_part, ending_again, ending_words, ending_is}
use Rattle.cert_format.proofs.Stops.{err_is, then_stop, formed_err, line_stop, not_next, is_next, Stop, ItemRefused, ItemsStop, items_stop}
use Rattle.cert_format.proofs.Whole.{LowerLaws, first_take, same_line, some_keep, some_mode, some_stand, entries_take, insts_take, nodes_part, claim_of, fitting_nodes, read_is_spelled}

-- ---- claims of the parts that are read

no_insts : IsStrictlySortedBy inst_cmp (inst_keys [])
unfolding IsStrictlySortedBy
no_insts = tt

no_nodes : NodesKeep []
unfolding IsStrictlySortedBy cells_of
no_nodes = record { ascend = tt; few = omega arith }

abbrev claim_to : Device → Version → ℕ → List Entry → List Inst → Seeds → Option Plan → Claim
claim_to device version n es xs ns w = record { device = device; version = version; bound = n; assumptions = es; instances = xs; nodes = ns; witness = w }

certificate_of : (device : Device) (version : Version) (n : ℕ) (es : List Entry) (xs : List Inst) (ns : Seeds) → n ≤ depth_of device → AreEntriesOf device es → is_third version ≡ has_pairs es → (says_device device ≡ true → is_first version ≡ false) → AllByRecursion (IsInst device) xs → IsStrictlySortedBy inst_cmp (inst_keys xs) → length xs ≤ most_instances
    → AllFrom (FitsNode device version xs) 0 ns → NodesKeep ns → length ns ≤ most_nodes → IsCertificate (claim_to device version n es xs ns None)
certificate_of device version n es xs ns small he mode later hx ax few hn kn most = record { claim = claim_of device version n es xs ns None small he mode later hx ax few hn kn most; schedule = tt }

with_entries : (device : Device) (version : Version) (n : ℕ) (es : List Entry) → n ≤ depth_of device → AreEntriesOf device es → is_third version ≡ has_pairs es → (says_device device ≡ true → is_first version ≡ false) → IsCertificate (claim_to device version n es [] [] None)
with_entries device version n es small h mode later = certificate_of device version n es [] [] small h mode later tt no_insts (omega arith) tt no_nodes (omega arith)

-- the bound, and the first entries of the version
bound_only : (device : Device) (version : Version) (n : ℕ) → n ≤ depth_of device → (says_device device ≡ true → is_first version ≡ false) → IsCertificate (claim_to device version n (firsts version) [] [] None)
bound_only device version n small later = with_entries device version n (firsts version) small (firsts_are device version) (firsts_mode version) later

with_insts : (device : Device) (version : Version) (n : ℕ) (es : List Entry) (xs : List Inst) → n ≤ depth_of device → AreEntriesOf device es → is_third version ≡ has_pairs es → (says_device device ≡ true → is_first version ≡ false) → AllByRecursion (IsInst device) xs → IsStrictlySortedBy inst_cmp (inst_keys xs) → length xs ≤ most_instances
    → IsCertificate (claim_to device version n es xs [] None)
with_insts device version n es xs small h mode later hx ax few = certificate_of device version n es xs [] small h mode later hx ax few tt no_nodes (omega arith)

-- the version by the assumptions, where these decide it

settled_heading : (device : Device) (version : Version) (n : ℕ) (es : List Entry) (p q : Position) → Stand p (heading device version n) q → Stand p (heading device (version_with (says_device device) version es) n) q
settled_heading device version n es p q h =
    let P : List (List ℕ) → Type 0 = λ l. Stand p (l ∷ (device_lines (says_device device) device ++ numbered (codes "bound") n ∷ [])) q in
    subst P (same_line (says_device device) (has_elpm device) version es) h

paired_settled : (says : Bool) (version : Version) (es : List Entry) → (says || is_third version) ≡ (says || is_third (version_with says version es))
paired_settled true version es = refl
paired_settled false version es = refl

-- ---- a line that isn't of its form

malformed : (device : Device) (p : Position) (c : Claim) (part : CertPart) (q : Position) (g : CertFault) → StandsBefore device p c part q → IsStopped c part q.rest → g ≡ fault.Malformed q.at → IsCertificateRefused device p g
malformed device p c part q g h stop e =
    let P : CertFault → Type 0 = λ f. IsCertificateRefused device p f in
    subst P (sym e) (q, refl, inl (record { claim = c; part = part; stands = h; stop = stop }))

numbered_reads : WordLaws → (name : List ℕ) (least most : ℕ) (ws : List (List ℕ)) → IsWord name → most < 2 ^ 64 → IsNumbered name least most ws → (n : ℕ) × (numbered_by name least most (spaced ws) ≡ Some n)
numbered_reads k name least most ws word room h = (
  h.0,
  ap (λ (xs : List (List ℕ)). numbered_in name least most (words_of (spaced xs))) h.3 ∙ ap (numbered_in name least most) (k.words_stand name (decimal h.0 ∷ []) (numbered_plain k name h.0 word (omega (arith, h.2, room))))
      ∙ numbered_again k name least most h.0 room h.1 h.2,
)

no_number : WordLaws → (name : List ℕ) (least most : ℕ) (ls : List TextLine) → IsWord name → most < 2 ^ 64 → first_by (numbered_by name least most) ls ≡ None → (ws : List (List ℕ)) → IsNextLine ls ws → IsNumbered name least most ws → ⊥
no_number k name least most ls word room none ws next h = let t = numbered_reads k name least most ws word room h in not_next (numbered_by name least most) ls ws t.0 none next t.1

no_this : (line : List (List ℕ)) (ls : List TextLine) → first_by (this_by (spaced line)) ls ≡ None → (ws : List (List ℕ)) → IsNextLine ls ws → ws ≡ line → ⊥
no_this line ls none ws next h = not_next (this_by (spaced line)) ls ws tt none next (ap (λ (xs : List (List ℕ)). this_by (spaced line) (spaced xs)) h ∙ this_again (spaced line))

-- ---- the heading

no_version : (says banked : Bool) (ls : List TextLine) → first_by (version_by says banked) ls ≡ None → (ws : List (List ℕ)) → IsNextLine ls ws → (version : Version) × (ws ≡ first_line says banked version) → ⊥
no_version says banked ls none ws next h =
    not_next (version_by says banked) ls ws (version_read says h.0) none next (ap (λ (xs : List (List ℕ)). version_by says banked (spaced xs)) h.1 ∙ version_again says banked h.0)

-- ---- the device

for_this_err : (d : Result (Option Device × Position) CertFault) (g : CertFault) → for_this d ≡ Err g → (d ≡ Err g) ⊎ ((q : Position) × (other : Device) × (d ≡ Ok (Some other, q)) × (g ≡ fault.Other other))
for_this_err (Ok (None, q)) g e = absurd (err_ok {A = Unit {0} × Position} g (tt, q) (sym e))
for_this_err (Ok (Some other, q)) g e = inr (q, other, refl, sym (err_is {A = Unit {0} × Position} (fault.Other other) g e))
for_this_err (Err f) g e = inl (ap (λ (x : CertFault). Err x) (err_is {A = Unit {0} × Position} f g e))

no_name : (device : Device) → WordLaws → (ls : List TextLine) → first_by (device_by device) ls ≡ None → (ws : List (List ℕ)) → IsNextLine ls ws → IsNaming (λ name other. ⊤) ws → ⊥
no_name device k ls none ws next h =
    let t = other_name device h.1 h.0 h.2 in
    not_next (device_by device) ls ws t.0 none next (ap (λ (xs : List (List ℕ)). device_by device (spaced xs)) h.3
    ∙ ap (device_in device) (k.words_stand (codes "device") (h.0 ∷ []) (name_words h.0 (named_word h.1 h.0 h.2))) ∙ device_reads device h.0 t.0 t.1)

-- where the text says its device, this claim stands before it
device_stops : (device : Device) → WordLaws → (says : Bool) → says_device device ≡ says → (version : Version) (p v : Position) (g : CertFault) → (says ≡ true → version ≡ Two) → Stand p (version_line device version ∷ []) v → device_at says device v ≡ Err g
    → IsCertificateRefused device p g
unfolding device_at
device_stops device k false is version p v g later lines e = absurd (err_ok {A = Unit {0} × Position} g (tt, v) (sym e))
device_stops device k true is version p v g later lines e =
    let P : CertFault → Type 0 = λ f. IsCertificateRefused device p f in
    let c = claim_to device version 0 (firsts version) [] [] None in
    let stands : StandsBefore device p c Named v = record { is = refl; fits = bound_only device version 0 (omega arith) (λ s. ap is_first (later refl)); room = is; lines = lines } in
    elim (for_this_err (formed (line_by (device_by device) v)) g e) [
      | inl f ↦ let t = line_stop (device_by device) v g f in malformed device p c Named v g stands (no_name device k v.rest t.0) t.1
      | inr m ↦
          let l = line_takes (device_by device) v (Some m.1) m.0 (formed_ok (line_by (device_by device) v) (Some m.1, m.0) m.2) in
          let t = device_is device (words_of l.text) (Some m.1) l.read in
          let names : IsNaming (λ name other. (other ≡ m.1) × (name ≢ class_of device)) (words_of l.text) = elim (other_is device t.0 (Some m.1) t.2) [
            | inl h ↦ absurd (none-some m.1 (sym h.0))
            | inr h ↦ (t.0, h.0, h.2, t.1, (sym (same_Some m.1 h.0 h.1), h.3))
          ] in
          subst P (sym m.3) (record {
            claim = c;
            position = v;
            words = words_of l.text;
            stands = stands;
            next = is_next v (words_of l.text) m.0 (as_words (device_by device) v (Some m.1) m.0 l (words_of l.text) (sym (k.line_words l.text)));
            names = names;
          })
    ]

-- ---- the heading

heading_stops : (device : Device) → WordLaws → (p : Position) (g : CertFault) → heading_at device p ≡ Err g → IsCertificateRefused device p g
unfolding heading_at
heading_stops device k p g e =
    let says = says_device device in
    let banked = has_elpm device in
    elim (then_stop (formed (line_by (version_by says banked) p)) _ g e) [
      | inl h ↦
          let t = line_stop (version_by says banked) p g h in
          malformed device p (claim_to device Two 0 [] [] [] None) Begin p g (record { is = refl; fits = bound_only device Two 0 (omega arith) (λ s. refl); room = tt; lines = passes_none p }) (no_version says banked p.rest t.0) t.1
      | inr v ↦
          let first = version_take says banked p v.0 v.1 in
          elim (then_stop (device_at says device v.0.1) _ g v.2) [
            | inl h ↦ device_stops device k says refl v.0.0 p v.0.1 g first.1 first.0 h
            | inr d ↦ elim (then_stop (formed (line_by (numbered_by (codes "bound") 0 (depth_of device)) d.0.1)) _ g d.2) [
              | inl h ↦
                  let t = line_stop (numbered_by (codes "bound") 0 (depth_of device)) d.0.1 g h in
                  malformed device p (claim_to device v.0.0 0 (firsts v.0.0) [] [] None) Bound d.0.1 g
                  (record {
                    is = refl;
                    fits = bound_only device v.0.0 0 (omega arith) (λ s. ap is_first (first.1 s));
                    room = tt;
                    lines = stand_more p v.0.1 d.0.1 (version_line device v.0.0 ∷ []) (device_lines says device) first.0 (device_take k says device v.0.1 d.0 d.1);
                  })
                  (no_number k (codes "bound") 0 (depth_of device) d.0.1.rest (plain (codes "bound" ∷ []) refl).0 (depth_room device) t.0) t.1
              | inr b ↦ absurd (err_ok {A = (Version × ℕ) × Position} g ((v.0.0, b.0.0), b.0.1) (sym b.2))
            ]
          ]
    ]

-- ---- a list

-- a number of items, and some of them, after lines
behind : {A : Type 0} (words : A → List (List ℕ)) (name : List ℕ) (front : List (List (List ℕ))) (p a m q : Position) (n : ℕ) (xs : List A) → Stand p front a → Stand a (numbered name n ∷ []) m → Passes m (lines words xs) q
    → Stand p (front ++ numbered name n ∷ map words xs) q
behind words name front p a m q n xs h count items =
    stand_more p a q front (numbered name n ∷ map words xs) h (passes_more a m q (whole (numbered name n) ∷ []) (map whole (map words xs)) count items)

low_by : (b : Bool) (f g : CertFault) → cond b None (Some f) ≡ Some g → (b ≡ false) × (g ≡ f)
low_by true f g e = absurd (none-some g e)
low_by false f g e = (refl, sym (same_Some f g e))

-- the reason why an item is refused
entry_low : (es : List Entry) (e : Entry) (at : ℕ) (g : CertFault) → refused_entry es e at ≡ Some g → (is_above_last es e ≡ false) × (g ≡ fault.Order at)
entry_low es e at g h = low_by (is_above_last es e) (fault.Order at) g h

inst_low : (xs : List Inst) (x : Inst) (at : ℕ) (g : CertFault) → refused_inst xs x at ≡ Some g → (is_inst_above (last_in xs) x ≡ false) × (g ≡ fault.Order at)
inst_low xs x at g h = low_by (is_inst_above (last_in xs) x) (fault.Order at) g h

out_of_order : (device : Device) (p : Position) (c : Claim) (part : CertPart) (q : Position) (ws : List (List ℕ)) (g : CertFault) → StandsBefore device p c part q → IsNextLine q.rest ws → IsLow c part ws → g ≡ fault.Order q.at → IsCertificateRefused device p g
out_of_order device p c part q ws g h next low e =
    let P : CertFault → Type 0 = λ f. IsCertificateRefused device p f in
    subst P (sym e) (record { claim = c; part = part; position = q; words = ws; stands = h; offset = refl; next = next; low = low })

-- ---- assumptions

entry_stops : (device : Device) → LowerLaws → (p : Position) (c : Claim) (paired : Bool) (n : ℕ) (q : Position) (g : CertFault) → paired ≡ is_paired c.device c.version → StandsBefore device p c (AnEntry n) q → Stop (λ at. entry_by c.device paired) (entry_words c.device) (EntryOf c.device paired) refused_entry c.assumptions q g → IsCertificateRefused device p g
entry_stops device b p c paired n q g is h stop = elim stop [
  | inl f ↦ malformed device p c (AnEntry n) q g h
      (λ ws next form. not_next (entry_by c.device paired) q.rest ws form.0 f.0 next
      (ap (λ (xs : List (List ℕ)). entry_by c.device paired (spaced xs)) form.3
      ∙ entry_reads c.device b.words b.entries paired 0 form.0 (omega arith) (form.1, ap (λ (x : Bool). is_admitted x form.0) is ∙ form.2))) f.1
  | inr r ↦
      let low = entry_low c.assumptions r.item q.at g r.refuses in
      out_of_order device p c (AnEntry n) q (entry_words c.device r.item) g h r.next (r.item, r.fits.0, ap (λ (x : Bool). is_admitted x r.item) (sym is) ∙ r.fits.1, refl, low.0) low.1
]

three_two : Three ≢ Two
three_two e = cc

-- a text whose version is read as the third says no device
silent : (device : Device) → (says_device device ≡ true → Three ≡ Two) → says_device device ≡ false
silent device later = elim (decided (says_device device)) [
  | inl h ↦ absurd (three_two (later h))
  | inr h ↦ h
]

-- the first line of the third version
first_stops : (device : Device) (version : Version) (p a m : Position) (n count : ℕ) (g : CertFault) → n ≤ depth_of device → (says_device device ≡ true → version ≡ Two) → Stand p (heading device version n) a → Stand a (numbered (codes "assume") count ∷ []) m → least_entries version ≤ count → count ≤ most_entries
    → first_at version m ≡ Err g → IsCertificateRefused device p g
unfolding first_at
first_stops device One p a m n count g small later h k least most e = absurd (err_ok {A = List Entry × Position} g ([], m) (sym e))
first_stops device Two p a m n count g small later h k least most e = absurd (err_ok {A = List Entry × Position} g ([], m) (sym e))
first_stops device Three p a m n count g small later h k least most e = elim (then_stop (formed (line_by (this_by (spaced (entry_words device Pairs))) m)) _ g e) [
  | inl f ↦
      let t = line_stop (this_by (spaced (entry_words device Pairs))) m g f in
      malformed device p (claim_to device Three n (firsts Three) [] [] None) (FirstEntry count) m g
      (record { is = refl; fits = bound_only device Three n small (λ s. refl); room = (silent device later, refl, least, most); lines = stand_more p a m (heading device Three n) (numbered (codes "assume") count ∷ []) h k }) (no_this (entry_words device Pairs) m.rest t.0) t.1
  | inr u ↦ absurd (err_ok {A = List Entry × Position} g (Pairs ∷ [], u.0.1) (sym u.2))
]

abbrev EntriesStop : Device → Version → List Entry → ℕ → Position → CertFault → Type 0
EntriesStop device version front n p g = ItemsStop (λ at. entry_by device (is_paired device version)) (entry_words device) (EntryOf device (is_paired device version)) refused_entry front n p g

-- a line after the first ones
further_stops : (device : Device) → LowerLaws → (version : Version) (p a m f : Position) (n count : ℕ) (g : CertFault) → n ≤ depth_of device → (says_device device ≡ true → version ≡ Two) → Stand p (heading device version n) a → Stand a (numbered (codes "assume") count ∷ []) m → least_entries version ≤ count → count ≤ most_entries
    → Stand m (map (entry_words device) (firsts version)) f → EntriesStop device version (firsts version) (count - least_entries version) f g → IsCertificateRefused device p g
further_stops device b version p a m f n count g small later h k least most first s =
    let says = says_device device in
    let all : List Entry = firsts version ++ s.items in
    let number : length all < count = omega (arith, length-append (firsts version) s.items, firsts_count version, s.fewer, least) in
    let settled = version_with says version all in
    let some = some_stand device version m f s.position s.items first s.passes in
    entry_stops device b p (claim_to device settled n all [] [] None) (is_paired device version) count s.position g (paired_settled says version all)
    (record {
      is = refl;
      fits = with_entries device settled n all small (some_keep device version s.items s.fit (omega (arith, number, most))) (some_mode device version s.items s.fit) (with_later says version all);
      room = (number, most);
      lines = behind (entry_words device) (codes "assume") (heading device settled n) p a m s.position count all (settled_heading device version n all p a h) k some;
    }) s.stop

entries_stops : (device : Device) → LowerLaws → (version : Version) (p a : Position) (n : ℕ) (g : CertFault) → n ≤ depth_of device → (says_device device ≡ true → version ≡ Two) → Stand p (heading device version n) a → entries_at device version a ≡ Err g → IsCertificateRefused device p g
unfolding entries_at
entries_stops device b version p a n g small later h e = elim (then_stop (formed (line_by (numbered_by (codes "assume") (least_entries version) most_entries) a)) _ g e) [
  | inl f ↦
      let t = line_stop (numbered_by (codes "assume") (least_entries version) most_entries) a g f in
      malformed device p (claim_to device version n (firsts version) [] [] None) Assume a g (record { is = refl; fits = bound_only device version n small (λ s. ap is_first (later s)); room = tt; lines = h })
      (no_number b.words (codes "assume") (least_entries version) most_entries a.rest (plain (codes "assume" ∷ []) refl).0 (lit< tt) t.0) t.1
  | inr m ↦
      let count = number_take b.words (codes "assume") (least_entries version) most_entries a m.0 (lit< tt) m.1 in
      elim (then_stop (first_at version m.0.1) _ g m.2) [
        | inl f ↦ first_stops device version p a m.0.1 n m.0.0 g small later h count.0 count.1 count.2 f
        | inr f ↦
            let first = first_take device version m.0.1 f.0 f.1 in
            let paired = is_paired device version in
            let s = items_stop (λ at. entry_by device paired) (entry_words device) (EntryOf device paired) refused_entry (entry_spells device b.words b.entries paired) entry_steady f.0.0 (m.0.0 - least_entries version) f.0.1 g f.2 in
            let P : List Entry → Type 0 = λ front. EntriesStop device version front (m.0.0 - least_entries version) f.0.1 g in
            further_stops device b version p a m.0.1 f.0.1 n m.0.0 g small later h count.0 count.1 count.2 first.lines (subst P first.all s)
      ]
]

-- ---- instances

not_ascending : (xs : List Inst) (x : Inst) → is_inst_above (last_in xs) x ≡ false → IsStrictlySortedBy inst_cmp (inst_keys (xs ++ x ∷ [])) → ⊥
not_ascending xs x low h =
    let P : List InstKey → Type 0 = λ ks. IsStrictlySortedBy inst_cmp ks in
    let up = sorted_at inst_cmp (inst_keys xs) x.key [] (subst P (map-append (λ (y : Inst). y.key) xs (x ∷ [])) h) in
    false≢true (sym low ∙ inst_above_is xs x ∙ up)

inst_stops : (device : Device) → LowerLaws → (p : Position) (c : Claim) (n : ℕ) (q : Position) (g : CertFault) → StandsBefore device p c (AnInst n) q → Stop (λ at. inst_by c.device) (inst_words c.device) (AnyInst c.device) refused_inst c.instances q g → IsCertificateRefused device p g
inst_stops device b p c n q g h stop = elim stop [
  | inl f ↦ malformed device p c (AnInst n) q g h
      (λ ws next form. not_next (inst_by c.device) q.rest ws form.0 f.0 next (ap (λ (xs : List (List ℕ)). inst_by c.device (spaced xs)) form.2 ∙ inst_reads c.device b.words b.insts 0 form.0 (omega arith) form.1)) f.1
  | inr r ↦ let low = inst_low c.instances r.item q.at g r.refuses in out_of_order device p c (AnInst n) q (inst_words c.device r.item) g h r.next (r.item, r.fits, refl, not_ascending c.instances r.item low.0) low.1
]

insts_stops : (device : Device) → LowerLaws → (version : Version) (p a d : Position) (n : ℕ) (es : List Entry) (g : CertFault) → n ≤ depth_of device → AreEntriesOf device es → is_third version ≡ has_pairs es → (says_device device ≡ true → is_first version ≡ false) → Stand p (heading device version n) a → Stand a (entry_lines device es) d → insts_at device d ≡ Err g → IsCertificateRefused device p g
unfolding insts_at
insts_stops device b version p a d n es g small he mode later h k e =
    let front = stand_more p a d (heading device version n) (entry_lines device es) h k in
    elim (then_stop (formed (line_by (numbered_by (codes "instances") 0 most_instances) d)) _ g e) [
      | inl f ↦
          let t = line_stop (numbered_by (codes "instances") 0 most_instances) d g f in
          malformed device p (claim_to device version n es [] [] None) Instances d g (record { is = refl; fits = with_entries device version n es small he mode later; room = tt; lines = front })
          (no_number b.words (codes "instances") 0 most_instances d.rest (plain (codes "instances" ∷ []) refl).0 (lit< tt) t.0) t.1
      | inr m ↦
          let count = number_take b.words (codes "instances") 0 most_instances d m.0 (lit< tt) m.1 in
          let s = items_stop (λ at. inst_by device) (inst_words device) (AnyInst device) refused_inst (inst_spells device b.words b.insts) inst_steady [] m.0.0 m.0.1 g m.2 in
          let fit = all_of_any (IsInst device) 0 s.items (admitted_all (AnyInst device) refused_inst [] s.items s.fit) in
          let some = behind (inst_words device) (codes "instances") (entry_lines device es) a d m.0.1 s.position m.0.0 s.items k count.0 s.passes in
          inst_stops device b p (claim_to device version n es s.items [] None) m.0.0 s.position g
          (record {
            is = refl;
            fits = with_insts device version n es s.items small he mode later fit (insts_kept device b.keys s.items s.fit) (omega (arith, s.fewer, count.2));
            room = (s.fewer, count.2);
            lines = stand_more p a s.position (heading device version n) (entry_lines device es ++ numbered (codes "instances") m.0.0 ∷ map (inst_words device) s.items) h some;
          }) s.stop
    ]

-- ---- nodes

node_low_by : (a b : Bool) (l f g : CertFault) → cond a (cond b None (Some l)) (Some f) ≡ Some g → ((a ≡ false) × (g ≡ f)) ⊎ ((a ≡ true) × (b ≡ false) × (g ≡ l))
node_low_by true true l f g e = absurd (none-some g e)
node_low_by true false l f g e = inr (refl, refl, sym (same_Some l g e))
node_low_by false b l f g e = inl (refl, sym (same_Some f g e))

nodes_not_ascending : (ns : Seeds) (n : NodeKey × NodeForm) → is_node_above (last_in ns) n.0 ≡ false → IsStrictlySortedBy node_cmp (seed_keys (ns ++ n ∷ [])) → ⊥
nodes_not_ascending ns n low h =
    let P : List NodeKey → Type 0 = λ ks. IsStrictlySortedBy node_cmp ks in
    let up = sorted_at node_cmp (seed_keys ns) n.0 [] (subst P (keys_append ns (n ∷ [])) h) in
    false≢true (sym low ∙ node_above_is ns n.0 ∙ up)

too_much : LowerLaws → (c : Claim) (n : NodeKey × NodeForm) → IsStrictlySortedBy node_cmp (seed_keys c.nodes) → is_node_above (last_in c.nodes) n.0 ≡ true
    → nat_le (cells_of (seed_keys c.nodes) + (1 + offset_of n.0.sp)) most_cells ≡ false → IsTooMuch c n
too_much b c n ascend up room =
    let P : List NodeKey → Type 0 = λ ks. IsStrictlySortedBy node_cmp ks in
    let full : most_cells < cells_of (seed_keys c.nodes) + (1 + offset_of n.0.sp) = grind (arith, nat_tests, room) in (
      subst P (sym (keys_append c.nodes (n ∷ []))) (sorted_push node_cmp b.keys.nodes (seed_keys c.nodes) n.0 ascend (sym (node_above_is c.nodes n.0) ∙ up)),
      omega (arith, full, cells_more c.nodes n),
    )

node_refused : (device : Device) → LowerLaws → (p : Position) (c : Claim) (n : ℕ) (q : Position) (g : CertFault) → StandsBefore device p c (ANode n) q → ItemRefused (node_words c.device c.version c.instances) (FitsNode c.device c.version c.instances) refused_node c.nodes q g → IsCertificateRefused device p g
node_refused device b p c n q g h r =
    let P : CertFault → Type 0 = λ f. IsCertificateRefused device p f in
    elim (node_low_by (is_node_above (last_in c.nodes) r.item.0) (nat_le (cells_of (seed_keys c.nodes) + (1 + offset_of r.item.0.sp)) most_cells) (fault.Limit limit.Cells) (fault.Order q.at) g r.refuses) [
      | inl low ↦ out_of_order device p c (ANode n) q (node_words c.device c.version c.instances r.item) g h r.next (r.item, r.fits.0, r.fits.1, r.fits.2, refl, nodes_not_ascending c.nodes r.item low.0) low.1
      | inr full ↦ subst P (sym full.2) (record {
        claim = c;
        part = ANode n;
        position = q;
        words = node_words c.device c.version c.instances r.item;
        stands = h;
        next = r.next;
        past = (r.item, r.fits.0, r.fits.1, r.fits.2, refl, too_much b c r.item h.fits.claim.nodes_ascend full.0 full.1);
      })
    ]

node_stops : (device : Device) → LowerLaws → (p : Position) (c : Claim) (n : ℕ) (q : Position) (g : CertFault) → StandsBefore device p c (ANode n) q → Stop (node_by c.device c.version c.instances) (node_words c.device c.version c.instances) (FitsNode c.device c.version c.instances) refused_node c.nodes q g → IsCertificateRefused device p g
node_stops device b p c n q g h stop = elim stop [
  | inl f ↦ malformed device p c (ANode n) q g h
      (λ ws next form. not_next (node_by c.device c.version c.instances (length c.nodes)) q.rest ws form.0 f.0 next
      (ap (λ (xs : List (List ℕ)). node_by c.device c.version c.instances (length c.nodes) (spaced xs)) form.4
      ∙ node_reads c.device b.words b.nodes b.keys c.version c.instances h.fits.claim.few_insts (length c.nodes) form.0 (omega (arith, h.fits.claim.few_nodes)) (form.1, form.2, form.3))) f.1
  | inr r ↦ node_refused device b p c n q g h r
]

limited_err : (d : Result (Option ℕ × Position) CertFault) (g : CertFault) → limited d ≡ Err g → (d ≡ Err g) ⊎ ((q : Position) × (d ≡ Ok (None, q)) × (g ≡ fault.Limit limit.Nodes))
limited_err (Ok (Some n, q)) g e = absurd (err_ok {A = ℕ × Position} g (n, q) (sym e))
limited_err (Ok (None, q)) g e = inr (q, refl, sym (err_is {A = ℕ × Position} (fault.Limit limit.Nodes) g e))
limited_err (Err f) g e = inl (ap (λ (x : CertFault). Err x) (err_is {A = ℕ × Position} f g e))

no_count : WordLaws → (ls : List TextLine) → first_by count_by ls ≡ None → (ws : List (List ℕ)) → IsNextLine ls ws → IsNodesLine (λ w. ⊤) ws → ⊥
no_count k ls none ws next h =
    let t = nodes_count h.0 h.1 in
    not_next count_by ls ws t.0 none next (ap (λ (xs : List (List ℕ)). count_by (spaced xs)) h.2
    ∙ ap count_in (k.words_stand (codes "nodes") (h.0 ∷ []) ((plain (codes "nodes" ∷ []) refl).0, (decimal_word h.0 h.1, tt))) ∙ t.1)

-- the line `nodes N`
count_stops : (device : Device) → LowerLaws → (p : Position) (c : Claim) (q : Position) (g : CertFault) → StandsBefore device p c Nodes q → limited (formed (line_by count_by q)) ≡ Err g → IsCertificateRefused device p g
count_stops device b p c q g h e =
    let P : CertFault → Type 0 = λ f. IsCertificateRefused device p f in
    elim (limited_err (formed (line_by count_by q)) g e) [
      | inl f ↦ let t = line_stop count_by q g f in malformed device p c Nodes q g h (no_count b.words q.rest t.0) t.1
      | inr m ↦
          let l = line_takes count_by q None m.0 (formed_ok (line_by count_by q) (None, m.0) m.1) in
          subst P (sym m.2) (record {
            claim = c;
            part = Nodes;
            position = q;
            words = words_of l.text;
            stands = h;
            next = is_next q (words_of l.text) m.0 (as_words count_by q None m.0 l (words_of l.text) (sym (b.words.line_words l.text)));
            past = too_many (words_of l.text) l.read;
          })
    ]

nodes_stops : (device : Device) → LowerLaws → (version : Version) (p a d f : Position) (n : ℕ) (es : List Entry) (xs : List Inst) (g : CertFault) → n ≤ depth_of device → AreEntriesOf device es → is_third version ≡ has_pairs es → (says_device device ≡ true → is_first version ≡ false) → AllByRecursion (IsInst device) xs → IsStrictlySortedBy inst_cmp (inst_keys xs) → length xs ≤ most_instances
    → Stand p (heading device version n) a → Stand a (entry_lines device es) d → Stand d (inst_lines device xs) f → nodes_at device version xs f ≡ Err g → IsCertificateRefused device p g
unfolding nodes_at
nodes_stops device b version p a d f n es xs g small he mode later hx ax few h k j e =
    let front = stand_more p a f (heading device version n) (entry_lines device es ++ inst_lines device xs) h (stand_more a d f (entry_lines device es) (inst_lines device xs) k j) in
    elim (then_stop (limited (formed (line_by count_by f))) _ g e) [
      | inl l ↦ count_stops device b p (claim_to device version n es xs [] None) f g (record { is = refl; fits = with_insts device version n es xs small he mode later hx ax few; room = tt; lines = front }) l
      | inr m ↦
          let count = nodes_take b.words f m.0 m.1 in
          let s = items_stop (node_by device version xs) (node_words device version xs) (FitsNode device version xs) refused_node (node_spells device b.words b.nodes b.keys version xs ax) node_steady [] m.0.0 m.0.1 g m.2 in
          let some = behind (node_words device version xs) (codes "nodes") (inst_lines device xs) d f m.0.1 s.position m.0.0 s.items j count.0 s.passes in
          node_stops device b p (claim_to device version n es xs s.items None) m.0.0 s.position g
          (record {
            is = refl;
            fits = certificate_of device version n es xs s.items small he mode later hx ax few (admitted_all (FitsNode device version xs) refused_node [] s.items s.fit) (nodes_kept device b.keys version xs s.items s.fit) (omega (arith, s.fewer, count.1));
            room = (s.fewer, count.1);
            lines = stand_more p a s.position (heading device version n) (entry_lines device es ++ (inst_lines device xs ++ numbered (codes "nodes") m.0.0 ∷ map (node_words device version xs) s.items)) h
                (stand_more a d s.position (entry_lines device es) (inst_lines device xs ++ numbered (codes "nodes") m.0.0 ∷ map (node_words device version xs) s.items) k some);
          }) s.stop
    ]

-- ---- the schedule and the end

plan_stops : (device : Device) → RefusedScheduleIsStuck → (p : Position) (c : Claim) (bl : Bool) (q m : Position) (g : CertFault) → c.device ≡ device → IsClaim c → Stand p (front_lines c) q → Stand q (ending_words bl ∷ []) m → plan_if device bl m ≡ Err g → IsCertificateRefused device p g
plan_stops device stuck p c false q m g is h front line e = absurd (err_ok {A = Option Plan × Position} g (None, m) (sym e))
plan_stops device stuck p c true q m g is h front line e =
    let P : CertFault → Type 0 = λ f. IsCertificateRefused device p f in
    elim (then_stop (formed (schedule_at device m)) _ g e) [
      | inl f ↦
          let r = formed_err (schedule_at device m) g f in
          subst P (sym r.2) (r.0, refl, inr (record { claim = c; is = is; fits = h; begin = m; lines = stand_more p q m (front_lines c) (attained_line ∷ []) front line; stuck = stuck device m r.0 r.1 }))
      | inr s ↦ absurd (err_ok {A = Option Plan × Position} g (Some s.0.0, s.0.1) (sym s.2))
    ]

no_ending : (ls : List TextLine) → first_by ending_by ls ≡ None → (ws : List (List ℕ)) → IsNextLine ls ws → (ws ≡ open_line) ⊎ (ws ≡ attained_line) → ⊥
no_ending ls none ws next (inl h) = not_next ending_by ls ws false none next (ap (λ (xs : List (List ℕ)). ending_by (spaced xs)) h ∙ ending_again false)
no_ending ls none ws next (inr h) = not_next ending_by ls ws true none next (ap (λ (xs : List (List ℕ)). ending_by (spaced xs)) h ∙ ending_again true)

witness_stops : (device : Device) → RefusedScheduleIsStuck → (p : Position) (c : Claim) (q : Position) (g : CertFault) → c.device ≡ device → IsCertificate c → Stand p (front_lines c) q → witness_at device q ≡ Err g → IsCertificateRefused device p g
unfolding witness_at
witness_stops device stuck p c q g is h front e = elim (then_stop (formed (line_by ending_by q)) _ g e) [
  | inl f ↦ let t = line_stop ending_by q g f in malformed device p c Ending q g (record { is = is; fits = h; room = tt; lines = front }) (no_ending q.rest t.0) t.1
  | inr m ↦
      let l = line_takes ending_by q m.0.0 m.0.1 (formed_ok (line_by ending_by q) m.0 m.1) in
      plan_stops device stuck p c m.0.0 q m.0.1 g is h.claim front (as_words ending_by q m.0.0 m.0.1 l (ending_words m.0.0) (ending_is l.text m.0.0 l.read)) m.2
]

lines_left : (l : TextLine) (ls : List TextLine) → l ∷ ls ≢ []
lines_left l ls h = cc

last_stop : (ls : List TextLine) (q : Position) (g : CertFault) → if_last ls q ≡ Err g → (ls ≢ []) × (g ≡ fault.Malformed q.at)
last_stop [] q g e = absurd (err_ok {A = Unit {0} × Position} g (tt, q) (sym e))
last_stop (l ∷ ls) q g e = (lines_left l ls, sym (err_is {A = Unit {0} × Position} (fault.Malformed q.at) g e))

end_stops : (device : Device) (p : Position) (c : Claim) (q r : Position) (g : CertFault) → c.device ≡ device → IsCertificate c → Stand p (front_lines c) q → Stand q (witness_lines c.witness) r → end_at r ≡ Err g → IsCertificateRefused device p g
unfolding end_at
end_stops device p c q r g is h front witness e = elim (then_stop (formed (line_by (this_by (spaced end_line)) r)) _ g e) [
  | inl f ↦
      let t = line_stop (this_by (spaced end_line)) r g f in
      malformed device p c End r g (record { is = is; fits = h; room = tt; lines = stand_more p q r (front_lines c) (witness_lines c.witness) front witness }) (no_this end_line r.rest t.0) t.1
  | inr d ↦
      let last = last_stop d.0.1.rest d.0.1 g d.2 in
      let end = this_take end_line r d.0 d.1 in
      malformed device p c Nothing d.0.1 g
      (record { is = is; fits = h; room = tt; lines = stand_more p q d.0.1 (front_lines c) (witness_lines c.witness ++ end_line ∷ []) front (stand_more q r d.0.1 (witness_lines c.witness) (end_line ∷ []) witness end) }) last.0 last.1
]

-- ---- the whole

behind_nodes : (device : Device) → LowerLaws → (version : Version) (p : Position) (n : ℕ) (es : List Entry) (xs : List Inst) (ns : Seeds) (q : Position) (g : CertFault) → IsCertificate (claim_to device version n es xs ns None)
    → Stand p (front_lines (claim_to device version n es xs ns None)) q → (r : Position × Option Plan) → witness_at device q ≡ Ok (r.1, r.0) → end_at r.0 ≡ Err g → IsCertificateRefused device p g
behind_nodes device b version p n es xs ns q g h front r e f =
    let w = witness_part device b.schedule_spelled q (r.1, r.0) e in
    end_stops device p (claim_to device version n es xs ns r.1) q r.0 g refl
    (record {
      claim = claim_of device version n es xs ns r.1 h.claim.bound_fits (record { are = h.claim.entries_fit; fit = h.claim.entries_of_device }) h.claim.of_list h.claim.of_device h.claim.insts_fit h.claim.insts_ascend h.claim.few_insts (fitting_nodes (claim_to device version n es xs ns None) h.claim)
          (record { ascend = h.claim.nodes_ascend; few = h.claim.few_cells }) h.claim.few_nodes;
      schedule = w.schedule;
    }) front w.lines f

claim_stops : (device : Device) → LowerLaws → RefusedScheduleIsStuck → (p : Position) (g : CertFault) → claim_at device p ≡ Err g → IsCertificateRefused device p g
unfolding claim_at
claim_stops device k stuck p g e = elim (then_stop (heading_at device p) _ g e) [
  | inl h ↦ heading_stops device k.words p g h
  | inr b ↦
      let top = heading_take device k.words p b.0 b.1 in
      elim (then_stop (entries_at device b.0.0.0 b.0.1) _ g b.2) [
        | inl h ↦ entries_stops device k b.0.0.0 p b.0.1 b.0.0.1 g top.small top.later top.lines h
        | inr a ↦
            let entries = entries_take device k b.0.0.0 b.0.1 a.0 a.1 in
            let are = entries.are in
            let mode = entries.mode in
            let version = version_with (says_device device) b.0.0.0 a.0.0 in
            let later = with_later (says_device device) b.0.0.0 a.0.0 in
            let top_lines = settled_heading device b.0.0.0 b.0.0.1 a.0.0 p b.0.1 top.lines in
            elim (then_stop (insts_at device a.0.1) _ g a.2) [
              | inl h ↦ insts_stops device k version p b.0.1 a.0.1 b.0.0.1 a.0.0 g top.small are mode later top_lines entries.lines h
              | inr i ↦
                  let insts = insts_take device k a.0.1 i.0 i.1 in
                  let ascend = insts_kept device k.keys i.0.0 insts.fit in
                  let fit = all_of_any (IsInst device) 0 i.0.0 (admitted_all (AnyInst device) refused_inst [] i.0.0 insts.fit) in
                  elim (then_stop (nodes_at device version i.0.0 i.0.1) _ g i.2) [
                    | inl h ↦ nodes_stops device k version p b.0.1 a.0.1 i.0.1 b.0.0.1 a.0.0 i.0.0 g top.small are mode later fit ascend insts.few top_lines entries.lines insts.lines h
                    | inr n ↦
                        let nodes = nodes_part device k version i.0.0 ascend i.0.1 n.0 n.1 in
                        let c = claim_to device version b.0.0.1 a.0.0 i.0.0 n.0.0 None in
                        let whole_claim =
                        certificate_of device version b.0.0.1 a.0.0 i.0.0 n.0.0 top.small are mode later fit ascend insts.few (admitted_all (FitsNode device version i.0.0) refused_node [] n.0.0 nodes.fit) (nodes_kept device k.keys version i.0.0 n.0.0 nodes.fit) nodes.few in
                        let front = stand_more p b.0.1 n.0.1 (heading device version b.0.0.1) (entry_lines device a.0.0 ++ (inst_lines device i.0.0 ++ node_lines device version i.0.0 n.0.0)) top_lines
                        (stand_more b.0.1 a.0.1 n.0.1 (entry_lines device a.0.0) (inst_lines device i.0.0 ++ node_lines device version i.0.0 n.0.0) entries.lines (stand_more a.0.1 i.0.1 n.0.1 (inst_lines device i.0.0) (node_lines device version i.0.0 n.0.0) insts.lines nodes.lines)) in
                        elim (then_stop (witness_at device n.0.1) _ g n.2) [
                          | inl h ↦ witness_stops device stuck p c n.0.1 g refl whole_claim front h
                          | inr w ↦ elim (then_stop (end_at w.0.1) _ g w.2) [
                            | inl h ↦ behind_nodes device k version p b.0.0.1 a.0.0 i.0.0 n.0.0 n.0.1 g whole_claim front (w.0.1, w.0.0) w.1 h
                            | inr d ↦ absurd (err_ok {A = Claim × Position} g (claim_to device version b.0.0.1 a.0.0 i.0.0 n.0.0 w.0.0, d.0.1) (sym d.2))
                          ]
                        ]
                  ]
            ]
      ]
]

alone_err : (d : Result (Claim × Position) CertFault) (g : CertFault) → claim_alone d ≡ Err g → d ≡ Err g
alone_err (Ok x) g e = absurd (err_ok {A = Claim} g x.0 (sym e))
alone_err (Err f) g e = ap (λ (x : CertFault). Err x) (err_is {A = Claim} f g e)

due_by : (device : Device) → LowerLaws → RefusedScheduleIsStuck → (text : List ℕ) (r : Result Claim CertFault) → certificate_in device text ≡ r → IsCertificateDue device text r
unfolding certificate_in
due_by device k stuck text (Ok c) e = let t = read_is_spelled k device text c e in (t.0, t.2, t.1)
due_by device k stuck text (Err g) e = claim_stops device k stuck (start text) g (alone_err (claim_at device (start text)) g e)

pub read_is_due : LowerLaws → RefusedScheduleIsStuck → ReadCertificateIsDue
read_is_due k stuck device text = due_by device k stuck text (certificate_in device text) refl

-- ---- what is answered

not_malformed : (at : ℕ) → fault.Malformed at ≢ fault.Memory
not_malformed at e = cc

not_order : (at : ℕ) → fault.Order at ≢ fault.Memory
not_order at e = cc

not_limit : (l : Limit) → fault.Limit l ≢ fault.Memory
not_limit l e = cc

not_other : (other : Device) → fault.Other other ≢ fault.Memory
not_other other e = cc

err_due : (device : Device) (text : List ℕ) (f : CertFault) → ReadCertificateIsDue → (f ≢ fault.Memory → certificate_in device text ≡ Err f) → IsCertificateDueUnlessMemory device text (Err f)
err_due device text fault.Memory due h = tt
err_due device text (fault.Malformed at) due h = let P : Result Claim CertFault → Type 0 = λ r. IsCertificateDue device text r in subst P (h (not_malformed at)) (due device text)
err_due device text (fault.Order at) due h = let P : Result Claim CertFault → Type 0 = λ r. IsCertificateDue device text r in subst P (h (not_order at)) (due device text)
err_due device text (fault.Limit l) due h = let P : Result Claim CertFault → Type 0 = λ r. IsCertificateDue device text r in subst P (h (not_limit l)) (due device text)
err_due device text (fault.Other other) due h = let P : Result Claim CertFault → Type 0 = λ r. IsCertificateDue device text r in subst P (h (not_other other)) (due device text)

pub told : (device : Device) → ReadCertificateIsDue → (text : List ℕ) (r : Result Claim CertFault) → Answers (λ c. c) fault.Memory r (certificate_in device text) → IsCertificateDueUnlessMemory device text r
told device due text (Ok c) h = let P : Result Claim CertFault → Type 0 = λ r. IsCertificateDue device text r in subst P h (due device text)
told device due text (Err f) h = err_due device text f due h
