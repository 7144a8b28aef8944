-- The invariants of the three lists of a certificate, by which their items are valid.
use Rattle.std.proofs.Common.{ℕ, suc, ◌+◌, ◌-◌, ◌<◌, ◌≤◌, ◌≡◌, List, [], ◌∷◌, ◌++◌, length, length-append, Bool, true, false, refl, ap, sym, ◌∙◌, arith, Some, None, cond, subst, slice_get, nat_le}
use Rattle.std.specs.List.{AllByRecursion}
use Rattle.std.specs.List.Sorted.{IsStrictlySortedBy}
use Rattle.std.proofs.lemmas.Bool.Decides.{nat_tests}
use Rattle.std.proofs.lemmas.List.{map-append}
use Rattle.std.specs.Prelude.{Contains, ◌≢◌, codes}
use Rattle.avr_model.specs.declared.assumption.Entry.{Entry}
use Rattle.avr_model.specs.declared.assumption.Entry.TheVariants.{Pairs, Masks, Jump, Store, Prove, Free, Never, Frame, Recur, Scratch}
use Rattle.assumption_files.specs.Reading.{is_entry_of, entry_in}
use Rattle.cert_format.specs.LineReading.{inst_in, node_in}
use Rattle.text_base.specs.Lines.{words_of, spaced}
use Rattle.line_reading.specs.Words.{IsWord, WordLaws}
use Rattle.avr_model.specs.declared.device.Device.{Device}
use Rattle.vector_table.specs.Entries.{is_above_last, most_entries}
use Rattle.assumption_files.specs.Spelling.{entry_words}
use Rattle.assumption_files.specs.Exact.{EntryWords, AreEntriesOf}
use Rattle.assumption_files.proofs.AllLaws.{pushed, follows, entry_is_words}
use Rattle.node_keys.specs.declared.keys.InstKey.{InstKey}
use Rattle.node_keys.specs.declared.keys.NodeKey.{NodeKey}
use Rattle.node_keys.specs.Keys.{offset_of}
use Rattle.node_keys.specs.Order.{inst_cmp, node_cmp}
use Rattle.node_keys.specs.Laws.{KeysAreOrdered}
use Rattle.edge_rules.specs.declared.seeded.NodeForm.{NodeForm}
use Rattle.edge_rules.specs.Expansion.{Seeds}
use Rattle.certificate.specs.declared.instance.Inst.{Inst}
use Rattle.certificate.specs.declared.version.Version.{Version}
use Rattle.cert_format.specs.declared.fault.CertFault.{CertFault}
use Rattle.cert_format.specs.declared.fault.CertFault.TheVariants as fault
use Rattle.certificate.specs.declared.limit.Limit.TheVariants as limit
use Rattle.certificate.specs.Insts.{IsInst, inst_keys}
use Rattle.certificate.specs.Claims.{cells_of, most_cells, most_instances, seed_keys, FitsAt, AreFrom, Belongs}
use Rattle.certificate.specs.Versions.{NodeIsOf, is_third}
use Rattle.cert_words.specs.Text.{inst_words, inst_number, node_words, node_words_at}
use Rattle.cert_format.specs.LineLaws.{InstLines, NodeLines, IsInstanceOf}
use Rattle.cert_format.specs.Reading.{is_admitted, entry_by, inst_by, node_by, last_in, is_inst_above, is_node_above, refused_entry, refused_inst, refused_node}
use Rattle.cert_format.proofs.Items.{cells_more}
use Rattle.cert_format.proofs.Lists.{Admitted, Steady, Spells, Reads, AllFrom, any_of_all, kept_by, admitted_by, is_after, sorted_push, sorted_at}
use Rattle.certificate.proofs.Instances.{key_at}
use Rattle.cert_words.proofs.AllLaws.{number_unique, has_number}
use Rattle.std.proofs.lemmas.Option.{slice_get_within, cond_some}
use Rattle.line_reading.proofs.AllLaws.{bind_some}
use Rattle.avr_model.specs.Assumptions.{has_pairs}
use Rattle.cert_format.proofs.FirstEntries.{mode_kept}

-- ---- a test before a fault

none_if : (b : Bool) (f : CertFault) → cond b None (Some f) ≡ None → b ≡ true
none_if true f e = refl
none_if false f e = cc

if_none : (b : Bool) (f : CertFault) → b ≡ true → cond b None (Some f) ≡ None
if_none b f e = rw e refl

-- ---- assumptions

abbrev pub FitsEntry : Device → Entry → Type 0
FitsEntry device e = is_entry_of device e ≡ true

-- one of a list that may have the line `pairs`, or of another
abbrev pub EntryOf : Device → Bool → ℕ → Entry → Type 0
EntryOf device paired at e = FitsEntry device e × (is_admitted paired e ≡ true)

pub entry_steady : Steady refused_entry
entry_steady es e a b h = if_none (is_above_last es e) (fault.Order b) (none_if (is_above_last es e) (fault.Order a) h)

abbrev pub AreFew : Device → List Entry → Type 0
AreFew device es = length es ≤ most_entries → AreEntriesOf device es

entry_pushed : (device : Device) (paired : Bool) (es : List Entry) (e : Entry) → AreFew device es → EntryOf device paired (length es) e → ((at : ℕ) → refused_entry es e at ≡ None) → AreFew device (es ++ e ∷ [])
entry_pushed device paired es e h f none =
    λ few. let n = length-append es (e ∷ []) in
    pushed device es e (h (omega arith)) (record { room = omega arith; formed = f.0; above = none_if (is_above_last es e) (fault.Order 0) (none 0) })

pub entries_kept : (device : Device) (paired : Bool) (front es : List Entry) → AreFew device front → Admitted (EntryOf device paired) refused_entry front es → AreFew device (front ++ es)
entries_kept device paired front es q h = kept_by (EntryOf device paired) refused_entry (AreFew device) (entry_pushed device paired) front es q h

abbrev HasMode : Bool → List Entry → Type 0
HasMode third es = has_pairs es ≡ third

mode_pushed : (device : Device) (third : Bool) (es : List Entry) (e : Entry) → HasMode third es → EntryOf device third (length es) e → ((at : ℕ) → refused_entry es e at ≡ None) → HasMode third (es ++ e ∷ [])
mode_pushed device third es e h f none = let P : Bool → Type 0 = λ b. is_admitted b e ≡ true in mode_kept es e (subst P (sym h) f.1) ∙ h

-- where only some lists may have the line `pairs`
pub modes_kept : (device : Device) (third : Bool) (front es : List Entry) → HasMode third front → Admitted (EntryOf device third) refused_entry front es → HasMode third (front ++ es)
modes_kept device third front es q h = kept_by (EntryOf device third) refused_entry (HasMode third) (mode_pushed device third) front es q h

entry_follows : (device : Device) (es : List Entry) (e : Entry) (more : List Entry) → AreEntriesOf device (es ++ e ∷ more) → (at : ℕ) → refused_entry es e at ≡ None
entry_follows device es e more h at = if_none (is_above_last es e) (fault.Order at) (follows device es e more h).above

both_of : (device : Device) (third : Bool) (at : ℕ) (es : List Entry) → AllByRecursion (FitsEntry device) es → AllByRecursion (λ e. is_admitted third e ≡ true) es → AllFrom (EntryOf device third) at es
both_of device third at [] h g = tt
both_of device third at (e ∷ es) h g = ((h.0, g.0), both_of device third (at + 1) es h.1 g.1)

pub entries_admitted : (device : Device) (third : Bool) (front es : List Entry) → AreEntriesOf device (front ++ es) → AllByRecursion (FitsEntry device) es → AllByRecursion (λ e. is_admitted third e ≡ true) es
    → Admitted (EntryOf device third) refused_entry front es
entries_admitted device third front es h all placed = admitted_by (EntryOf device third) refused_entry (AreEntriesOf device) (entry_follows device) front es h (both_of device third (length front) es all placed)

pub entry_spells : (device : Device) → WordLaws → EntryWords → (third : Bool) → Spells (λ at. entry_by device third) (entry_words device) (EntryOf device third)
entry_spells device k w third at text e h =
    let x = bind_some (entry_in device (words_of text)) _ e h in
    let last = cond_some {A = Entry} (is_admitted third x.0) x.0 e x.2 in
    let t = w.spelled device (words_of text) x.0 x.1 in
    let P : Entry → Type 0 = λ y. (text ≡ spaced (entry_words device y)) × EntryOf device third at y in
    subst P last.1 (sym (k.line_words text) ∙ ap spaced t.0, (t.1, last.0))

stand_words : WordLaws → (ws : List (List ℕ)) → ws ≢ [] → AllByRecursion IsWord ws → words_of (spaced ws) ≡ ws
stand_words k [] some h = absurd (some refl)
stand_words k (w ∷ ws) some h = k.words_stand w ws h

entry_some : (device : Device) (e : Entry) → entry_words device e ≢ []
entry_some device Pairs h = cc
entry_some device Masks h = cc
entry_some device (Jump site words) h = cc
entry_some device (Store site words) h = cc
entry_some device (Prove site) h = cc
entry_some device (Free site) h = cc
entry_some device (Never site) h = cc
entry_some device (Frame site) h = cc
entry_some device (Recur word depth) h = cc
entry_some device (Scratch site) h = cc

pub entry_reads : (device : Device) → WordLaws → EntryWords → (third : Bool) → Reads (λ at. entry_by device third) (entry_words device) (EntryOf device third)
entry_reads device k w third at e few h =
    let read : entry_in device (words_of (spaced (entry_words device e))) ≡ Some e = ap (entry_in device) (stand_words k (entry_words device e) (entry_some device e) (entry_is_words k device e h.0)) ∙ w.read device e h.0 in
    rw (read, h.1) refl

-- ---- instances

pub inst_above_is : (xs : List Inst) (x : Inst) → is_inst_above (last_in xs) x ≡ is_after inst_cmp (inst_keys xs) x.key
inst_above_is [] x = refl
inst_above_is (y ∷ []) x = refl
inst_above_is (y ∷ z ∷ zs) x =
    let one_less : length (y ∷ z ∷ zs) - 1 ≡ suc (length zs) = omega arith in
    let back : length zs ≡ length (z ∷ zs) - 1 = omega arith in
    ap (λ (n : ℕ). is_inst_above (slice_get (y ∷ z ∷ zs) n) x) one_less ∙ ap (λ (n : ℕ). is_inst_above (slice_get (z ∷ zs) n) x) back ∙ inst_above_is (z ∷ zs) x

pub inst_steady : Steady refused_inst
inst_steady xs x a b h = if_none (is_inst_above (last_in xs) x) (fault.Order b) (none_if (is_inst_above (last_in xs) x) (fault.Order a) h)

abbrev pub AnyInst : Device → ℕ → Inst → Type 0
AnyInst device at x = IsInst device x

abbrev InstsAscend : List Inst → Type 0
InstsAscend xs = IsStrictlySortedBy inst_cmp (inst_keys xs)

inst_pushed : (device : Device) → KeysAreOrdered → (xs : List Inst) (x : Inst) → InstsAscend xs → IsInst device x → ((at : ℕ) → refused_inst xs x at ≡ None) → InstsAscend (xs ++ x ∷ [])
inst_pushed device o xs x h f none =
    let up = sym (inst_above_is xs x) ∙ none_if (is_inst_above (last_in xs) x) (fault.Order 0) (none 0) in
    let P : List InstKey → Type 0 = λ ks. IsStrictlySortedBy inst_cmp ks in
    subst P (sym (map-append (λ (y : Inst). y.key) xs (x ∷ []))) (sorted_push inst_cmp o.insts (inst_keys xs) x.key h up)

pub insts_kept : (device : Device) → KeysAreOrdered → (xs : List Inst) → Admitted (AnyInst device) refused_inst [] xs → IsStrictlySortedBy inst_cmp (inst_keys xs)
unfolding IsStrictlySortedBy
insts_kept device o xs h = kept_by (AnyInst device) refused_inst InstsAscend (inst_pushed device o) [] xs tt h

inst_follows : (xs : List Inst) (x : Inst) (ys : List Inst) → InstsAscend (xs ++ x ∷ ys) → (at : ℕ) → refused_inst xs x at ≡ None
inst_follows xs x ys h at =
    let P : List InstKey → Type 0 = λ ks. IsStrictlySortedBy inst_cmp ks in
    let up = sorted_at inst_cmp (inst_keys xs) x.key (inst_keys ys) (subst P (map-append (λ (y : Inst). y.key) xs (x ∷ ys)) h) in
    if_none (is_inst_above (last_in xs) x) (fault.Order at) (inst_above_is xs x ∙ up)

pub insts_admitted : (device : Device) (xs : List Inst) → IsStrictlySortedBy inst_cmp (inst_keys xs) → AllByRecursion (IsInst device) xs → Admitted (AnyInst device) refused_inst [] xs
insts_admitted device xs h all = admitted_by (AnyInst device) refused_inst InstsAscend inst_follows [] xs h (any_of_all (IsInst device) 0 xs all)

pub inst_spells : (device : Device) → WordLaws → InstLines → Spells (λ at. inst_by device) (inst_words device) (AnyInst device)
inst_spells device k l at text x e = let t = l.spelled device (words_of text) x e in (sym (k.line_words text) ∙ ap spaced t.0, t.1)

pub inst_reads : (device : Device) → WordLaws → InstLines → Reads (λ at. inst_by device) (inst_words device) (AnyInst device)
inst_reads device k l at x few h = ap (inst_in device) (k.words_stand (codes "inst") _ (l.words device x h)) ∙ l.read device x h

-- ---- nodes

abbrev pub FitsNode : Device → Version → List Inst → ℕ → NodeKey × NodeForm → Type 0
FitsNode device version insts at n = FitsAt device (is_third version) at n.0 n.1 × Belongs insts n.0 × NodeIsOf version n

pub node_above_is : (ns : Seeds) (key : NodeKey) → is_node_above (last_in ns) key ≡ is_after node_cmp (seed_keys ns) key
node_above_is [] key = refl
node_above_is (m ∷ []) key = refl
node_above_is (m ∷ l ∷ ls) key =
    let one_less : length (m ∷ l ∷ ls) - 1 ≡ suc (length ls) = omega arith in
    let back : length ls ≡ length (l ∷ ls) - 1 = omega arith in
    ap (λ (i : ℕ). is_node_above (slice_get (m ∷ l ∷ ls) i) key) one_less ∙ ap (λ (i : ℕ). is_node_above (slice_get (l ∷ ls) i) key) back ∙ node_above_is (l ∷ ls) key

none_both : (a b : Bool) (f g : CertFault) → cond a (cond b None (Some f)) (Some g) ≡ None → (a ≡ true) × (b ≡ true)
none_both true true f g e = (refl, refl)
none_both true false f g e = cc
none_both false b f g e = cc

both_none : (a b : Bool) (f g : CertFault) → a ≡ true → b ≡ true → cond a (cond b None (Some f)) (Some g) ≡ None
both_none a b f g e h = rw (e, h) refl

abbrev has_room : Seeds → NodeKey → Bool
has_room ns key = nat_le (cells_of (seed_keys ns) + (1 + offset_of key.sp)) most_cells

pub node_steady : Steady refused_node
node_steady ns n a b h =
    let t = none_both (is_node_above (last_in ns) n.0) (has_room ns n.0) (fault.Limit limit.Cells) (fault.Order a) h in
    both_none (is_node_above (last_in ns) n.0) (has_room ns n.0) (fault.Limit limit.Cells) (fault.Order b) t.0 t.1

pub record NodesKeep (ns : Seeds) : Type 0 where
  pub ascend : IsStrictlySortedBy node_cmp (seed_keys ns)
  pub few : cells_of (seed_keys ns) ≤ most_cells

pub keys_append : (ns ms : Seeds) → seed_keys (ns ++ ms) ≡ seed_keys ns ++ seed_keys ms
keys_append ns ms = map-append (λ (e : NodeKey × NodeForm). e.0) ns ms

node_pushed : (device : Device) → KeysAreOrdered → (version : Version) (insts : List Inst) (ns : Seeds) (n : NodeKey × NodeForm) → NodesKeep ns → FitsNode device version insts (length ns) n → ((at : ℕ) → refused_node ns n at ≡ None) → NodesKeep (ns ++ n ∷ [])
node_pushed device o version insts ns n h f none =
    let t = none_both (is_node_above (last_in ns) n.0) (has_room ns n.0) (fault.Limit limit.Cells) (fault.Order 0) (none 0) in
    let up = sym (node_above_is ns n.0) ∙ t.0 in
    let room : cells_of (seed_keys ns) + (1 + offset_of n.0.sp) ≤ most_cells = grind (arith, nat_tests, t.1) in
    let P : List NodeKey → Type 0 = λ ks. IsStrictlySortedBy node_cmp ks in
    record {
      ascend = subst P (sym (keys_append ns (n ∷ []))) (sorted_push node_cmp o.nodes (seed_keys ns) n.0 h.ascend up);
      few = omega (arith, cells_more ns n, room);
    }

pub nodes_kept : (device : Device) → KeysAreOrdered → (version : Version) (insts : List Inst) (ns : Seeds) → Admitted (FitsNode device version insts) refused_node [] ns → NodesKeep ns
unfolding IsStrictlySortedBy cells_of
nodes_kept device o version insts ns h = kept_by (FitsNode device version insts) refused_node NodesKeep (node_pushed device o version insts) [] ns (record { ascend = tt; few = omega arith }) h

cells_append : (ks js : List NodeKey) → cells_of (ks ++ js) ≡ cells_of ks + cells_of js
unfolding cells_of
cells_append [] js = omega arith
cells_append (k ∷ ks) js = omega (arith, cells_append ks js)

cells_front : (k : NodeKey) (ks : List NodeKey) → cells_of (k ∷ ks) ≡ 1 + offset_of k.sp + cells_of ks
unfolding cells_of
cells_front k ks = refl

node_follows : (ns : Seeds) (n : NodeKey × NodeForm) (ms : Seeds) → NodesKeep (ns ++ n ∷ ms) → (at : ℕ) → refused_node ns n at ≡ None
node_follows ns n ms h at =
    let P : List NodeKey → Type 0 = λ ks. IsStrictlySortedBy node_cmp ks in
    let keys = keys_append ns (n ∷ ms) in
    let up = sorted_at node_cmp (seed_keys ns) n.0 (seed_keys ms) (subst P keys h.ascend) in
    let few : cells_of (seed_keys ns) + (1 + offset_of n.0.sp) ≤ most_cells =
    omega (arith, h.few, ap cells_of keys, cells_append (seed_keys ns) (seed_keys (n ∷ ms)), cells_front n.0 (seed_keys ms)) in
    let room : has_room ns n.0 ≡ true = grind (arith, nat_tests, few) in
    both_none (is_node_above (last_in ns) n.0) (has_room ns n.0) (fault.Limit limit.Cells) (fault.Order at) (node_above_is ns n.0 ∙ up) room

pub nodes_admitted : (device : Device) (version : Version) (insts : List Inst) (ns : Seeds) → NodesKeep ns → AllFrom (FitsNode device version insts) 0 ns → Admitted (FitsNode device version insts) refused_node [] ns
nodes_admitted device version insts ns h all = admitted_by (FitsNode device version insts) refused_node NodesKeep node_follows [] ns h all

pub node_spells : (device : Device) → WordLaws → NodeLines → KeysAreOrdered → (version : Version) (insts : List Inst) → IsStrictlySortedBy inst_cmp (inst_keys insts) → Spells (node_by device version insts) (node_words device version insts) (FitsNode device version insts)
node_spells device k l o version insts ascend at text n e =
    let t = l.spelled device version insts at (words_of text) n e in
    let own = number_unique o insts t.number t.inst.inst ascend t.inst.there in
    let number : inst_number n.0.inst insts ≡ t.number = ap (λ (key : InstKey). inst_number key insts) (sym t.inst.same) ∙ own in
    let P : InstKey → Type 0 = λ key. Contains (inst_keys insts) key in (
      sym (k.line_words text) ∙ ap spaced (t.words ∙ ap (λ (i : ℕ). node_words_at device version i n) (sym number)),
      (t.fits, subst P t.inst.same (key_at insts t.number t.inst.inst t.inst.there), t.of_version),
    )

pub node_reads : (device : Device) → WordLaws → NodeLines → KeysAreOrdered → (version : Version) (insts : List Inst) → length insts ≤ most_instances → Reads (node_by device version insts) (node_words device version insts) (FitsNode device version insts)
node_reads device k l o version insts few at n most h =
    let t = has_number o insts n.0.inst h.1 in
    let within = slice_get_within insts (inst_number n.0.inst insts) t.inst t.there in
    let small : inst_number n.0.inst insts < 65536 = omega (arith, within, few) in
    let inst : IsInstanceOf insts (inst_number n.0.inst insts) n.0 = record { inst = t.inst; there = t.there; same = t.same } in
    ap (node_in device version insts at) (k.words_stand (codes "node") _ (l.words device version at (inst_number n.0.inst insts) n most small h.0 h.2)) ∙ l.read device version insts at (inst_number n.0.inst insts) n most small inst h.0 h.2

pub node_is_plain : (device : Device) → NodeLines → KeysAreOrdered → (version : Version) (insts : List Inst) → length insts ≤ most_instances → (at : ℕ) (n : NodeKey × NodeForm) → at ≤ 65536 → FitsNode device version insts at n → AllByRecursion IsWord (node_words device version insts n)
node_is_plain device l o version insts few at n most h =
    let t = has_number o insts n.0.inst h.1 in
    let within = slice_get_within insts (inst_number n.0.inst insts) t.inst t.there in
    l.words device version at (inst_number n.0.inst insts) n most (omega (arith, within, few)) h.0 h.2

pub all_from : (device : Device) (version : Version) (insts : List Inst) (at : ℕ) (ns : Seeds) → AllFrom (FitsNode device version insts) at ns → AreFrom device (is_third version) at ns
all_from device version insts at [] h = tt
all_from device version insts at (n ∷ ns) h = (h.0.0, all_from device version insts (at + 1) ns h.1)

pub all_belong : (device : Device) (version : Version) (insts : List Inst) (at : ℕ) (ns : Seeds) → AllFrom (FitsNode device version insts) at ns → AllByRecursion (Belongs insts) (seed_keys ns)
all_belong device version insts at [] h = tt
all_belong device version insts at (n ∷ ns) h = (h.0.1, all_belong device version insts (at + 1) ns h.1)

pub all_of_version : (device : Device) (version : Version) (insts : List Inst) (at : ℕ) (ns : Seeds) → AllFrom (FitsNode device version insts) at ns → AllByRecursion (λ n. NodeIsOf version n) ns
all_of_version device version insts at [] h = tt
all_of_version device version insts at (n ∷ ns) h = (h.0.2, all_of_version device version insts (at + 1) ns h.1)

pub all_fit : (device : Device) (version : Version) (insts : List Inst) (at : ℕ) (ns : Seeds) → AreFrom device (is_third version) at ns → AllByRecursion (Belongs insts) (seed_keys ns) → AllByRecursion (λ n. NodeIsOf version n) ns → AllFrom (FitsNode device version insts) at ns
all_fit device version insts at [] h g o = tt
all_fit device version insts at (n ∷ ns) h g o = ((h.0, g.0, o.0), all_fit device version insts (at + 1) ns h.1 g.1 o.1)
