-- Reading and spelling of certificates are inverse.
use Rattle.std.proofs.Common.{Bool, true, false, ◌||◌, ◌-◌, length-append, ℕ, ◌+◌, ◌≤◌, ◌≡◌, List, [], ◌∷◌, ◌++◌, length, map, codes, refl, ap, ap₂, sym, ◌∙◌, arith, Option, None, Result, Ok, Err, subst, append-nil, lit<}
use Rattle.std.specs.Prelude.{IfOk}
use Rattle.std.specs.List.{AllByRecursion, flat_map}
use Rattle.std.specs.List.Sorted.{IsStrictlySortedBy}
use Rattle.std.proofs.lemmas.Grind.{flat_map-append}
use Rattle.std.proofs.lemmas.List.Elements.{recursion_from_All}
use Rattle.std.proofs.lemmas.List.{map-append}
use Rattle.avr_model.specs.declared.assumption.Entry.{Entry}
use Rattle.avr_model.specs.declared.assumption.Entry.TheVariants.{Pairs}
use Rattle.avr_model.specs.Assumptions.{has_pairs}
use Rattle.avr_model.specs.declared.device.Device.{Device}
use Rattle.avr_model.specs.Devices.{depth_of, has_elpm}
use Rattle.text_base.specs.Answers.{Answers}
use Rattle.text_base.specs.Lines.{TextLine, Position, lines_of, spaced, line, joined}
use Rattle.line_reading.specs.Words.{IsWord, WordLaws, whole}
use Rattle.vector_table.specs.Entries.{is_entry, fits_device, most_entries}
use Rattle.assumption_files.specs.Spelling.{entry_words}
use Rattle.assumption_files.specs.Exact.{EntryWords, AreEntriesOf}
use Rattle.assumption_files.proofs.AllLaws.{entry_is_words}
use Rattle.node_keys.specs.Order.{inst_cmp}
use Rattle.node_keys.specs.Laws.{KeysAreOrdered}
use Rattle.edge_rules.specs.Expansion.{Seeds}
use Rattle.witness_replay.specs.Spelling.{Plan}
use Rattle.witness_replay.specs.Exact.{TextIsReading, ReadScheduleIsSpelled as ScheduleIsSpelled, SpelledScheduleIsRead as ScheduleIsRead}
use Rattle.certificate.specs.declared.instance.Inst.{Inst}
use Rattle.certificate.specs.declared.version.Version.{Version}
use Rattle.certificate.specs.declared.version.Version.TheVariants.{One, Two, Three}
use Rattle.certificate.specs.Versions.{is_first, is_third, says_device}
use Rattle.cert_format.specs.declared.fault.CertFault.{CertFault}
use Rattle.cert_format.specs.declared.fault.CertFault.TheVariants as fault
use Rattle.certificate.specs.Insts.{IsInst, inst_keys}
use Rattle.certificate.specs.Claims.{Claim, AreFrom, IsClaim, IsCertificate, most_instances, most_nodes}
use Rattle.cert_format.specs.LineLaws.{InstLines, NodeLines}
use Rattle.avr_model.specs.Names.{class_of}
use Rattle.cert_words.specs.Text.{numbered, device_lines, inst_words, node_words, heading, entry_lines, inst_lines, node_lines, witness_lines, end_line, front_lines, certificate_lines, text_of}
use Rattle.cert_format.specs.Reading.{entry_by, inst_by, node_by, refused_entry, refused_inst, refused_node, formed, numbered_by, count_by, limited, heading_at, is_admitted, is_paired, version_with, least_entries, first_at, entries_at, insts_at, nodes_at, witness_at, end_at, claim_at, claim_alone, certificate_in}
use Rattle.cert_format.specs.Exact.{ReadCertificateIsSpelled, SpelledCertificateIsRead, CertificatesHaveOneText, PartsMakeClaims}
use Rattle.std.proofs.lemmas.Bool.{and_from}
use Rattle.cert_words.proofs.AllLaws.{depth_room, class_word}
use Rattle.line_reading.specs.Reading.{this_by, line_by}
use Rattle.line_reading.proofs.AllLaws.{passes_none, passes_end}
use Rattle.cert_format.proofs.Lists.{ok_is, err_ok, then_ok, AllFrom, all_of_any, Admitted, admitted_all, ItemsRead, items_take, items_again}
use Rattle.cert_format.proofs.FirstEntries.{version_read, firsts, firsts_count, firsts_mode, firsts_are, begins_read, with_mode, with_later, version_settled}
use Rattle.cert_format.proofs.Kept.{FitsEntry, EntryOf, AreFew, entry_steady, entries_kept, modes_kept, entries_admitted, entry_spells, entry_reads, AnyInst, inst_steady, insts_kept, insts_admitted, inst_spells, inst_reads, FitsNode, node_steady, NodesKeep, nodes_kept, nodes_admitted, node_spells, node_reads, node_is_plain, all_from, all_belong, all_of_version, all_fit}
use Rattle.cert_format.proofs.Versions.{each_of, are_of}
use Rattle.cert_format.proofs.Devices.{one_device}
use Rattle.cert_format.proofs.Parts.{Stand, first_line, stand_more, stand_cut, before, stand, plain, numbered_plain, this_take, this_line, number_take, number_line, nodes_take, nodes_line, ListPart, list_take, list_again, version_plain, heading_take, heading_again, name_words, witness_part, witness_again, end_part, end_again}

-- the laws of the lower crates
pub record LowerLaws : Type 0 where
  pub words : WordLaws
  pub insts : InstLines
  pub nodes : NodeLines
  pub entries : EntryWords
  pub keys : KeysAreOrdered
  pub schedule_spelled : ScheduleIsSpelled
  pub schedule_read : ScheduleIsRead
  pub schedule_text : TextIsReading

-- ---- the lists

pub record FirstPart (device : Device) (version : Version) (p : Position) (z : List Entry × Position) : Type 0 where
  pub all : z.0 ≡ firsts version
  pub lines : Stand p (map (entry_words device) (firsts version)) z.1

pub first_take : (device : Device) (version : Version) (p : Position) (z : List Entry × Position) → first_at version p ≡ Ok z → FirstPart device version p z
unfolding first_at
first_take device One p z e = let P : List Entry × Position → Type 0 = λ y. FirstPart device One p y in subst P (ok_is {A = List Entry × Position} ([], p) z e) (record { all = refl; lines = passes_none p })
first_take device Two p z e = let P : List Entry × Position → Type 0 = λ y. FirstPart device Two p y in subst P (ok_is {A = List Entry × Position} ([], p) z e) (record { all = refl; lines = passes_none p })
first_take device Three p z e =
    let u = then_ok (formed (line_by (this_by (spaced (entry_words device Pairs))) p)) _ z e in
    let P : List Entry × Position → Type 0 = λ y. FirstPart device Three p y in
    subst P (ok_is {A = List Entry × Position} (Pairs ∷ [], u.0.1) z u.2) (record { all = refl; lines = this_take (entry_words device Pairs) p u.0 u.1 })

first_again : (device : Device) (version : Version) (p q : Position) → Stand p (map (entry_words device) (firsts version)) q → first_at version p ≡ Ok (firsts version, q)
unfolding first_at
first_again device One p q h = ap (λ (r : Position). Ok ([], r)) (passes_end p q h)
first_again device Two p q h = ap (λ (r : Position). Ok ([], r)) (passes_end p q h)
first_again device Three p q h = rw (this_line (entry_words device Pairs) p q h) refl

pub record EntriesPart (device : Device) (version : Version) (p : Position) (z : List Entry × Position) : Type 0 where
  pub are : AreEntriesOf device z.0
  pub mode : is_third (version_with (says_device device) version z.0) ≡ has_pairs z.0
  pub lines : Stand p (entry_lines device z.0) z.1

abbrev pub SomeAdmitted : Device → Version → List Entry → Type 0
SomeAdmitted device version items = Admitted (EntryOf device (is_paired device version)) refused_entry (firsts version) items

-- the first entries of a version, and some more
pub some_keep : (device : Device) (version : Version) (items : List Entry) → SomeAdmitted device version items → AreFew device (firsts version ++ items)
some_keep device version items h = entries_kept device (is_paired device version) (firsts version) items (λ _. firsts_are device version) h

pub some_mode : (device : Device) (version : Version) (items : List Entry) → SomeAdmitted device version items → is_third (version_with (says_device device) version (firsts version ++ items)) ≡ has_pairs (firsts version ++ items)
some_mode device version items h =
    let P : Bool → Type 0 = λ b. Admitted (EntryOf device (b || is_third version)) refused_entry (firsts version) items in
    with_mode (says_device device) version (firsts version ++ items) (λ none. sym (modes_kept device (is_third version) (firsts version) items (sym (firsts_mode version)) (subst P none h)))

pub some_stand : (device : Device) (version : Version) (m s q : Position) (items : List Entry) → Stand m (map (entry_words device) (firsts version)) s → Stand s (map (entry_words device) items) q → Stand m (map (entry_words device) (firsts version ++ items)) q
some_stand device version m s q items h g =
    let P : List (List (List ℕ)) → Type 0 = λ wss. Stand m wss q in
    subst P (sym (map-append (entry_words device) (firsts version) items)) (stand_more m s q (map (entry_words device) (firsts version)) (map (entry_words device) items) h g)

some_count : (version : Version) (items : List Entry) (n : ℕ) → least_entries version ≤ n → length items ≡ n - least_entries version → length (firsts version ++ items) ≡ n
some_count version items n least e = omega (arith, length-append (firsts version) items, firsts_count version, least, e)

entries_part : (device : Device) (version : Version) (p m s : Position) (n : ℕ) (z : List Entry × Position) → Stand p (numbered (codes "assume") n ∷ []) m → least_entries version ≤ n → n ≤ most_entries → Stand m (map (entry_words device) (firsts version)) s
    → ItemsRead (entry_words device) (EntryOf device (is_paired device version)) refused_entry (firsts version) (n - least_entries version) s z → EntriesPart device version p z
entries_part device version p m s n z count least most first r =
    let all : List Entry = firsts version ++ r.items in
    let number : length all ≡ n = some_count version r.items n least r.number in
    let P : ℕ → Type 0 = λ i. Stand p (numbered (codes "assume") i ∷ []) m in
    let Q : List Entry → Type 0 = λ es. EntriesPart device version p (es, z.1) in
    subst Q r.all (record {
      are = some_keep device version r.items r.fit (omega (arith, number, most));
      mode = some_mode device version r.items r.fit;
      lines = stand_more p m z.1 (numbered (codes "assume") (length all) ∷ []) (map (entry_words device) all) (subst P (sym number) count) (some_stand device version m s z.1 r.items first r.passes);
    })

pub entries_take : (device : Device) → LowerLaws → (version : Version) (p : Position) (z : List Entry × Position) → entries_at device version p ≡ Ok z → EntriesPart device version p z
unfolding entries_at
entries_take device b version p z e =
    let paired = is_paired device version in
    let n = then_ok (formed (line_by (numbered_by (codes "assume") (least_entries version) most_entries) p)) _ z e in
    let count = number_take b.words (codes "assume") (least_entries version) most_entries p n.0 (lit< tt) n.1 in
    let f = then_ok (first_at version n.0.1) _ z n.2 in
    let first = first_take device version n.0.1 f.0 f.1 in
    let r = items_take (λ at. entry_by device paired) (entry_words device) (EntryOf device paired) refused_entry (entry_spells device b.words b.entries paired) entry_steady f.0.0 (n.0.0 - least_entries version) f.0.1 z f.2 in
    let P : List Entry → Type 0 = λ front. ItemsRead (entry_words device) (EntryOf device paired) refused_entry front (n.0.0 - least_entries version) f.0.1 z in
    entries_part device version p n.0.1 f.0.1 n.0.0 z count.0 count.1 count.2 first.lines (subst P first.all r)

all_behind : {A : Type 0} (P : A → Type 0) (front xs : List A) → AllByRecursion P (front ++ xs) → AllByRecursion P xs
all_behind P [] xs h = h
all_behind P (y ∷ ys) xs h = all_behind P ys xs h.1

-- each entry of the device
all_fitting : (device : Device) (es : List Entry) → AllByRecursion (λ e. is_entry e ≡ true) es → AllByRecursion (λ e. fits_device device e ≡ true) es → AllByRecursion (FitsEntry device) es
all_fitting device [] h g = tt
all_fitting device (e ∷ es) h g = (and_from (is_entry e) (fits_device device e) h.0 g.0, all_fitting device es h.1 g.1)

entries_of : (device : Device) → LowerLaws → (version : Version) (p : Position) (rest : List Entry) (q : Position) → AreEntriesOf device (firsts version ++ rest) → AllByRecursion (λ e. is_admitted (is_paired device version) e ≡ true) rest
    → Stand p (entry_lines device (firsts version ++ rest)) q → entries_at device version p ≡ Ok (firsts version ++ rest, q)
unfolding entries_at
entries_of device b version p rest q h admitted s =
    let all : List Entry = firsts version ++ rest in
    let size : length all ≡ least_entries version + length rest = omega (arith, length-append (firsts version) rest, firsts_count version) in
    let few = h.are.few in
    let c = stand_cut p q (numbered (codes "assume") (length all) ∷ []) (map (entry_words device) all) s in
    let P : List (List (List ℕ)) → Type 0 = λ wss. Stand c.0 wss q in
    let d = stand_cut c.0 q (map (entry_words device) (firsts version)) (map (entry_words device) rest) (subst P (map-append (entry_words device) (firsts version) rest) c.2) in
    let number = number_line b.words (codes "assume") (least_entries version) most_entries (length all) p c.0 (plain (codes "assume" ∷ []) refl).0 (lit< tt) (omega (arith, size)) few c.1 in
    let fits = all_behind (FitsEntry device) (firsts version) rest (all_fitting device all (recursion_from_All (λ e. is_entry e ≡ true) all h.are.each) (recursion_from_All (λ e. fits_device device e ≡ true) all h.fit)) in
    let paired = is_paired device version in
    let items = items_again (λ at. entry_by device paired) (entry_words device) (EntryOf device paired) refused_entry (entry_reads device b.words b.entries paired) (firsts version) rest (length all - least_entries version) d.0 q
    (omega (arith, size, few, firsts_count version)) (entries_admitted device paired (firsts version) rest h fits admitted) (omega (arith, size)) d.2 in
    rw (number, first_again device version c.0 d.0 d.1) items

entries_again : (device : Device) → LowerLaws → (version : Version) (p : Position) (es : List Entry) (q : Position) → AreEntriesOf device es → is_third version ≡ has_pairs es → Stand p (entry_lines device es) q
    → entries_at device (version_read (says_device device) version) p ≡ Ok (es, q)
entries_again device b version p es q h mode s =
    let read = version_read (says_device device) version in
    let t = begins_read (says_device device) version es h.are mode in
    let P : List Entry → Type 0 = λ xs. Stand p (entry_lines device xs) q in
    let Q : List Entry → Type 0 = λ xs. entries_at device read p ≡ Ok (xs, q) in
    subst Q (sym t.all) (entries_of device b read p t.rest q (subst (AreEntriesOf device) t.all h) t.admitted (subst P t.all s))

pub insts_take : (device : Device) → LowerLaws → (p : Position) (z : List Inst × Position) → insts_at device p ≡ Ok z → ListPart (codes "instances") most_instances (inst_words device) (AnyInst device) refused_inst p z
unfolding insts_at
insts_take device b p z e =
    let n = then_ok (formed (line_by (numbered_by (codes "instances") 0 most_instances) p)) _ z e in
    let count = number_take b.words (codes "instances") 0 most_instances p n.0 (lit< tt) n.1 in
    list_take (λ at. inst_by device) (inst_words device) (AnyInst device) refused_inst (inst_spells device b.words b.insts) inst_steady (codes "instances") most_instances n.0.0 p n.0.1 z count.0 count.2 n.2

insts_again : (device : Device) → LowerLaws → (p : Position) (xs : List Inst) (q : Position) → IsStrictlySortedBy inst_cmp (inst_keys xs) → AllByRecursion (IsInst device) xs → length xs ≤ most_instances → Stand p (inst_lines device xs) q → insts_at device p ≡ Ok (xs, q)
unfolding insts_at
insts_again device b p xs q ascend all few s =
    let r = list_again (λ at. inst_by device) (inst_words device) (AnyInst device) refused_inst (inst_reads device b.words b.insts) (codes "instances") xs p q (omega (arith, few)) (insts_admitted device xs ascend all) s in
    let count = number_line b.words (codes "instances") 0 most_instances (length xs) p r.0 (plain (codes "instances" ∷ []) refl).0 (lit< tt) (omega arith) few r.1 in
    rw count r.2

pub nodes_part : (device : Device) → LowerLaws → (version : Version) (insts : List Inst) → IsStrictlySortedBy inst_cmp (inst_keys insts) → (p : Position) (z : Seeds × Position) → nodes_at device version insts p ≡ Ok z
    → ListPart (codes "nodes") most_nodes (node_words device version insts) (FitsNode device version insts) refused_node p z
unfolding nodes_at
nodes_part device b version insts ascend p z e =
    let n = then_ok (limited (formed (line_by count_by p))) _ z e in
    let count = nodes_take b.words p n.0 n.1 in
    list_take (node_by device version insts) (node_words device version insts) (FitsNode device version insts) refused_node (node_spells device b.words b.nodes b.keys version insts ascend) node_steady (codes "nodes") most_nodes n.0.0 p n.0.1 z count.0 count.1 n.2

nodes_again : (device : Device) → LowerLaws → (version : Version) (insts : List Inst) → length insts ≤ most_instances → (p : Position) (ns : Seeds) (q : Position) → NodesKeep ns → AllFrom (FitsNode device version insts) 0 ns → length ns ≤ most_nodes
    → Stand p (node_lines device version insts ns) q → nodes_at device version insts p ≡ Ok (ns, q)
unfolding nodes_at
nodes_again device b version insts few p ns q keep all most s =
    let r = list_again (node_by device version insts) (node_words device version insts) (FitsNode device version insts) refused_node (node_reads device b.words b.nodes b.keys version insts few) (codes "nodes") ns p q (omega (arith, most)) (nodes_admitted device version insts ns keep all) s in
    let count = nodes_line b.words (length ns) p r.0 most r.1 in
    rw count r.2

-- ---- what is read is spelled so

-- where the text says its device, its first line is that of every version
pub same_line : (says banked : Bool) (version : Version) (es : List Entry) → first_line says banked version ≡ first_line says banked (version_with says version es)
same_line true true version es = refl
same_line true false version es = refl
same_line false banked version es = refl

pub claim_of : (device : Device) (version : Version) (n : ℕ) (es : List Entry) (xs : List Inst) (ns : Seeds) (w : Option Plan) → n ≤ depth_of device → AreEntriesOf device es → is_third version ≡ has_pairs es → (says_device device ≡ true → is_first version ≡ false) → AllByRecursion (IsInst device) xs → IsStrictlySortedBy inst_cmp (inst_keys xs) → length xs ≤ most_instances
    → AllFrom (FitsNode device version xs) 0 ns → NodesKeep ns → length ns ≤ most_nodes → IsClaim (record { device = device; version = version; bound = n; assumptions = es; instances = xs; nodes = ns; witness = w })
claim_of device version n es xs ns w small he mode later hx ax few hn kn most = record {
  bound_fits = small;
  entries_fit = he.are;
  entries_of_device = he.fit;
  insts_fit = hx;
  insts_ascend = ax;
  few_insts = few;
  nodes_fit = subst (λ followed. AreFrom device followed 0 ns) mode (all_from device version xs 0 ns hn);
  nodes_belong = all_belong device version xs 0 ns hn;
  nodes_ascend = kn.ascend;
  few_nodes = most;
  few_cells = kn.few;
  of_version = are_of version ns (all_of_version device version xs 0 ns hn);
  of_list = mode;
  of_device = later;
}

claim_by : (device : Device) → LowerLaws → (read : Version) (n : ℕ) (a c d : Position) (es : List Entry × Position) (xs : List Inst × Position) (ns : Seeds × Position) (w : Option Plan) → n ≤ depth_of device → entries_at device read a ≡ Ok es → insts_at device c ≡ Ok xs
    → nodes_at device (version_with (says_device device) read es.0) xs.0 d ≡ Ok ns
    → IsClaim (record { device = device; version = version_with (says_device device) read es.0; bound = n; assumptions = es.0; instances = xs.0; nodes = ns.0; witness = w })
claim_by device b read n a c d es xs ns w small e f g =
    let version = version_with (says_device device) read es.0 in
    let entries = entries_take device b read a es e in
    let insts = insts_take device b c xs f in
    let ascend = insts_kept device b.keys xs.0 insts.fit in
    let nodes = nodes_part device b version xs.0 ascend d ns g in
    claim_of device version n es.0 xs.0 ns.0 w small entries.are entries.mode (with_later (says_device device) read es.0) (all_of_any (IsInst device) 0 xs.0 (admitted_all (AnyInst device) refused_inst [] xs.0 insts.fit)) ascend insts.few
    (admitted_all (FitsNode device version xs.0) refused_node [] ns.0 nodes.fit) (nodes_kept device b.keys version xs.0 ns.0 nodes.fit) nodes.few

record ClaimRead (device : Device) (p : Position) (z : Claim × Position) : Type 0 where
  pub is : z.0.device ≡ device
  pub certificate : IsCertificate z.0
  pub lines : Stand p (certificate_lines z.0) z.1
  pub over : z.1.rest ≡ []

claim_take : (device : Device) → LowerLaws → (p : Position) (z : Claim × Position) → claim_at device p ≡ Ok z → ClaimRead device p z
unfolding claim_at
claim_take device k p z e =
    let b = then_ok (heading_at device p) _ z e in
    let a = then_ok (entries_at device b.0.0.0 b.0.1) _ z b.2 in
    let i = then_ok (insts_at device a.0.1) _ z a.2 in
    let says = says_device device in
    let version = version_with says b.0.0.0 a.0.0 in
    let n = then_ok (nodes_at device version i.0.0 i.0.1) _ z i.2 in
    let w = then_ok (witness_at device n.0.1) _ z n.2 in
    let d = then_ok (end_at w.0.1) _ z w.2 in
    let top = heading_take device k.words p b.0 b.1 in
    let entries = entries_take device k b.0.0.0 b.0.1 a.0 a.1 in
    let insts = insts_take device k a.0.1 i.0 i.1 in
    let nodes = nodes_part device k version i.0.0 (insts_kept device k.keys i.0.0 insts.fit) i.0.1 n.0 n.1 in
    let witness = witness_part device k.schedule_spelled n.0.1 w.0 w.1 in
    let end = end_part w.0.1 d.0 d.1 in
    let last = stand_more n.0.1 w.0.1 d.0.1 (witness_lines w.0.0) (end_line ∷ []) witness.lines end.lines in
    let third = stand_more a.0.1 i.0.1 n.0.1 (inst_lines device i.0.0) (node_lines device version i.0.0 n.0.0) insts.lines nodes.lines in
    let second = stand_more b.0.1 a.0.1 n.0.1 (entry_lines device a.0.0) (inst_lines device i.0.0 ++ node_lines device version i.0.0 n.0.0) entries.lines third in
    let H : List (List ℕ) → Type 0 = λ l. Stand p (l ∷ (device_lines says device ++ numbered (codes "bound") b.0.0.1 ∷ [])) b.0.1 in
    let first = stand_more p b.0.1 n.0.1 (heading device version b.0.0.1) (entry_lines device a.0.0 ++ (inst_lines device i.0.0 ++ node_lines device version i.0.0 n.0.0)) (subst H (same_line says (has_elpm device) b.0.0.0 a.0.0) top.lines) second in
    let all = stand_more p n.0.1 d.0.1 (heading device version b.0.0.1 ++ (entry_lines device a.0.0 ++ (inst_lines device i.0.0 ++ node_lines device version i.0.0 n.0.0))) (witness_lines w.0.0 ++ end_line ∷ []) first last in
    let P : Claim × Position → Type 0 = λ y. ClaimRead device p y in
    subst P (ok_is {A = Claim × Position} (record { device = device; version = version; bound = b.0.0.1; assumptions = a.0.0; instances = i.0.0; nodes = n.0.0; witness = w.0.0 }, d.0.1) z d.2) (record {
      is = refl;
      certificate = record { claim = claim_by device k b.0.0.0 b.0.0.1 b.0.1 a.0.1 i.0.1 a.0 i.0 n.0 w.0.0 top.small a.1 i.1 n.1; schedule = witness.schedule };
      lines = all;
      over = end.over;
    })

alone : (d : Result (Claim × Position) CertFault) (c : Claim) → claim_alone d ≡ Ok c → (q : Position) × (d ≡ Ok (c, q))
alone (Ok x) c e = (x.1, ap (λ (y : Claim). Ok (y, x.1)) (ok_is x.0 c e))
alone (Err f) c e = absurd (err_ok f c e)

spelled_text : WordLaws → (device : Device) (text : List ℕ) (c : Claim) (q : Position) → ClaimRead device (before 0 text) (c, q) → text ≡ text_of c
spelled_text k device text c q h =
    let t = k.lines_text (before 0 text) (certificate_lines c) q h.lines in
    let none : joined q.rest ≡ [] = ap joined h.over in
    sym (k.text_joined text) ∙ t.bytes ∙ ap (λ (xs : List ℕ). text_of c ++ xs) none ∙ append-nil (text_of c)

pub read_is_spelled : LowerLaws → ReadCertificateIsSpelled
unfolding certificate_in
read_is_spelled k device text c e =
    let a = alone (claim_at device (before 0 text)) c e in
    let h = claim_take device k (before 0 text) (c, a.0) a.1 in
    (h.is, spelled_text k.words device text c a.0 h, h.certificate)

-- ---- what is spelled is read

all_plain : {A : Type 0} (words : A → List (List ℕ)) (P : A → Type 0) → ((x : A) → P x → AllByRecursion IsWord (words x)) → (xs : List A) → AllByRecursion P xs → AllByRecursion (AllByRecursion IsWord) (map words xs)
all_plain words P step [] h = tt
all_plain words P step (x ∷ xs) h = (step x h.0, all_plain words P step xs h.1)

joined_plain : (xs bs : List (List (List ℕ))) → AllByRecursion (AllByRecursion IsWord) xs → AllByRecursion (AllByRecursion IsWord) bs → AllByRecursion (AllByRecursion IsWord) (xs ++ bs)
joined_plain [] bs h g = g
joined_plain (a ∷ xs) bs h g = (h.0, joined_plain xs bs h.1 g)

node_plain_all : (device : Device) → LowerLaws → (version : Version) (insts : List Inst) → length insts ≤ most_instances → (at : ℕ) (ns : Seeds) → at + length ns ≤ most_nodes → AllFrom (FitsNode device version insts) at ns
    → AllByRecursion (AllByRecursion IsWord) (map (node_words device version insts) ns)
node_plain_all device b version insts few at [] most h = tt
node_plain_all device b version insts few at (n ∷ ns) most h = (node_is_plain device b.nodes b.keys version insts few at n (omega (arith, most)) h.0, node_plain_all device b version insts few (at + 1) ns (omega (arith, most)) h.1)

heading_plain : (says banked : Bool) (device : Device) (version : Version) (n : ℕ) → AllByRecursion IsWord (numbered (codes "bound") n)
    → AllByRecursion (AllByRecursion IsWord) (first_line says banked version ∷ (device_lines says device ++ numbered (codes "bound") n ∷ []))
heading_plain true banked device version n h = (version_plain true banked version, (name_words (class_of device) (class_word device), (h, tt)))
heading_plain false banked device version n h = (version_plain false banked version, (h, tt))

pub fitting_nodes : (c : Claim) → IsClaim c → AllFrom (FitsNode c.device c.version c.instances) 0 c.nodes
fitting_nodes c h = all_fit c.device c.version c.instances 0 c.nodes (subst (λ followed. AreFrom c.device followed 0 c.nodes) (sym h.of_list) h.nodes_fit) h.nodes_belong (each_of c.version c.nodes h.of_version)

front_plain : LowerLaws → (c : Claim) → IsClaim c → AllByRecursion (AllByRecursion IsWord) (front_lines c)
front_plain b c h =
    let k = b.words in
    let bound = numbered_plain k (codes "bound") c.bound (plain (codes "bound" ∷ []) refl).0 (omega (arith, h.bound_fits, depth_room c.device)) in
    let entries : AllByRecursion (AllByRecursion IsWord) (entry_lines c.device c.assumptions) = (
      numbered_plain k (codes "assume") (length c.assumptions) (plain (codes "assume" ∷ []) refl).0 (omega (arith, h.entries_fit.few)),
      all_plain (entry_words c.device) (FitsEntry c.device) (entry_is_words k c.device) c.assumptions
          (all_fitting c.device c.assumptions (recursion_from_All (λ e. is_entry e ≡ true) c.assumptions h.entries_fit.each) (recursion_from_All (λ e. fits_device c.device e ≡ true) c.assumptions h.entries_of_device)),
    ) in
    let insts : AllByRecursion (AllByRecursion IsWord) (inst_lines c.device c.instances) = (numbered_plain k (codes "instances") (length c.instances) (plain (codes "instances" ∷ []) refl).0 (omega (arith, h.few_insts)), all_plain (inst_words c.device) (IsInst c.device) (b.insts.words c.device) c.instances h.insts_fit) in
    let nodes : AllByRecursion (AllByRecursion IsWord) (node_lines c.device c.version c.instances c.nodes) = (
      numbered_plain k (codes "nodes") (length c.nodes) (plain (codes "nodes" ∷ []) refl).0 (omega (arith, h.few_nodes)),
      node_plain_all c.device b c.version c.instances h.few_insts 0 c.nodes (omega (arith, h.few_nodes)) (fitting_nodes c h),
    ) in
    joined_plain (heading c.device c.version c.bound) (entry_lines c.device c.assumptions ++ (inst_lines c.device c.instances ++ node_lines c.device c.version c.instances c.nodes)) (heading_plain (says_device c.device) (has_elpm c.device) c.device c.version c.bound bound) (joined_plain (entry_lines c.device c.assumptions) (inst_lines c.device c.instances ++ node_lines c.device c.version c.instances c.nodes) entries (joined_plain (inst_lines c.device c.instances) (node_lines c.device c.version c.instances c.nodes) insts nodes))

again_at : LowerLaws → (c : Claim) → IsClaim c → (p q : Position) → Stand p (front_lines c) q
    → (a : Position) × (d : Position) × (f : Position) × (heading_at c.device p ≡ Ok ((version_read (says_device c.device) c.version, c.bound), a)) × (entries_at c.device (version_read (says_device c.device) c.version) a ≡ Ok (c.assumptions, d)) × (insts_at c.device d ≡ Ok (c.instances, f)) × (nodes_at c.device c.version c.instances f ≡ Ok (c.nodes, q))
again_at b c h p q s =
    let x = stand_cut p q (heading c.device c.version c.bound) (entry_lines c.device c.assumptions ++ (inst_lines c.device c.instances ++ node_lines c.device c.version c.instances c.nodes)) s in
    let y = stand_cut x.0 q (entry_lines c.device c.assumptions) (inst_lines c.device c.instances ++ node_lines c.device c.version c.instances c.nodes) x.2 in
    let z = stand_cut y.0 q (inst_lines c.device c.instances) (node_lines c.device c.version c.instances c.nodes) y.2 in (
      x.0,
      y.0,
      z.0,
      heading_again c.device b.words p c.version c.bound x.0 h.bound_fits x.1,
      entries_again c.device b c.version x.0 c.assumptions y.0 (record { are = h.entries_fit; fit = h.entries_of_device }) h.of_list y.1,
      insts_again c.device b y.0 c.instances z.0 h.insts_ascend h.insts_fit h.few_insts z.1,
      nodes_again c.device b c.version c.instances h.few_insts z.0 c.nodes q (record { ascend = h.nodes_ascend; few = h.few_cells }) (fitting_nodes c h) h.few_nodes z.2,
    )

text_parts : (c : Claim) → text_of c ≡ flat_map line (front_lines c) ++ (flat_map line (witness_lines c.witness) ++ flat_map line (end_line ∷ []))
text_parts c =
    flat_map-append line (front_lines c) (witness_lines c.witness ++ end_line ∷ [])
    ∙ ap (λ (xs : List ℕ). flat_map line (front_lines c) ++ xs) (flat_map-append line (witness_lines c.witness) (end_line ∷ []))

claim_again : LowerLaws → (c : Claim) → IsCertificate c
    → (q : Position) × (claim_at c.device (before 0 (flat_map line (front_lines c) ++ (flat_map line (witness_lines c.witness) ++ flat_map line (end_line ∷ [])))) ≡ Ok (c, q))
unfolding claim_at
claim_again b c h =
    let text : List ℕ = flat_map line (witness_lines c.witness) ++ flat_map line (end_line ∷ []) in
    let p = before 0 (flat_map line (front_lines c) ++ text) in
    let m = before (0 + length (flat_map line (front_lines c))) text in
    let r = again_at b c h.claim p m (stand b.words (front_lines c) 0 text (front_plain b c h.claim)) in
    let witness = witness_again c.device b.words b.schedule_text b.schedule_read c.witness (0 + length (flat_map line (front_lines c))) (flat_map line (end_line ∷ [])) h.schedule in
    let end = end_again b.words witness.0 in
    let settled = version_settled (says_device c.device) c.version c.assumptions h.claim.of_list h.claim.of_device in
    (before end.0 [], rw (r.3, r.4, r.5, settled, r.6, witness.1, end.1) refl)

pub spelled_is_read : LowerLaws → SpelledCertificateIsRead
unfolding certificate_in
spelled_is_read b c h =
    let a = claim_again b c h in
    ap (λ (text : List ℕ). claim_alone (claim_at c.device (before 0 text))) (text_parts c) ∙ ap claim_alone a.1

-- the lines of a certificate's text begin with those before the schedule
opening : LowerLaws → (c : Claim) → IsCertificate c → (rest : List TextLine) × (lines_of (text_of c) ≡ map whole (front_lines c) ++ rest)
opening k c h =
    let text : List ℕ = flat_map line (witness_lines c.witness) ++ flat_map line (end_line ∷ []) in
    let s = stand k.words (front_lines c) 0 text (front_plain k c h.claim) in
    (lines_of text, ap lines_of (text_parts c) ∙ s.lines)

pub one_text : LowerLaws → CertificatesHaveOneText
one_text k a b h g same e =
    let x = opening k a h in
    let y = opening k b g in
    let rest : Claim → List (List (List ℕ)) = λ c. entry_lines c.device c.assumptions ++ (inst_lines c.device c.instances ++ node_lines c.device c.version c.instances c.nodes) in
    let bound : Claim → List (List (List ℕ)) = λ c. numbered (codes "bound") c.bound ∷ [] in
    let device = one_device k.words a.device b.device (says_device a.device) (says_device b.device) refl refl (has_elpm a.device) (has_elpm b.device) a.version b.version (bound a) (rest a) (bound b) (rest b) x.0 y.0 (sym x.1 ∙ ap lines_of e ∙ y.1) same in
    ok_is a b (sym (spelled_is_read k a h) ∙ ap₂ (λ (d : Device) (text : List ℕ). certificate_in d text) device e ∙ spelled_is_read k b g)

-- ---- what is answered

-- the claim read at the beginning of a text is that of the text
pub answered : (device : Device) (text : List ℕ) (p q : Position) (r : Result Claim CertFault) → p ≡ record { at = 0; rest = lines_of text } → Answers (λ c. (c, q)) fault.Memory r (claim_at device p) → Answers (λ c. c) fault.Memory r (certificate_in device text)
unfolding certificate_in
answered device text p q (Ok c) e h = ap claim_alone (rw e at h)
answered device text p q (Err f) e h = λ other. ap claim_alone (rw e at (h other))

pub claims_keep : LowerLaws → PartsMakeClaims
claims_keep k device version a d f q n es xs ns small e g h = claim_by device k version n a d f (es, d) (xs, f) (ns, q) None small e g h

pub found : ReadCertificateIsSpelled → (device : Device) (text : List ℕ) (r : Result Claim CertFault) → Answers (λ c. c) fault.Memory r (certificate_in device text) → IfOk r (λ c. text ≡ text_of c)
found read device text (Ok c) h = (read device text c h).1
found read device text (Err f) h = tt

-- the certificate is for the device
pub for_device : ReadCertificateIsSpelled → (device : Device) (text : List ℕ) (r : Result Claim CertFault) → Answers (λ c. c) fault.Memory r (certificate_in device text) → IfOk r (λ c. c.device ≡ device)
for_device read device text (Ok c) h = (read device text c h).0
for_device read device text (Err f) h = tt

pub kept : ReadCertificateIsSpelled → (device : Device) (text : List ℕ) (r : Result Claim CertFault) → Answers (λ c. c) fault.Memory r (certificate_in device text) → IfOk r IsCertificate
kept read device text (Ok c) h = (read device text c h).2
kept read device text (Err f) h = tt

pub spelled : SpelledCertificateIsRead → (device : Device) (text : List ℕ) (r : Result Claim CertFault) → Answers (λ c. c) fault.Memory r (certificate_in device text) → (c : Claim) → IsCertificate c → c.device ≡ device → text ≡ text_of c → Answers (λ x. x) fault.Memory r (Ok c)
spelled reads device text (Ok x) h c k is e = sym (reads c k) ∙ ap₂ (λ (d : Device) (t : List ℕ). certificate_in d t) is (sym e) ∙ h
spelled reads device text (Err f) h c k is e = λ other. sym (reads c k) ∙ ap₂ (λ (d : Device) (t : List ℕ). certificate_in d t) is (sym e) ∙ h other
