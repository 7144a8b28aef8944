-- The length of the words and lines of a certificate.
use Rattle.std.proofs.Common.{ℕ, zero, suc, ◌+◌, ◌*◌, ◌-◌, ◌<◌, ◌≤◌, ◌≡◌, ◌&&◌, List, [], ◌∷◌, ◌++◌, length, length-append, map, take, codes, Bool, true, false, not, refl, ap, ◌∙◌, arith, Option, Some, None, cond, nat_le}
use Rattle.std.specs.Prelude.{IfSome}
use Rattle.std.specs.Fmt.{decimal}
use Rattle.std.specs.List.{AllByRecursion, flat_map, list_all}
use Rattle.std.proofs.lemmas.Bool.Decides.{nat_tests}
use Rattle.std.proofs.lemmas.Fmt.{length-decimal-le}
use Rattle.std.proofs.lemmas.Grind.{flat_map-append}
use Rattle.std.proofs.lemmas.List.{length-replicate}
use Rattle.std.proofs.lemmas.List.Elements.{recursion_from_All}
use Rattle.std.proofs.lemmas.Bool.{and_parts}
use Rattle.text_base.specs.Digits.{hex_digits}
use Rattle.text_base.specs.Lines.{spaced, line}
use Rattle.avr_model.specs.declared.assumption.Entry.{Entry}
use Rattle.avr_model.specs.declared.assumption.Entry.TheVariants as entry
use Rattle.avr_model.specs.declared.device.Device.{Device}
use Rattle.avr_model.specs.State.{SIZE}
use Rattle.avr_model.specs.Vectors.{last_vector, is_vector}
use Rattle.avr_model.proofs.AllLaws.{devices_are_alike}
use Rattle.vector_table.specs.Entries.{are_items, is_entry, is_io, ascends, is_word}
use Rattle.avr_model.specs.Assumptions.{has_pairs}
use Rattle.sp_domain.specs.declared.tags.Tag.{Tag}
use Rattle.sp_domain.specs.declared.tags.Tag.TheVariants as tag
use Rattle.sp_domain.specs.declared.tags.CarryTag.{CarryTag}
use Rattle.sp_domain.specs.declared.tags.CarryTag.TheVariants as carry
use Rattle.sp_domain.specs.declared.slots.Slot.{Slot}
use Rattle.sp_domain.specs.declared.slots.Slot.TheVariants.{Free, Guarded}
use Rattle.bit_domain.specs.declared.bytes.TriByte.{TriByte}
use Rattle.pair_domain.specs.declared.facts.PairFacts.{PairFacts}
use Rattle.pair_domain.specs.Rank.{KnownFits}
use Rattle.pair_words.proofs.AllLaws.{sum_short, compare_short, zero_short, intervals_short}
use Rattle.abs_state.specs.declared.values.AbsByte.{AbsByte}
use Rattle.abs_state.specs.declared.state.AbsState.{AbsState}
use Rattle.node_keys.specs.declared.keys.Kind.{Kind}
use Rattle.node_keys.specs.declared.keys.Kind.TheVariants.{Root, Call, Vector}
use Rattle.node_keys.specs.declared.keys.InstKey.{InstKey}
use Rattle.node_keys.specs.declared.keys.NodeKey.{NodeKey}
use Rattle.node_keys.specs.declared.keys.High.{High}
use Rattle.node_keys.specs.declared.keys.High.TheVariants as high
use Rattle.node_keys.specs.declared.keys.SpForm.{SpForm}
use Rattle.node_keys.specs.declared.keys.SpForm.TheVariants.{Closed, Open}
use Rattle.node_keys.specs.Keys.{offset_of}
use Rattle.node_keys.specs.Order.{same_inst}
use Rattle.edge_rules.specs.declared.seeded.NodeForm.{NodeForm}
use Rattle.edge_rules.specs.declared.seeded.NodeForm.TheVariants.{State, From}
use Rattle.edge_rules.specs.Expansion.{Seeds}
use Rattle.avr_model.specs.declared.choice.Choice.TheVariants as choice
use Rattle.witness_replay.specs.declared.schedule.Run.{Run}
use Rattle.witness_replay.specs.declared.schedule.Run.TheVariants.{Go, Take}
use Rattle.witness_replay.specs.Spelling.{Plan, bit, weight, choices_of, choices_of_run, most_choices, IsCounted, AreRuns, IsSchedule, run_words}
use Rattle.avr_model.specs.Devices.{word_digits, has_elpm}
use Rattle.assumption_files.specs.Spelling.{word_address_text, number_words, entry_words}
use Rattle.assumption_files.proofs.AllLaws.{most_digits}
use Rattle.certificate.specs.declared.instance.Inst.{Inst}
use Rattle.certificate.specs.declared.version.Version.{Version}
use Rattle.certificate.specs.declared.version.Version.TheVariants.{One, Two, Three}
use Rattle.avr_model.specs.Names.{class_of}
use Rattle.cert_words.proofs.AllLaws.{class_short}
use Rattle.certificate.specs.Versions.{says_device}
use Rattle.certificate.specs.Insts.{is_vector_word, fits_kind, IsInst}
use Rattle.certificate.specs.Claims.{Claim, IsClaim, FitsAt, AreFrom, cells_of, seed_keys}
use Rattle.cert_words.specs.Spelling.{bits_text, tag_text, range_text, value_word, flags_word, carry_word, slot_word, high_text, form_word}
use Rattle.certificate.specs.Hulls.{hulls_of}
use Rattle.cert_words.specs.KeySpelling.{masks_digits, register_count, kind_word, pick_word, pick_words, point_words, pairs_words, state_words, form_words}
use Rattle.cert_words.specs.Text.{numbered, version_word, version_line, device_line, device_lines, heading, entry_lines, inst_words, inst_lines, inst_number, node_words, node_lines, attained_line, witness_lines, end_line, front_lines}
use Rattle.line_reading.proofs.AllLaws.{length_hex}
use Rattle.cert_writing.specs.Sizes.{HasFewChoices, TextsFit}

-- ---- lines

-- the number of bytes of words, each with the separator after it
abbrev taken : List (List ℕ) → ℕ
taken [] = 0
taken (w ∷ ws) = length w + 1 + taken ws

spaced_short : (ws : List (List ℕ)) → length (spaced ws) ≤ taken ws
spaced_short [] = omega arith
spaced_short (w ∷ []) = omega arith
spaced_short (w ∷ v ∷ ws) = omega (arith, length-append w (32 ∷ spaced (v ∷ ws)), spaced_short (v ∷ ws))

line_short : (ws : List (List ℕ)) → length (line ws) ≤ taken ws + 1
line_short ws = omega (arith, length-append (spaced ws) (10 ∷ []), spaced_short ws)

taken_both : (vs ws : List (List ℕ)) → taken (vs ++ ws) ≡ taken vs + taken ws
taken_both [] ws = omega arith
taken_both (v ∷ vs) ws = omega (arith, taken_both vs ws)

-- words of at most 13 bytes
taken_few : {A : Type 0} (word : A → List ℕ) → ((x : A) → length (word x) ≤ 13) → (xs : List A) → taken (map word xs) ≤ 14 * length xs
taken_few word short [] = omega arith
taken_few word short (x ∷ xs) = omega (arith, short x, taken_few word short xs)

abbrev text : {A : Type 0} → (A → List (List ℕ)) → List A → ℕ
text words xs = length (flat_map line (map words xs))

text_more : {A : Type 0} (words : A → List (List ℕ)) (x : A) (xs : List A) → text words (x ∷ xs) ≤ taken (words x) + 1 + text words xs
text_more words x xs = omega (arith, length-append (line (words x)) (flat_map line (map words xs)), line_short (words x))

-- ---- numbers

number_short : (n : ℕ) → n < 4294967296 → length (decimal n) ≤ 10
number_short n h = length-decimal-le 10 n (omega arith) (omega (arith, h)) (omega (arith, h))

bit_short : (b : Bool) → length (bit b) ≡ 1
bit_short true = refl
bit_short false = refl

-- ---- values

bits_long : (t : TriByte) → length (bits_text t) ≡ 4
bits_long t = omega (arith, length-append (hex_digits t.known 2) (hex_digits t.value 2), length_hex t.known 2, length_hex t.value 2)

tag_short : (t : Tag) → length (tag_text t) ≤ 5
tag_short tag.None = omega arith
tag_short (tag.Entry r) = omega (arith, length_hex r 2)
tag_short tag.EntryFlags = omega arith
tag_short (tag.SpLo j) = omega (arith, length_hex j 2)
tag_short (tag.SpHi k) = omega (arith, length_hex k 4)

range_short : (version : Version) (v : AbsByte) → length (range_text version v) ≤ 4
range_short One v = omega arith
range_short Two v = omega (arith, length-append (hex_digits v.low 2) (hex_digits v.high 2), length_hex v.low 2, length_hex v.high 2)
range_short Three v = omega (arith, length-append (hex_digits v.low 2) (hex_digits v.high 2), length_hex v.low 2, length_hex v.high 2)

value_short : (version : Version) (v : AbsByte) → length (value_word version v) ≤ 13
value_short version v =
    omega (arith, length-append (tag_text v.tag) (bits_text v.bits ++ range_text version v), length-append (bits_text v.bits) (range_text version v), tag_short v.tag, bits_long v.bits, range_short version v)

slot_short : (version : Version) (s : Slot AbsByte) → length (slot_word version s) ≤ 13
slot_short version Free = omega arith
slot_short version (Guarded v) = value_short version v

flags_long : (entry : Bool) (bits : TriByte) → length (flags_word entry bits) ≡ 5
flags_long true bits = omega (arith, bits_long bits)
flags_long false bits = omega (arith, bits_long bits)

pair_long : (a b : ℕ) → length (hex_digits a 2 ++ hex_digits b 2) ≡ 4
pair_long a b = omega (arith, length-append (hex_digits a 2) (hex_digits b 2), length_hex a 2, length_hex b 2)

carry_short : (c : CarryTag) → length (carry_word c) ≤ 5
carry_short carry.None = omega arith
carry_short (carry.Borrow j l) = omega (arith, pair_long j l)
carry_short (carry.Sum j l) = omega (arith, pair_long j l)
carry_short (carry.Less r k) = omega (arith, pair_long r k)

-- four words of at most 13, 7, 3 and 160 bytes, each with the separator after it
pairs_short : (version : Version) (registers : List AbsByte) (x : Option PairFacts) → KnownFits x → taken (pairs_words version registers x) ≤ 187
pairs_short One registers x h = omega arith
pairs_short Two registers x h = omega arith
pairs_short Three registers None h = omega arith
pairs_short Three registers (Some f) h = omega (arith, sum_short f.sum, compare_short f.compare, zero_short f.zero, intervals_short (hulls_of registers) f.intervals h.count)

some_few : {A : Type 0} (n : ℕ) (xs : List A) → length (take n xs) ≤ length xs
some_few zero xs = omega arith
some_few (suc n) [] = omega arith
some_few (suc n) (x ∷ xs) = omega (arith, some_few n xs)

state_short : (device : Device) (version : Version) (s : AbsState) → KnownFits s.facts → taken (state_words device version s) ≤ 14 * length s.registers + 199 + 14 * length s.slots
state_short device version s fits =
    let registers : List AbsByte = take (register_count device) s.registers in
    let known : List (List ℕ) = pairs_words version s.registers s.facts in
    let behind : List (List ℕ) = flags_word s.flags.entry s.flags.bits ∷ carry_word s.flags.carry ∷ (known ++ map (slot_word version) s.slots) in
    let values = taken_few (value_word version) (value_short version) registers in
    let slots = taken_few (slot_word version) (slot_short version) s.slots in
    let pairs = pairs_short version s.registers s.facts fits in
    omega (arith, taken_both (map (value_word version) registers) behind, some_few (register_count device) s.registers, taken_both known (map (slot_word version) s.slots), values, slots, pairs, flags_long s.flags.entry s.flags.bits, carry_short s.flags.carry)

-- ---- keys

high_short : (h : High) → length (high_text h) ≤ 6
high_short (high.Known byte) = omega (arith, length_hex byte 2)
high_short (high.Tag k) = omega (arith, length_hex k 4)

form_short : (f : SpForm) → offset_of f ≤ 32768 → length (form_word f) ≤ 17
form_short (Closed offset) h = omega (arith, number_short offset (omega (arith, h)))
form_short (Open offset x) h = omega (arith, length-append (decimal offset) (high_text x), number_short offset (omega (arith, h)), high_short x)

pick_short : (pick : Option ℕ) → length (pick_word pick) ≤ 2
pick_short None = omega arith
pick_short (Some byte) = omega (arith, length_hex byte 2)

picks_short : (version : Version) (pick : Option ℕ) → taken (pick_words version pick) ≤ 3
picks_short One pick = omega arith
picks_short Two pick = omega (arith, pick_short pick)
picks_short Three pick = omega (arith, pick_short pick)

masks_short : (device : Device) (masks : ℕ) → length (hex_digits masks (masks_digits device)) ≤ 19
masks_short device masks = omega (arith, length_hex masks (masks_digits device), devices_are_alike.most_vectors device)

address_short : (device : Device) (address : ℕ) → length (word_address_text device address) ≤ 5
address_short device address = omega (arith, length_hex address (word_digits device), most_digits device)

point_short : (device : Device) (version : Version) (key : NodeKey) → offset_of key.sp ≤ 32768 → taken (point_words device version key) ≤ 51
point_short device version key h =
    omega (arith, address_short device key.pc, masks_short device key.masks, bit_short key.i, bit_short key.delay, form_short key.sp h, picks_short version key.pick)

-- ---- nodes

key_small : (device : Device) (followed : Bool) (at : ℕ) (key : NodeKey) (form : NodeForm) → FitsAt device followed at key form → offset_of key.sp ≤ 32768
key_small device followed at key (State s) h = omega (arith, h.small, devices_are_alike.most_depth device)
key_small device followed at key (From m) h = omega (arith, h.0.small, devices_are_alike.most_depth device)

body_short : (device : Device) (followed : Bool) (version : Version) (at : ℕ) (key : NodeKey) (form : NodeForm) → at ≤ 65536 → FitsAt device followed at key form → taken (form_words device version form) ≤ 675 + 14 * offset_of key.sp
body_short device followed version at key (State s) few h = omega (arith, state_short device version s h.formed.facts, h.formed.count_registers, h.formed.count_slots)
body_short device followed version at key (From m) few h = omega (arith, number_short m (omega (arith, few, h.1)))

number_by : (b : Bool) (p n : ℕ) → p ≤ n → cond b 0 (p + 1) ≤ n + 1
number_by true p n h = omega arith
number_by false p n h = omega (arith, h)

number_few : (key : InstKey) (insts : List Inst) → inst_number key insts ≤ length insts
number_few key [] = omega arith
number_few key (x ∷ xs) = omega (arith, number_by (same_inst x.key key) (inst_number key xs) (length xs) (number_few key xs))

nodes_short : (device : Device) (followed : Bool) (version : Version) (insts : List Inst) (at : ℕ) (ns : Seeds) → length insts ≤ 65536 → at + length ns ≤ 65536 → AreFrom device followed at ns
    → text (node_words device version insts) ns ≤ 768 * length ns + 14 * cells_of (seed_keys ns)
unfolding cells_of
nodes_short device followed version insts at [] few most h = omega arith
nodes_short device followed version insts at (n ∷ ns) few most h =
    let front = point_short device version n.0 (key_small device followed at n.0 n.1 h.0) in
    let body = body_short device followed version at n.0 n.1 (omega (arith, most)) h.0 in
    let behind = nodes_short device followed version insts (at + 1) ns few (omega (arith, most)) h.1 in
    let own = number_short (inst_number n.0.inst insts) (omega (arith, number_few n.0.inst insts, few)) in
    omega (arith, text_more (node_words device version insts) n ns, taken_both (point_words device version n.0) (form_words device version n.1), front, body, own, behind)

-- ---- instances

at_most : (a b : ℕ) → nat_le a b ≡ true → a ≤ b
at_most a b h = grind (arith, nat_tests)

kind_short : (device : Device) (kind : Kind) (entry masks : ℕ) (i : Bool) → fits_kind device kind entry masks i ≡ true → length (kind_word kind) ≤ 11
kind_short device Root entry masks i e = omega arith
kind_short device Call entry masks i e = omega arith
kind_short device (Vector v) entry masks i e =
    let a = and_parts (is_vector device v && is_vector_word device v entry) (not i) e in
    let b = and_parts (is_vector device v) (is_vector_word device v entry) a.0 in
    let most = at_most v (last_vector device) (and_parts (nat_le 2 v) (nat_le v (last_vector device)) b.0).1 in
    omega (arith, number_short v (omega (arith, most, devices_are_alike.most_vectors device)))

inst_short : (device : Device) (x : Inst) → IsInst device x → taken (inst_words device x) + 1 ≤ 100
inst_short device x h =
    let kind = kind_short device x.key.kind x.key.entry x.key.masks x.key.i h.kind in
    let rank = number_short x.rank (omega (arith, h.rank)) in
    let need = number_short x.need (omega (arith, h.need, devices_are_alike.most_depth device)) in
    omega (arith, kind, address_short device x.key.entry, masks_short device x.key.masks, bit_short x.key.i, rank, need)

insts_short : (device : Device) (xs : List Inst) → AllByRecursion (IsInst device) xs → text (inst_words device) xs ≤ 100 * length xs
insts_short device [] h = omega arith
insts_short device (x ∷ xs) h = omega (arith, text_more (inst_words device) x xs, inst_short device x h.0, insts_short device xs h.1)

-- ---- assumptions

numbers_short : (digits : ℕ) (ns : List ℕ) → digits ≤ 5 → taken (number_words digits ns) ≤ 6 * length ns
numbers_short digits [] few = omega arith
numbers_short digits (n ∷ ns) few = omega (arith, length_hex n digits, few, numbers_short digits ns few)

items_few : (is_item : ℕ → Bool) (items : List ℕ) → are_items is_item items ≡ true → length items ≤ 64
items_few is_item items e =
    let a = and_parts (nat_le 1 (length items) && nat_le (length items) 64 && ascends items) (list_all is_item items) e in
    let b = and_parts (nat_le 1 (length items) && nat_le (length items) 64) (ascends items) a.0 in
    let c = and_parts (nat_le 1 (length items)) (nat_le (length items) 64) b.0 in
    grind (arith, nat_tests, c.1)

depth_few : (depth : ℕ) → nat_le depth SIZE ≡ true → depth ≤ SIZE
depth_few depth e = grind (arith, nat_tests)

entry_short : (device : Device) (e : Entry) → is_entry e ≡ true → taken (entry_words device e) + 1 ≤ 400
entry_short device entry.Pairs e = omega arith
entry_short device entry.Masks e = omega arith
entry_short device (entry.Jump site words) e =
    let few = items_few is_word words (and_parts (is_word site) (are_items is_word words) e).1 in
    omega (arith, address_short device site, numbers_short (word_digits device) words (most_digits device), few)
entry_short device (entry.Store site addresses) e =
    let few = items_few is_io addresses (and_parts (is_word site) (are_items is_io addresses) e).1 in
    omega (arith, address_short device site, numbers_short 4 addresses (omega arith), few)
entry_short device (entry.Prove site) e = omega (arith, address_short device site)
entry_short device (entry.Free site) e = omega (arith, address_short device site)
entry_short device (entry.Never site) e = omega (arith, address_short device site)
entry_short device (entry.Frame site) e = omega (arith, address_short device site)
entry_short device (entry.Recur word depth) e =
    let most = depth_few depth (and_parts (is_word word) (nat_le depth SIZE) e).1 in
    omega (arith, address_short device word, number_short depth (omega (arith, most)))
entry_short device (entry.Scratch site) e = omega (arith, address_short device site)

entries_short : (device : Device) (es : List Entry) → AllByRecursion (λ e. is_entry e ≡ true) es → text (entry_words device) es ≤ 400 * length es
entries_short device [] h = omega arith
entries_short device (e ∷ es) h = omega (arith, text_more (entry_words device) e es, entry_short device e h.0, entries_short device es h.1)

-- ---- the schedule

run_some : (device : Device) (r : Run) → IsCounted device r → 1 ≤ length (choices_of_run r)
run_some device (Go n b1 b2) h = omega (arith, length-replicate n (choice.Go b1 b2), h.0)
run_some device (Take v clears) h = omega arith

run_short : (device : Device) (r : Run) → IsCounted device r → weight r ≤ most_choices → taken (run_words r) + 1 ≤ 40
run_short device (Go n b1 b2) h few = omega (arith, number_short n (omega (arith, few)), length_hex b1 2, length_hex b2 2)
run_short device (Take v clears) h few = omega (arith, number_short v (omega (arith, h.1, devices_are_alike.most_vectors device)), bit_short clears)

runs_short : (device : Device) (before : Option Run) (left : ℕ) (rs : List Run) → left ≤ most_choices → AreRuns device before left rs → text run_words rs ≤ 40 * length (choices_of rs)
runs_short device before left [] few h = omega arith
runs_short device before left (r ∷ rs) few h =
    let one = run_short device r h.0 (omega (arith, few, h.2)) in
    let more = runs_short device (Some r) (left - weight r) rs (omega (arith, few)) h.3 in
    omega (arith, text_more run_words r rs, one, run_some device r h.0, length-append (choices_of_run r) (choices_of rs), more)

-- ---- the whole

both_long : (xs ys : List (List (List ℕ))) → length (flat_map line (xs ++ ys)) ≡ length (flat_map line xs) + length (flat_map line ys)
both_long xs ys = ap length (flat_map-append line xs ys) ∙ length-append (flat_map line xs) (flat_map line ys)

line_more : (l : List (List ℕ)) (ls : List (List (List ℕ))) → length (flat_map line (l ∷ ls)) ≤ taken l + 1 + length (flat_map line ls)
line_more l ls = omega (arith, length-append (line l) (flat_map line ls), line_short l)

word_short : (says banked : Bool) (version : Version) → length (version_word says banked version) ≡ 1
word_short true true version = refl
word_short true false version = refl
word_short false banked One = refl
word_short false banked Two = refl
word_short false banked Three = refl

version_short : (device : Device) (version : Version) → taken (version_line device version) ≤ 12
version_short device version = omega (arith, word_short (says_device device) (has_elpm device) version)

abbrev size : List (List (List ℕ)) → ℕ
size ls = length (flat_map line ls)

device_short : (says : Bool) (device : Device) (ls : List (List (List ℕ))) → size (device_lines says device ++ ls) ≤ size ls + 25
device_short true device ls = omega (arith, line_more (device_line (class_of device)) ls, class_short device)
device_short false device ls = omega arith

heading_short : (device : Device) (version : Version) (bound : ℕ) → bound ≤ 32768 → size (heading device version bound) ≤ 100
heading_short device version bound h =
    let says = says_device device in
    let last : List (List (List ℕ)) = numbered (codes "bound") bound ∷ [] in
    let number = line_more (numbered (codes "bound") bound) [] in
    omega (arith, line_more (version_line device version) (device_lines says device ++ last), version_short device version, device_short says device last, number, number_short bound (omega (arith, h)))

-- a list with its count
list_short : (name : List ℕ) (n most : ℕ) (ls : List (List (List ℕ))) → length name ≤ 9 → n ≤ 65536 → size ls ≤ most → size (numbered name n ∷ ls) ≤ most + 100
list_short name n most ls short few h = omega (arith, line_more (numbered name n) ls, short, number_short n (omega (arith, few)), h)

witness_short : (device : Device) (w : Option Plan) → IfSome w (IsSchedule device) → IfSome w HasFewChoices → size (witness_lines w) ≤ 8000200
witness_short device None h few = omega arith
witness_short device (Some plan) h few =
    let runs = runs_short device None most_choices plan.runs (omega arith) h.runs_fit in
    let fill : List (List ℕ) = codes "fill" ∷ hex_digits plan.fill 2 ∷ [] in
    let first : List (List ℕ) = codes "schedule" ∷ codes "1" ∷ [] in
    let end : List (List (List ℕ)) = (codes "end" ∷ []) ∷ [] in
    let lines : List (List (List ℕ)) = map run_words plan.runs ++ end in
    let behind = both_long (map run_words plan.runs) end in
    omega (arith, line_more attained_line (first ∷ fill ∷ lines), line_more first (fill ∷ lines), line_more fill lines, length_hex plan.fill 2, behind, runs, few)

front_short : (c : Claim) → IsClaim c → size (front_lines c) ≤ 176000000
front_short c h =
    let entries = list_short (codes "assume") (length c.assumptions) (400 * length c.assumptions) (map (entry_words c.device) c.assumptions) (omega arith) (omega (arith, h.entries_fit.few))
    (entries_short c.device c.assumptions (recursion_from_All (λ e. is_entry e ≡ true) c.assumptions h.entries_fit.each)) in
    let insts = list_short (codes "instances") (length c.instances) (100 * length c.instances) (map (inst_words c.device) c.instances) (omega arith) (omega (arith, h.few_insts)) (insts_short c.device c.instances h.insts_fit) in
    let most : ℕ = 768 * length c.nodes + 14 * cells_of (seed_keys c.nodes) in
    let nodes = list_short (codes "nodes") (length c.nodes) most (map (node_words c.device c.version c.instances) c.nodes) (omega arith) (omega (arith, h.few_nodes))
    (nodes_short c.device (has_pairs c.assumptions) c.version c.instances 0 c.nodes h.few_insts (omega (arith, h.few_nodes)) h.nodes_fit) in
    let third = both_long (inst_lines c.device c.instances) (node_lines c.device c.version c.instances c.nodes) in
    let second = both_long (entry_lines c.device c.assumptions) (inst_lines c.device c.instances ++ node_lines c.device c.version c.instances c.nodes) in
    let first = both_long (heading c.device c.version c.bound) (entry_lines c.device c.assumptions ++ (inst_lines c.device c.instances ++ node_lines c.device c.version c.instances c.nodes)) in
    omega (arith, first, second, third, heading_short c.device c.version c.bound (omega (arith, h.bound_fits, devices_are_alike.most_depth c.device)), entries, insts, nodes, h.entries_fit.few, h.few_insts, h.few_nodes, h.few_cells)

pub texts_fit : TextsFit
texts_fit c h few =
    let behind = both_long (witness_lines c.witness) (end_line ∷ []) in
    let all = both_long (front_lines c) (witness_lines c.witness ++ end_line ∷ []) in
    omega (arith, all, behind, front_short c h.claim, witness_short c.device c.witness h.schedule few)
