-- Reads a certificate for a device forward, line by line. A refusal has a kind and the offset of the first refused line. Of several kinds
-- at one line, form comes before order and order before limit.
use Rattle.std.specs.Prelude.{ℕ, zero, suc, ◌+◌, ◌-◌, ◌&&◌, ◌||◌, nat_le, Bool, true, false, List, [], ◌∷◌, ◌++◌, length, codes, slice_get, Option, Some, None, Result, Ok, Err, option_map, if◌then◌else◌}
use Rattle.std.specs.Ordering.{is_lt}
use Rattle.std.specs.Str.{bytes_eq}
use Rattle.avr_model.specs.declared.assumption.Entry.{Entry}
use Rattle.avr_model.specs.declared.assumption.Entry.TheVariants.{Pairs, Masks, Jump, Store, Prove, Free, Never, Frame, Recur, Scratch}
use Rattle.avr_model.specs.declared.device.Device.{Device}
use Rattle.avr_model.specs.Names.{class_of, device_of_class}
use Rattle.avr_model.specs.Devices.{depth_of, has_elpm}
use Rattle.text_base.specs.Answers.{Answers}
use Rattle.text_base.specs.Digits.{dec_answer}
use Rattle.text_base.specs.declared.digits.DigitFault.{DigitFault}
use Rattle.text_base.specs.declared.digits.DigitFault.TheVariants.{WrongLength, BadDigit, TooGreat}
use Rattle.text_base.specs.Lines.{TextLine, Position, lines_of, words_of}
use Rattle.line_reading.specs.Reading.{◌>>=◌, dec_at, word_at, word_by, is_over, then_at, this_by, line_by}
use Rattle.vector_table.specs.Entries.{is_above_last, most_entries}
use Rattle.node_keys.specs.Keys.{offset_of}
use Rattle.node_keys.specs.Order.{inst_cmp, node_cmp}
use Rattle.node_keys.specs.declared.keys.NodeKey.{NodeKey}
use Rattle.edge_rules.specs.declared.seeded.NodeForm.{NodeForm}
use Rattle.edge_rules.specs.Expansion.{Seeds}
use Rattle.assumption_files.specs.Reading.{entry_in}
use Rattle.witness_replay.specs.Spelling.{Plan}
use Rattle.witness_replay.specs.Reading.{schedule_at}
use Rattle.certificate.specs.declared.instance.Inst.{Inst}
use Rattle.certificate.specs.declared.version.Version.{Version}
use Rattle.certificate.specs.declared.version.Version.TheVariants.{One, Two, Three}
use Rattle.certificate.specs.Versions.{is_third, says_device, written_version}
use Rattle.certificate.specs.Claims.{Claim, most_instances, most_nodes, most_cells, cells_of, seed_keys}
use Rattle.certificate.specs.declared.limit.Limit.TheVariants as limit
use Rattle.cert_format.specs.declared.fault.CertFault.{CertFault}
use Rattle.cert_format.specs.declared.fault.CertFault.TheVariants as fault
use Rattle.cert_format.specs.LineReading.{inst_in, node_in}

-- ---- the answer of a call that reads

-- What is read up to this position, seen by `view`, is what is due, or memory ran out.
abbrev pub ReadsAs : {X Y : Type 0} → (X → Y) → Position → Result X CertFault → Result (Y × Position) CertFault → Type 0
ReadsAs view position answer due = Answers (λ x. (view x, position)) fault.Memory answer due

abbrev pub Reads : {X : Type 0} → Position → Result X CertFault → Result (X × Position) CertFault → Type 0
Reads position answer due = Answers (λ x. (x, position)) fault.Memory answer due

-- ---- one line

-- a line with the wrong form is malformed
abbrev pub formed : {A : Type 0} → Result (A × Position) Position → Result (A × Position) CertFault
formed (Ok x) = Ok x
formed (Err q) = Err (fault.Malformed q.at)

-- a name and a number, from a least to a greatest one
unfoldable pub numbered_in : List ℕ → ℕ → ℕ → List (List ℕ) → Option ℕ
numbered_in name least most ws = do
  w ← word_at name ws
  n ← dec_at most w.1
  if nat_le least n.0 && is_over n.1 then Some n.0 else None

abbrev pub numbered_by : List ℕ → ℕ → ℕ → List ℕ → Option ℕ
numbered_by name least most text = numbered_in name least most (words_of text)

-- a decimal; its number is left out if it is too great
abbrev pub counted : Result ℕ DigitFault → Option (Option ℕ)
counted (Ok n) = Some (Some n)
counted (Err TooGreat) = Some None
counted (Err (WrongLength n)) = None
counted (Err (BadDigit at)) = None

abbrev pub count_at : List (List ℕ) → Option (Option ℕ)
count_at [] = None
count_at (w ∷ ws) = if is_over ws then counted (dec_answer w most_nodes) else None

-- the number of nodes, if it is within the limit
unfoldable pub count_in : List (List ℕ) → Option (Option ℕ)
count_in ws = word_at (codes "nodes") ws >>= λ w. count_at w.1

abbrev pub count_by : List ℕ → Option (Option ℕ)
count_by text = count_in (words_of text)

-- Only some lists may have the line `pairs`.
abbrev pub is_admitted : Bool → Entry → Bool
is_admitted paired Pairs = paired
is_admitted paired Masks = true
is_admitted paired (Jump site words) = true
is_admitted paired (Store site addresses) = true
is_admitted paired (Prove site) = true
is_admitted paired (Free site) = true
is_admitted paired (Never site) = true
is_admitted paired (Frame site) = true
is_admitted paired (Recur word depth) = true
is_admitted paired (Scratch site) = true

-- an entry of a list that may have the line `pairs`, or of another
abbrev pub entry_by : Device → Bool → List ℕ → Option Entry
entry_by device paired text = entry_in device (words_of text) >>= λ e. if is_admitted paired e then Some e else None

abbrev pub inst_by : Device → List ℕ → Option Inst
inst_by device text = inst_in device (words_of text)

-- the node of this number
abbrev pub node_by : Device → Version → List Inst → ℕ → List ℕ → Option (NodeKey × NodeForm)
node_by device version insts at text = node_in device version insts at (words_of text)

-- The version by a text's first line. Where the text says its device, with RAMPZ or without, the second stands until the assumptions are
-- read.
unfoldable pub version_by : Bool → Bool → List ℕ → Option Version
version_by true true text = if bytes_eq text (codes "stackcert 5") then Some Two else None
version_by true false text = if bytes_eq text (codes "stackcert 4") then Some Two else None
version_by false banked text =
    if bytes_eq text (codes "stackcert 1") then Some One
    else (if bytes_eq text (codes "stackcert 2") then Some Two else (if bytes_eq text (codes "stackcert 3") then Some Three else None))

-- whether a name is that of another device than this one, and of which
unfoldable pub other_by : Device → List ℕ → Option (Option Device)
other_by device name = if bytes_eq name (class_of device) then Some None else option_map (λ d. Some d) (device_of_class name)

unfoldable pub device_in : Device → List (List ℕ) → Option (Option Device)
device_in device ws = do
  w ← word_at (codes "device") ws
  d ← word_by (other_by device) w.1
  if is_over d.1 then Some d.0 else None

abbrev pub device_by : Device → List ℕ → Option (Option Device)
device_by device text = device_in device (words_of text)

-- whether a schedule follows
unfoldable pub ending_by : List ℕ → Option Bool
ending_by text = if bytes_eq text (codes "witness open") then Some false else (if bytes_eq text (codes "witness attained") then Some true else None)

-- ---- the lines of a list

-- the last item, if there is one
abbrev pub last_in : {A : Type 0} → List A → Option A
last_in xs = slice_get xs (length xs - 1)

abbrev pub is_inst_above : Option Inst → Inst → Bool
is_inst_above None x = true
is_inst_above (Some last) x = is_lt (inst_cmp last.key x.key)

abbrev pub is_node_above : Option (NodeKey × NodeForm) → NodeKey → Bool
is_node_above None key = true
is_node_above (Some last) key = is_lt (node_cmp last.0 key)

-- the refusal of an item after those before it, at a line of this offset, if it is refused
abbrev pub refused_entry : List Entry → Entry → ℕ → Option CertFault
refused_entry es e at = if is_above_last es e then None else Some (fault.Order at)

abbrev pub refused_inst : List Inst → Inst → ℕ → Option CertFault
refused_inst xs x at = if is_inst_above (last_in xs) x then None else Some (fault.Order at)

abbrev pub refused_node : Seeds → NodeKey × NodeForm → ℕ → Option CertFault
refused_node ns n at =
    if is_node_above (last_in ns) n.0 then (if nat_le (cells_of (seed_keys ns) + (1 + offset_of n.0.sp)) most_cells then None else Some (fault.Limit limit.Cells))
    else Some (fault.Order at)

abbrev pub unless : {X : Type 0} → Option CertFault → X → Result X CertFault
unless None x = Ok x
unless (Some f) x = Err f

-- the items so far with this one, from a line at this offset, or the refusal
abbrev pub with_item : {A : Type 0} → (List A → A → ℕ → Option CertFault) → List A → A → ℕ → Result (List A) CertFault
with_item refused xs x at = unless (refused xs x at) (xs ++ x ∷ [])

abbrev pub with_node : Seeds → NodeKey × NodeForm → ℕ → Result Seeds CertFault
with_node ns n at = with_item refused_node ns n at

-- the item of a line at this offset, or the refusal
abbrev pub found_at : {A : Type 0} → Option A → ℕ → Result A CertFault
found_at None at = Err (fault.Malformed at)
found_at (Some x) at = Ok x

-- the items so far with that of a line's text at this offset
abbrev pub with_text : {A : Type 0} → (ℕ → List ℕ → Option A) → (List A → A → ℕ → Option CertFault) → List A → List ℕ → ℕ → Result (List A) CertFault
with_text by refused xs text at = then_at (found_at (by (length xs) text) at) (λ x. with_item refused xs x at)

-- nodes, the version of their lines, and the instances that the lines number
pub record NodesSoFar : Type 0 where
  pub version : Version
  pub instances : List Inst
  pub nodes : Seeds

-- the items so far with that of the next line, which is read by their number
unfoldable pub longer_at : {A : Type 0} → (ℕ → List ℕ → Option A) → (List A → A → ℕ → Option CertFault) → List A → Position → Result (List A × Position) CertFault
longer_at by refused xs p = then_at (formed (line_by (by (length xs)) p)) (λ x. then_at (with_item refused xs x.0 p.at) (λ ys. Ok (ys, x.1)))

-- the items so far with those of this many lines
unfoldable pub items_from : {A : Type 0} → (ℕ → List ℕ → Option A) → (List A → A → ℕ → Option CertFault) → List A → ℕ → Position → Result (List A × Position) CertFault
items_from by refused xs zero p = Ok (xs, p)
items_from by refused xs (suc n) p = then_at (longer_at by refused xs p) (λ x. items_from by refused x.0 n x.1)

-- ---- lists that are gathered line by line

-- of a list: its items so far, the item of a line's text by the number of items before it, and the refusal of an item after those
abbrev pub Gathering : Type 0 → Type 0 → Type 0
Gathering S A = (S → List A) × (S → ℕ → List ℕ → Option A) × (List A → A → ℕ → Option CertFault)

-- The list `new` is `old` with the item of a line, by its text and offset; else the answer is the refusal, or memory ran out.
abbrev pub AddsText : {S A : Type 0} → Gathering S A → S → S → List ℕ × ℕ → Result (Unit {0}) CertFault → Type 0
AddsText g old new text answer = Answers (λ u. g.0 new) fault.Memory answer (with_text (g.1 old) g.2 (g.0 old) text.0 text.1)

-- the same for the next line; a list and the position of the next line are a pair
abbrev pub AddsLine : {S A : Type 0} → Gathering S A → S × Position → S × Position → Result (Unit {0}) CertFault → Type 0
AddsLine g old new answer = Answers (λ u. (g.0 new.0, new.1)) fault.Memory answer (longer_at (g.1 old.0) g.2 (g.0 old.0) old.1)

-- the same for this many lines
abbrev pub AddsLines : {S A : Type 0} → ℕ → Gathering S A → S × Position → S × Position → Result (Unit {0}) CertFault → Type 0
AddsLines count g old new answer = Answers (λ u. (g.0 new.0, new.1)) fault.Memory answer (items_from (g.1 old.0) g.2 (g.0 old.0) count old.1)

-- ---- parts of several lines

-- a certificate for another device is refused
abbrev pub for_this : Result (Option Device × Position) CertFault → Result (Unit {0} × Position) CertFault
for_this (Ok (None, q)) = Ok (tt, q)
for_this (Ok (Some other, q)) = Err (fault.Other other)
for_this (Err f) = Err f

-- the line that says the device, if there is one
unfoldable pub device_at : Bool → Device → Position → Result (Unit {0} × Position) CertFault
device_at true device p = for_this (formed (line_by (device_by device) p))
device_at false device p = Ok (tt, p)

-- the version, the device and the bound
unfoldable pub heading_at : Device → Position → Result ((Version × ℕ) × Position) CertFault
heading_at device p =
    then_at (formed (line_by (version_by (says_device device) (has_elpm device)) p)) (λ v.
    then_at (device_at (says_device device) device v.1) (λ d.
    then_at (formed (line_by (numbered_by (codes "bound") 0 (depth_of device)) d.1)) (λ b. Ok ((v.0, b.0), b.1))))

-- the least number of entries: the third version has `pairs`
abbrev pub least_entries : Version → ℕ
least_entries One = 0
least_entries Two = 0
least_entries Three = 1

-- the first entries: in the third version the line `pairs`
unfoldable pub first_at : Version → Position → Result (List Entry × Position) CertFault
first_at One p = Ok ([], p)
first_at Two p = Ok ([], p)
first_at Three p = then_at (formed (line_by (this_by (codes "pairs")) p)) (λ u. Ok (Pairs ∷ [], u.1))

-- whether a list may have the line `pairs`: where the text says its device, each may
abbrev pub is_paired : Device → Version → Bool
is_paired device version = says_device device || is_third version

unfoldable pub entries_at : Device → Version → Position → Result (List Entry × Position) CertFault
entries_at device version p =
    then_at (formed (line_by (numbered_by (codes "assume") (least_entries version) most_entries) p)) (λ n.
    then_at (first_at version n.1) (λ f. items_from (λ at. entry_by device (is_paired device version)) refused_entry f.0 (n.0 - least_entries version) f.1))

-- the version with these assumptions: where the text says its device, they decide it
abbrev pub version_with : Bool → Version → List Entry → Version
version_with true version entries = written_version entries
version_with false version entries = version

unfoldable pub insts_at : Device → Position → Result (List Inst × Position) CertFault
insts_at device p = then_at (formed (line_by (numbered_by (codes "instances") 0 most_instances) p)) (λ n. items_from (λ at. inst_by device) refused_inst [] n.0 n.1)

abbrev pub limited : Result (Option ℕ × Position) CertFault → Result (ℕ × Position) CertFault
limited (Ok (Some n, q)) = Ok (n, q)
limited (Ok (None, q)) = Err (fault.Limit limit.Nodes)
limited (Err f) = Err f

unfoldable pub nodes_at : Device → Version → List Inst → Position → Result (Seeds × Position) CertFault
nodes_at device version insts p = then_at (limited (formed (line_by count_by p))) (λ n. items_from (node_by device version insts) refused_node [] n.0 n.1)

abbrev pub plan_if : Device → Bool → Position → Result (Option Plan × Position) CertFault
plan_if device false p = Ok (None, p)
plan_if device true p = then_at (formed (schedule_at device p)) (λ s. Ok (Some s.0, s.1))

unfoldable pub witness_at : Device → Position → Result (Option Plan × Position) CertFault
witness_at device p = then_at (formed (line_by ending_by p)) (λ e. plan_if device e.0 e.1)

abbrev pub if_last : List TextLine → Position → Result (Unit {0} × Position) CertFault
if_last [] p = Ok (tt, p)
if_last (l ∷ ls) p = Err (fault.Malformed p.at)

-- the last line, with nothing after it
unfoldable pub end_at : Position → Result (Unit {0} × Position) CertFault
end_at p = then_at (formed (line_by (this_by (codes "end")) p)) (λ e. if_last e.1.rest e.1)

-- ---- the whole

unfoldable pub claim_at : Device → Position → Result (Claim × Position) CertFault
claim_at device p =
    then_at (heading_at device p) (λ b.
    then_at (entries_at device b.0.0 b.1) (λ a.
    then_at (insts_at device a.1) (λ i.
    then_at (nodes_at device (version_with (says_device device) b.0.0 a.0) i.0 i.1) (λ n.
    then_at (witness_at device n.1) (λ w.
    then_at (end_at w.1) (λ e. Ok (record { device = device; version = version_with (says_device device) b.0.0 a.0; bound = b.0.1; assumptions = a.0; instances = i.0; nodes = n.0; witness = w.0 }, e.1)))))))

abbrev pub claim_alone : Result (Claim × Position) CertFault → Result Claim CertFault
claim_alone (Ok x) = Ok x.0
claim_alone (Err f) = Err f

-- the claim of a text for a device, or the refusal
unfoldable pub certificate_in : Device → List ℕ → Result Claim CertFault
certificate_in device text = claim_alone (claim_at device (record { at = 0; rest = lines_of text }))
