-- The refusals of texts that are no certificates for a device, by the spelling alone: the text before the refused line begins a
-- certificate, and the line has the wrong form, is not above the last one, or passes a limit.
use Rattle.std.specs.Prelude.{◌≡◌, ◌≢◌, ◌<◌, ◌≤◌, ◌⊎◌, ℕ, List, [], ◌∷◌, ◌++◌, map, length, codes, Some, None, Result, Ok, Err, ⊤, true, false, not}
use Rattle.std.specs.List.{position}
use Rattle.std.specs.List.Sorted.{IsStrictlySortedBy}
use Rattle.avr_model.specs.declared.assumption.Entry.{Entry}
use Rattle.avr_model.specs.declared.assumption.Entry.TheVariants.{Pairs}
use Rattle.avr_model.specs.declared.device.Device.{Device}
use Rattle.avr_model.specs.Devices.{depth_of}
use Rattle.avr_model.specs.Names.{class_of, device_of_class}
use Rattle.text_base.specs.Digits.{is_dec, number_from, has_extra_zero}
use Rattle.text_base.specs.Lines.{TextLine, Position, lines_of}
use Rattle.line_reading.specs.Words.{whole, Passes}
use Rattle.vector_table.specs.Entries.{is_above_last, most_entries}
use Rattle.node_keys.specs.declared.keys.NodeKey.{NodeKey}
use Rattle.node_keys.specs.Order.{inst_cmp, node_cmp}
use Rattle.edge_rules.specs.declared.seeded.NodeForm.{NodeForm}
use Rattle.assumption_files.specs.Reading.{is_entry_of}
use Rattle.assumption_files.specs.Spelling.{entry_words}
use Rattle.witness_replay.specs.Exact.{IsScheduleStuck}
use Rattle.certificate.specs.declared.instance.Inst.{Inst}
use Rattle.certificate.specs.declared.version.Version.{Version}
use Rattle.certificate.specs.Insts.{IsInst, inst_keys}
use Rattle.certificate.specs.Claims.{Claim, IsClaim, IsCertificate, FitsAt, Belongs, most_instances, most_nodes, most_cells, cells_of, seed_keys}
use Rattle.certificate.specs.Versions.{NodeIsOf, is_third, says_device}
use Rattle.cert_words.specs.Text.{numbered, version_line, device_line, device_lines, heading, entry_lines, inst_lines, inst_words, node_words, open_line, attained_line, witness_lines, end_line, front_lines, certificate_lines, text_of}
use Rattle.certificate.specs.declared.limit.Limit.{Limit}
use Rattle.certificate.specs.declared.limit.Limit.TheVariants as limit
use Rattle.cert_format.specs.declared.fault.CertFault.{CertFault}
use Rattle.cert_format.specs.declared.fault.CertFault.TheVariants as fault
use Rattle.cert_format.specs.Reading.{is_admitted, is_paired, least_entries, certificate_in}

-- ---- how far the lines of a certificate go

-- The next part; for a list, with the announced number of items. Some texts say the device, and in the others of the third version the
-- first entry is `pairs`.
pub data CertPart : Type 0 where
  Begin : CertPart
  Named : CertPart
  Bound : CertPart
  Assume : CertPart
  FirstEntry : ℕ → CertPart
  AnEntry : ℕ → CertPart
  Instances : CertPart
  AnInst : ℕ → CertPart
  Nodes : CertPart
  ANode : ℕ → CertPart
  Ending : CertPart
  End : CertPart
  Nothing : CertPart

-- the lines of a certificate before this part, with the items read so far
abbrev pub lines_to : Claim → CertPart → List (List (List ℕ))
lines_to c Begin = []
lines_to c Named = version_line c.device c.version ∷ []
lines_to c Bound = version_line c.device c.version ∷ device_lines (says_device c.device) c.device
lines_to c Assume = heading c.device c.version c.bound
lines_to c (FirstEntry n) = heading c.device c.version c.bound ++ numbered (codes "assume") n ∷ []
lines_to c (AnEntry n) = heading c.device c.version c.bound ++ numbered (codes "assume") n ∷ map (entry_words c.device) c.assumptions
lines_to c Instances = heading c.device c.version c.bound ++ entry_lines c.device c.assumptions
lines_to c (AnInst n) = heading c.device c.version c.bound ++ (entry_lines c.device c.assumptions ++ numbered (codes "instances") n ∷ map (inst_words c.device) c.instances)
lines_to c Nodes = heading c.device c.version c.bound ++ (entry_lines c.device c.assumptions ++ inst_lines c.device c.instances)
lines_to c (ANode n) = heading c.device c.version c.bound ++ (entry_lines c.device c.assumptions ++ (inst_lines c.device c.instances ++ numbered (codes "nodes") n ∷ map (node_words c.device c.version c.instances) c.nodes))
lines_to c Ending = front_lines c
lines_to c End = front_lines c ++ witness_lines c.witness
lines_to c Nothing = certificate_lines c

-- the text has the part; fewer items than announced, and no more announced than permitted
abbrev pub HasRoomFor : Claim → CertPart → Type 0
HasRoomFor c Named = says_device c.device ≡ true
HasRoomFor c (FirstEntry n) = (says_device c.device ≡ false) × (is_third c.version ≡ true) × (1 ≤ n) × (n ≤ most_entries)
HasRoomFor c (AnEntry n) = (length c.assumptions < n) × (n ≤ most_entries)
HasRoomFor c (AnInst n) = (length c.instances < n) × (n ≤ most_instances)
HasRoomFor c (ANode n) = (length c.nodes < n) × (n ≤ most_nodes)
HasRoomFor c part = ⊤

-- The certificate is for the device. Its lines before the part are at the first position, and the second position is after them.
pub record StandsBefore (device : Device) (p : Position) (c : Claim) (part : CertPart) (q : Position) : Type 0 where
  pub is : c.device ≡ device
  pub fits : IsCertificate c
  pub room : HasRoomFor c part
  pub lines : Passes p (map whole (lines_to c part)) q

-- ---- the next line

-- the next line is complete and has these words
abbrev pub IsNextLine : List TextLine → List (List ℕ) → Type 0
IsNextLine [] ws = ⊥
IsNextLine (l ∷ ls) ws = l ≡ whole ws

-- digits without a leading zero
pub record IsDecimal (w : List ℕ) : Type 0 where
  pub some : w ≢ []
  pub plain : has_extra_zero w ≡ false
  pub digits : position (λ b. not (is_dec b)) w ≡ None

-- a name and a decimal between these numbers
abbrev pub IsNumbered : List ℕ → ℕ → ℕ → List (List ℕ) → Type 0
IsNumbered name least most ws = (n : ℕ) × (least ≤ n) × (n ≤ most) × (ws ≡ numbered name n)

-- the words of some entry, instance or node of a certificate of this device and version, with this property

abbrev pub IsEntryWith : Device → Version → (Entry → Type 0) → List (List ℕ) → Type 0
IsEntryWith device version P ws = (e : Entry) × (is_entry_of device e ≡ true) × (is_admitted (is_paired device version) e ≡ true) × (ws ≡ entry_words device e) × P e

abbrev pub IsInstWith : Device → (Inst → Type 0) → List (List ℕ) → Type 0
IsInstWith device P ws = (x : Inst) × IsInst device x × (ws ≡ inst_words device x) × P x

abbrev pub IsNodeWith : Claim → (NodeKey × NodeForm → Type 0) → List (List ℕ) → Type 0
IsNodeWith c P ws = (n : NodeKey × NodeForm) × FitsAt c.device (is_third c.version) (length c.nodes) n.0 n.1 × Belongs c.instances n.0 × NodeIsOf c.version n × (ws ≡ node_words c.device c.version c.instances n) × P n

abbrev pub IsNodesLine : (List ℕ → Type 0) → List (List ℕ) → Type 0
IsNodesLine P ws = (w : List ℕ) × IsDecimal w × (ws ≡ codes "nodes" ∷ w ∷ []) × P w

-- the line of a device with a name in texts, and this property
abbrev pub IsNaming : (List ℕ → Device → Type 0) → List (List ℕ) → Type 0
IsNaming P ws = (name : List ℕ) × (device : Device) × (device_of_class name ≡ Some device) × (ws ≡ device_line name) × P name device

-- words of the form of this part
abbrev pub IsOfForm : Claim → CertPart → List (List ℕ) → Type 0
IsOfForm c Begin ws = (version : Version) × (ws ≡ version_line c.device version)
IsOfForm c Named ws = IsNaming (λ name device. ⊤) ws
IsOfForm c Bound ws = IsNumbered (codes "bound") 0 (depth_of c.device) ws
IsOfForm c Assume ws = IsNumbered (codes "assume") (least_entries c.version) most_entries ws
IsOfForm c (FirstEntry n) ws = ws ≡ entry_words c.device Pairs
IsOfForm c (AnEntry n) ws = IsEntryWith c.device c.version (λ e. ⊤) ws
IsOfForm c Instances ws = IsNumbered (codes "instances") 0 most_instances ws
IsOfForm c (AnInst n) ws = IsInstWith c.device (λ x. ⊤) ws
IsOfForm c Nodes ws = IsNodesLine (λ w. ⊤) ws
IsOfForm c (ANode n) ws = IsNodeWith c (λ e. ⊤) ws
IsOfForm c Ending ws = (ws ≡ open_line) ⊎ (ws ≡ attained_line)
IsOfForm c End ws = ws ≡ end_line
IsOfForm c Nothing ws = ⊥

abbrev pub Ascend : List NodeKey → Type 0
Ascend keys = IsStrictlySortedBy node_cmp keys

-- words of an item that is not above the last
abbrev pub IsLow : Claim → CertPart → List (List ℕ) → Type 0
IsLow c (AnEntry n) ws = IsEntryWith c.device c.version (λ e. is_above_last c.assumptions e ≡ false) ws
IsLow c (AnInst n) ws = IsInstWith c.device (λ x. IsStrictlySortedBy inst_cmp (inst_keys (c.instances ++ x ∷ [])) → ⊥) ws
IsLow c (ANode n) ws = IsNodeWith c (λ e. Ascend (seed_keys (c.nodes ++ e ∷ [])) → ⊥) ws
IsLow c part ws = ⊥

abbrev pub IsTooMuch : Claim → NodeKey × NodeForm → Type 0
IsTooMuch c n = Ascend (seed_keys (c.nodes ++ n ∷ [])) × (most_cells < cells_of (seed_keys (c.nodes ++ n ∷ [])))

-- words of the right form and order that pass this limit
abbrev pub IsPast : Claim → CertPart → Limit → List (List ℕ) → Type 0
IsPast c Nodes limit.Nodes ws = IsNodesLine (λ w. most_nodes < number_from 10 0 w) ws
IsPast c (ANode n) limit.Cells ws = IsNodeWith c (IsTooMuch c) ws
IsPast c part l ws = ⊥

-- ---- refusals

-- no line of the form of this part follows, or something follows the last line
abbrev pub IsStopped : Claim → CertPart → List TextLine → Type 0
IsStopped c Nothing ls = ls ≢ []
IsStopped c part ls = (ws : List (List ℕ)) → IsNextLine ls ws → IsOfForm c part ws → ⊥

pub record StopsAt (device : Device) (p q : Position) : Type 0 where
  pub claim : Claim
  pub part : CertPart
  pub stands : StandsBefore device p claim part q
  pub stop : IsStopped claim part q.rest

-- a schedule must follow, and no schedule for the device continues with the line there
pub record StopsInSchedule (device : Device) (p q : Position) : Type 0 where
  pub claim : Claim
  pub is : claim.device ≡ device
  pub fits : IsClaim claim
  pub begin : Position
  pub lines : Passes p (map whole (front_lines claim ++ attained_line ∷ [])) begin
  pub stuck : IsScheduleStuck device begin q

abbrev pub IsCertificateMalformed : Device → Position → ℕ → Type 0
IsCertificateMalformed device p at = (q : Position) × (q.at ≡ at) × (StopsAt device p q ⊎ StopsInSchedule device p q)

-- the line at this offset
pub record IsCertificateOutOfOrder (device : Device) (p : Position) (at : ℕ) : Type 0 where
  pub claim : Claim
  pub part : CertPart
  pub position : Position
  pub words : List (List ℕ)
  pub stands : StandsBefore device p claim part position
  pub offset : position.at ≡ at
  pub next : IsNextLine position.rest words
  pub low : IsLow claim part words

pub record IsOverLimit (device : Device) (p : Position) (l : Limit) : Type 0 where
  pub claim : Claim
  pub part : CertPart
  pub position : Position
  pub words : List (List ℕ)
  pub stands : StandsBefore device p claim part position
  pub next : IsNextLine position.rest words
  pub past : IsPast claim part l words

-- the line that says the device says another one
pub record IsForOther (device : Device) (p : Position) (other : Device) : Type 0 where
  pub claim : Claim
  pub position : Position
  pub words : List (List ℕ)
  pub stands : StandsBefore device p claim Named position
  pub next : IsNextLine position.rest words
  pub names : IsNaming (λ name named. (named ≡ other) × (name ≢ class_of device)) words

-- the due refusal from this position on
abbrev pub IsCertificateRefused : Device → Position → CertFault → Type 0
IsCertificateRefused device p (fault.Malformed at) = IsCertificateMalformed device p at
IsCertificateRefused device p (fault.Order at) = IsCertificateOutOfOrder device p at
IsCertificateRefused device p (fault.Limit l) = IsOverLimit device p l
IsCertificateRefused device p (fault.Other other) = IsForOther device p other
IsCertificateRefused device p fault.Memory = ⊥

abbrev pub start : List ℕ → Position
start text = record { at = 0; rest = lines_of text }

-- the answer that is due for a text and a device
abbrev pub IsCertificateDue : Device → List ℕ → Result Claim CertFault → Type 0
IsCertificateDue device text (Ok c) = (c.device ≡ device) × IsCertificate c × (text ≡ text_of c)
IsCertificateDue device text (Err f) = IsCertificateRefused device (start text) f

-- the answer is the one that is due, or memory ran out
abbrev pub IsCertificateDueUnlessMemory : Device → List ℕ → Result Claim CertFault → Type 0
IsCertificateDueUnlessMemory device text (Err fault.Memory) = ⊤
IsCertificateDueUnlessMemory device text answer = IsCertificateDue device text answer

-- the result of reading a text for a device is due
abbrev pub ReadCertificateIsDue : Type 0
ReadCertificateIsDue = (device : Device) (text : List ℕ) → IsCertificateDue device text (certificate_in device text)
