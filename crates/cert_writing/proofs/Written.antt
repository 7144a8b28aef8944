-- The output, digit by digit, word by word and line by line.
use Rattle.std.proofs.Common.{ℕ, true, ◌+◌, ◌<◌, ◌≡◌, List, [], ◌∷◌, ◌++◌, length, map, take, get_or, refl, ap, ap₂, sym, ◌∙◌, append-nil, codes, Some, None}
use Rattle.std.proofs.lemmas.List.{map-append, take_more}
use Rattle.std.proofs.lemmas.Grind.{flat_map-append}
use Rattle.std.specs.List.{flat_map}
use Rattle.assumption_files.proofs.AllLaws.{none_begun, words_append}
use Rattle.witness_replay.proofs.Parts.{more_text}
use Rattle.text_base.specs.Lines.{line}
use Rattle.text_base.specs.Writing.{Written, with_word, with_words, with_end}
use Rattle.line_reading.specs.Appending.{with_text, AppendingLaws}
use Rattle.avr_model.specs.declared.assumption.Entry.{Entry}
use Rattle.avr_model.specs.declared.device.Device.{Device}
use Rattle.abs_state.specs.declared.values.AbsByte.{AbsByte}
use Rattle.abs_state.specs.declared.state.AbsState.{AbsState}
use Rattle.edge_rules.specs.Expansion.{Seeds}
use Rattle.assumption_files.specs.Spelling.{entry_words, text_of as entries_text}
use Rattle.witness_replay.specs.Spelling.{Plan, text_of as schedule_text}
use Rattle.certificate.specs.declared.instance.Inst.{Inst}
use Rattle.certificate.specs.declared.version.Version.{Version}
use Rattle.certificate.specs.declared.version.Version.TheVariants.{Two}
use Rattle.certificate.specs.Claims.{Claim}
use Rattle.cert_words.specs.Spelling.{tag_text, bits_text, range_text, value_word, flags_word, carry_word, slot_word}
use Rattle.cert_words.specs.KeySpelling.{register_count, pairs_words, state_words}
use Rattle.avr_model.specs.Names.{class_of}
use Rattle.certificate.specs.Versions.{says_device}
use Rattle.cert_words.specs.Text.{numbered, version_line, device_line, device_lines, heading, entry_lines, inst_words, inst_lines, node_words, node_lines, front_lines, open_line, attained_line, witness_lines, end_line, text_of}

-- the word of a value from its three parts
pub spelled : (v : AbsByte) (ts bs rs : List ℕ) → tag_text v.tag ≡ ts → bits_text v.bits ≡ bs → range_text Two v ≡ rs → ts ++ (bs ++ rs) ≡ value_word Two v
spelled v ts bs rs t b r = sym (ap₂ (λ (xs ys : List ℕ). xs ++ ys) t (ap₂ (λ (xs ys : List ℕ). xs ++ ys) b r))

-- ---- words

pub words_next : {A : Type 0} (word : A → List ℕ) (w v u : Written) (xs : List A) (i : ℕ) (x : A) → i < length xs → x ≡ get_or xs i x → v ≡ with_words w (map word (take i xs)) → u ≡ with_word v (word x)
    → u ≡ with_words w (map word (take (i + 1) xs))
words_next {A} word w v u xs i x lt is e f =
    f ∙ ap (λ (y : Written). with_word y (word x)) e
    ∙ ap (λ (y : A). with_word (with_words w (map word (take i xs))) (word y)) is
    ∙ sym (words_append w (map word (take i xs)) (word (get_or xs i x) ∷ []))
    ∙ ap (with_words w) (sym (map-append word (take i xs) (get_or xs i x ∷ [])))
    ∙ ap (λ (ys : List A). with_words w (map word ys)) (sym (take_more xs i x lt))

-- ---- lines

abbrev pub text : {A : Type 0} → (A → List (List ℕ)) → List A → List ℕ
text words xs = flat_map line (map words xs)

pub text_next : {A : Type 0} (words : A → List (List ℕ)) (xs : List A) (i : ℕ) (x : A) → i < length xs → text words (take (i + 1) xs) ≡ text words (take i xs) ++ line (words (get_or xs i x))
text_next {A} words xs i x lt =
    ap (text words) (take_more xs i x lt)
    ∙ ap (flat_map line) (map-append words (take i xs) (get_or xs i x ∷ []))
    ∙ flat_map-append line (map words (take i xs)) (words (get_or xs i x) ∷ [])
    ∙ ap (λ (ys : List ℕ). text words (take i xs) ++ ys) (append-nil (line (words (get_or xs i x))))

pub lines_next : {A : Type 0} (words : A → List (List ℕ)) → AppendingLaws → (w v u : Written) (xs : List A) (i : ℕ) (x : A) → i < length xs → x ≡ get_or xs i x → v ≡ with_text w (text words (take i xs)) → u ≡ with_end (with_words v (words x))
    → u ≡ with_text w (text words (take (i + 1) xs))
lines_next {A} words k w v u xs i x lt is e f =
    more_text w v u (text words (take i xs)) (line (words x)) e (k.line v u (words x) (none_begun w v (text words (take i xs)) e) f)
    ∙ ap (λ (y : A). with_text w (text words (take i xs) ++ line (words y))) is
    ∙ ap (with_text w) (sym (text_next words xs i x lt))

-- ---- states

pub state_written : (device : Device) (version : Version) (w a b d v : Written) (s : AbsState) → a ≡ with_words w (map (value_word version) (take (register_count device) s.registers)) → b ≡ with_word (with_word a (flags_word s.flags.entry s.flags.bits)) (carry_word s.flags.carry)
    → d ≡ with_words b (pairs_words version s.registers s.facts) → v ≡ with_words d (map (slot_word version) s.slots)
    → v ≡ with_words w (state_words device version s)
state_written device version w a b d v s e f p g =
    let values : List (List ℕ) = map (value_word version) (take (register_count device) s.registers) in
    let known : List (List ℕ) = pairs_words version s.registers s.facts in
    let slots : List (List ℕ) = map (slot_word version) s.slots in
    let flags : Written → Written = λ x. with_word (with_word x (flags_word s.flags.entry s.flags.bits)) (carry_word s.flags.carry) in
    g ∙ ap (λ (x : Written). with_words x slots) (p ∙ ap (λ (x : Written). with_words x known) (f ∙ ap flags e))
    ∙ sym (words_append (flags (with_words w values)) known slots)
    ∙ sym (words_append w values (flags_word s.flags.entry s.flags.bits ∷ carry_word s.flags.carry ∷ (known ++ slots)))

-- ---- parts

pub entry_text : (device : Device) (es : List Entry) → entries_text device es ≡ flat_map line (map (entry_words device) es)
entry_text device [] = refl
entry_text device (e ∷ es) = ap (λ (xs : List ℕ). line (entry_words device e) ++ xs) (entry_text device es)

-- a line alone
pub one_line : (l : List (List ℕ)) → flat_map line (l ∷ []) ≡ line l
one_line l = append-nil (line l)

entries_written : (device : Device) (w v u : Written) (es : List Entry) → v ≡ with_text w (line (numbered (codes "assume") (length es))) → u ≡ with_text v (entries_text device es) → u ≡ with_text w (flat_map line (entry_lines device es))
entries_written device w v u es e f = more_text w v u (line (numbered (codes "assume") (length es))) (flat_map line (map (entry_words device) es)) e (f ∙ ap (with_text v) (entry_text device es))

pub joined_text : (xs ys : List (List (List ℕ))) → flat_map line (xs ++ ys) ≡ flat_map line xs ++ flat_map line ys
joined_text xs ys = flat_map-append line xs ys

pub device_written : (device : Device) (w v : Written) → v ≡ with_text w (line (device_line (class_of device))) → v ≡ with_text w (flat_map line (device_lines true device))
device_written device w v e = e ∙ ap (with_text w) (sym (one_line (device_line (class_of device))))

pub heading_written : (device : Device) (version : Version) (w v d u : Written) (n : ℕ) → v ≡ with_text w (line (version_line device version)) → d ≡ with_text v (flat_map line (device_lines (says_device device) device))
    → u ≡ with_text d (line (numbered (codes "bound") n)) → u ≡ with_text w (flat_map line (heading device version n))
heading_written device version w v d u n e f g =
    let says = says_device device in
    let bound : List (List (List ℕ)) = numbered (codes "bound") n ∷ [] in
    let last : u ≡ with_text d (flat_map line bound) = g ∙ ap (with_text d) (sym (one_line (numbered (codes "bound") n))) in
    let behind : u ≡ with_text v (flat_map line (device_lines says device ++ bound)) =
    more_text v d u (flat_map line (device_lines says device)) (flat_map line bound) f last ∙ ap (with_text v) (sym (joined_text (device_lines says device) bound)) in
    more_text w v u (line (version_line device version)) (flat_map line (device_lines says device ++ bound)) e behind

insts_written : (device : Device) (w v u : Written) (xs : List Inst) → v ≡ with_text w (line (numbered (codes "instances") (length xs))) → u ≡ with_text v (flat_map line (map (inst_words device) xs)) → u ≡ with_text w (flat_map line (inst_lines device xs))
insts_written device w v u xs e f = more_text w v u (line (numbered (codes "instances") (length xs))) (flat_map line (map (inst_words device) xs)) e f

nodes_written : (device : Device) (version : Version) (w v u : Written) (xs : List Inst) (ns : Seeds) → v ≡ with_text w (line (numbered (codes "nodes") (length ns))) → u ≡ with_text v (flat_map line (map (node_words device version xs) ns)) → u ≡ with_text w (flat_map line (node_lines device version xs ns))
nodes_written device version w v u xs ns e f = more_text w v u (line (numbered (codes "nodes") (length ns))) (flat_map line (map (node_words device version xs) ns)) e f

both_written : (w v u : Written) (xs ys : List (List (List ℕ))) → v ≡ with_text w (flat_map line xs) → u ≡ with_text v (flat_map line ys) → u ≡ with_text w (flat_map line (xs ++ ys))
both_written w v u xs ys e f = more_text w v u (flat_map line xs) (flat_map line ys) e f ∙ ap (with_text w) (sym (joined_text xs ys))

front_written : (w a b d u : Written) (c : Claim) → a ≡ with_text w (flat_map line (heading c.device c.version c.bound)) → b ≡ with_text a (flat_map line (entry_lines c.device c.assumptions)) → d ≡ with_text b (flat_map line (inst_lines c.device c.instances)) → u ≡ with_text d (flat_map line (node_lines c.device c.version c.instances c.nodes))
    → u ≡ with_text w (flat_map line (front_lines c))
front_written w a b d u c e f g h =
    both_written w a u (heading c.device c.version c.bound) (entry_lines c.device c.assumptions ++ (inst_lines c.device c.instances ++ node_lines c.device c.version c.instances c.nodes)) e
    (both_written a b u (entry_lines c.device c.assumptions) (inst_lines c.device c.instances ++ node_lines c.device c.version c.instances c.nodes) f (both_written b d u (inst_lines c.device c.instances) (node_lines c.device c.version c.instances c.nodes) g h))

pub attained_written : (w v u : Written) (plan : Plan) → v ≡ with_text w (line attained_line) → u ≡ with_text v (schedule_text plan) → u ≡ with_text w (flat_map line (witness_lines (Some plan)))
attained_written w v u plan e f = more_text w v u (line attained_line) (schedule_text plan) e f

pub open_written : (w v : Written) → v ≡ with_text w (line open_line) → v ≡ with_text w (flat_map line (witness_lines None))
open_written w v e = e ∙ ap (with_text w) (sym (one_line open_line))

all_written : (w a b u : Written) (c : Claim) → a ≡ with_text w (flat_map line (front_lines c)) → b ≡ with_text a (flat_map line (witness_lines c.witness)) → u ≡ with_text b (line end_line) → u ≡ with_text w (text_of c)
all_written w a b u c e f g =
    both_written w a u (front_lines c) (witness_lines c.witness ++ end_line ∷ []) e
    (both_written a b u (witness_lines c.witness) (end_line ∷ []) f (g ∙ ap (with_text b) (sym (one_line end_line))))

-- all parts, one after the other
pub parts_written : AppendingLaws → (w h a e n i m x t v u : Written) (c : Claim) → h ≡ with_text w (flat_map line (heading c.device c.version c.bound))
    → a ≡ with_text h (line (numbered (codes "assume") (length c.assumptions))) → e ≡ with_text a (entries_text c.device c.assumptions)
    → n ≡ with_text e (line (numbered (codes "instances") (length c.instances))) → i ≡ with_text n (flat_map line (map (inst_words c.device) c.instances))
    → m ≡ with_text i (line (numbered (codes "nodes") (length c.nodes))) → x ≡ with_text m (flat_map line (map (node_words c.device c.version c.instances) c.nodes))
    → t ≡ with_text x (flat_map line (witness_lines c.witness)) → v ≡ with_word t (codes "end") → u ≡ with_end v
    → u ≡ with_text w (text_of c)
parts_written k w h a e n i m x t v u c to_h to_a to_e to_n to_i to_m to_x to_t to_v to_u =
    let front = front_written w h e i x c to_h (entries_written c.device h a e c.assumptions to_a to_e) (insts_written c.device e n i c.instances to_n to_i) (nodes_written c.device c.version i m x c.instances c.nodes to_m to_x) in
    let begun = none_begun x t (flat_map line (witness_lines c.witness)) to_t in
    all_written w x t u c front to_t (k.line t u end_line begun (to_u ∙ ap with_end to_v))
