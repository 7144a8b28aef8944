-- The words of keys, states and forms of nodes. Source: own.
use Rattle.std.specs.Prelude.{ℕ, ◌+◌, ◌/◌, List, [], ◌∷◌, ◌++◌, map, take, codes, Option, Some, None, if◌then◌else◌}
use Rattle.std.specs.Fmt.{decimal}
use Rattle.text_base.specs.Digits.{hex_digits}
use Rattle.avr_model.specs.declared.device.Device.{Device}
use Rattle.avr_model.specs.Devices.{has_elpm, has_eijmp}
use Rattle.avr_model.specs.Vectors.{enable_count}
use Rattle.assumption_files.specs.Spelling.{word_address_text}
use Rattle.node_keys.specs.declared.keys.Kind.{Kind}
use Rattle.node_keys.specs.declared.keys.Kind.TheVariants.{Root, Call, Vector}
use Rattle.node_keys.specs.declared.keys.InstKey.{InstKey}
use Rattle.node_keys.specs.declared.keys.NodeKey.{NodeKey}
use Rattle.pair_domain.specs.declared.facts.PairFacts.{PairFacts}
use Rattle.abs_state.specs.declared.values.AbsByte.{AbsByte}
use Rattle.abs_state.specs.declared.state.AbsState.{AbsState}
use Rattle.edge_rules.specs.declared.seeded.NodeForm.{NodeForm}
use Rattle.edge_rules.specs.declared.seeded.NodeForm.TheVariants.{State, From}
use Rattle.witness_replay.specs.Spelling.{bit}
use Rattle.certificate.specs.declared.version.Version.{Version}
use Rattle.certificate.specs.declared.version.Version.TheVariants.{One, Two, Three}
use Rattle.pair_words.specs.Spelling.{facts_words}
use Rattle.certificate.specs.Hulls.{hulls_of}
use Rattle.cert_words.specs.Spelling.{value_word, flags_word, carry_word, slot_word, form_word}

-- ---- keys

abbrev pub kind_word : Kind → List ℕ
kind_word Root = codes "root"
kind_word Call = codes "call"
kind_word (Vector v) = codes "v" ++ decimal v

-- the number of hexadecimal digits of a device's enable bits
abbrev pub masks_digits : Device → ℕ
masks_digits device = (enable_count device + 3) / 4

-- an instance: kind, entry, enable bits and I
abbrev pub inst_key_words : Device → InstKey → List (List ℕ)
inst_key_words device key = kind_word key.kind ∷ word_address_text device key.entry ∷ hex_digits key.masks (masks_digits device) ∷ bit key.i ∷ []

-- no pick, or the picked byte
abbrev pub pick_word : Option ℕ → List ℕ
pick_word None = codes "-"
pick_word (Some byte) = hex_digits byte 2

-- the pick; nothing in the first version
abbrev pub pick_words : Version → Option ℕ → List (List ℕ)
pick_words One pick = []
pick_words Two pick = pick_word pick ∷ []
pick_words Three pick = pick_word pick ∷ []

-- the program point of a node within its instance: word, enable bits, I, delay, form of the stack pointer and pick
abbrev pub point_words : Device → Version → NodeKey → List (List ℕ)
point_words device version key =
    word_address_text device key.pc ∷ hex_digits key.masks (masks_digits device) ∷ bit key.i ∷ bit key.delay ∷ form_word key.sp ∷ pick_words version key.pick

-- a node with its instance; it ends with the pick in every version
abbrev pub node_key_words : Device → NodeKey → List (List ℕ)
node_key_words device key = inst_key_words device key.inst ++ point_words device Two key

-- ---- what is known at a node

-- the facts on pairs of these registers; nothing but in the third version
abbrev pub pairs_words : Version → List AbsByte → Option PairFacts → List (List ℕ)
pairs_words One registers facts = []
pairs_words Two registers facts = []
pairs_words Three registers None = []
pairs_words Three registers (Some f) = facts_words (hulls_of registers) f

-- the number of registers of the device: r0 to r31, RAMPZ behind `elpm` and EIND behind `eijmp`
abbrev pub register_count : Device → ℕ
register_count device = if has_eijmp device then 34 else (if has_elpm device then 33 else 32)

-- registers of the device, flags, carry tag, pairs and slots
abbrev pub state_words : Device → Version → AbsState → List (List ℕ)
state_words device version s =
    map (value_word version) (take (register_count device) s.registers) ++ (flags_word s.flags.entry s.flags.bits ∷ carry_word s.flags.carry ∷ (pairs_words version s.registers s.facts ++ map (slot_word version) s.slots))

-- a state, or the number of the node that it comes from
abbrev pub form_words : Device → Version → NodeForm → List (List ℕ)
form_words device version (State s) = state_words device version s
form_words device version (From m) = codes "from" ∷ decimal m ∷ []
