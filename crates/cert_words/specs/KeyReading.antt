-- Reads the words of keys, states and forms of nodes.
use Rattle.std.specs.Prelude.{ℕ, zero, suc, ◌==◌, ◌^◌, nat_lt, Bool, List, [], ◌∷◌, ◌++◌, codes, Option, Some, None, if◌then◌else◌}
use Rattle.std.specs.Option.{option_map}
use Rattle.std.specs.Str.{bytes_eq}
use Rattle.avr_model.specs.declared.device.Device.{Device}
use Rattle.avr_model.specs.Devices.{limit_of}
use Rattle.avr_model.specs.Vectors.{last_vector, enable_count}
use Rattle.avr_model.specs.State.{RAMPZ, EIND, has_register}
use Rattle.line_reading.specs.Reading.{◌>>=◌, hex_at, dec_at, word_by}
use Rattle.line_reading.specs.Letters.{letter_at}
use Rattle.assumption_files.specs.Reading.{word_address_at}
use Rattle.node_keys.specs.declared.keys.Kind.{Kind}
use Rattle.node_keys.specs.declared.keys.Kind.TheVariants.{Root, Call, Vector}
use Rattle.node_keys.specs.declared.keys.InstKey.{InstKey}
use Rattle.node_keys.specs.declared.keys.NodeKey.{NodeKey}
use Rattle.node_keys.specs.Keys.{is_root}
use Rattle.pair_domain.specs.declared.facts.PairFacts.{PairFacts}
use Rattle.abs_state.specs.declared.values.AbsByte.{AbsByte}
use Rattle.abs_state.specs.declared.values.AbsFlags.{AbsFlags}
use Rattle.abs_state.specs.declared.state.AbsState.{AbsState}
use Rattle.abs_state.specs.Banks.{absent}
use Rattle.edge_rules.specs.declared.seeded.NodeForm.{NodeForm}
use Rattle.edge_rules.specs.declared.seeded.NodeForm.TheVariants.{State, From}
use Rattle.certificate.specs.Insts.{fits_kind}
use Rattle.certificate.specs.declared.version.Version.{Version}
use Rattle.certificate.specs.declared.version.Version.TheVariants.{One, Two, Three}
use Rattle.pair_words.specs.Reading.{facts_at}
use Rattle.certificate.specs.Hulls.{hulls_of}
use Rattle.cert_words.specs.KeySpelling.{masks_digits}
use Rattle.cert_words.specs.Reading.{value_in, bank_in, slot_in, flags_in, carry_in, form_in}

-- ---- words

-- this many words after these, each by a reading of its bytes
unfoldable pub words_from : {A : Type 0} → (List ℕ → Option A) → List A → ℕ → List (List ℕ) → Option (List A × List (List ℕ))
words_from f front zero ws = Some (front, ws)
words_from f front (suc n) ws = word_by f ws >>= λ x. words_from f (front ++ x.0 ∷ []) n x.1

-- the enable bits of a device
unfoldable pub masks_at : Device → List (List ℕ) → Option (ℕ × List (List ℕ))
masks_at device ws = hex_at (masks_digits device) ws >>= λ m. if nat_lt m.0 (2 ^ enable_count device) then Some m else None

-- 0 or 1
abbrev pub flag_at : List (List ℕ) → Option (Bool × List (List ℕ))
flag_at ws = option_map (λ n. (n.0 == 1, n.1)) (dec_at 1 ws)

-- ---- instances

-- the number of a vector after its letter
unfoldable pub vector_in : Device → List ℕ → Option Kind
vector_in device w = letter_at w >>= λ l. if l.0 == 118 then option_map (λ n. Vector n.0) (dec_at (last_vector device) (l.1 ∷ [])) else None

unfoldable pub kind_in : Device → List ℕ → Option Kind
kind_in device w = if bytes_eq w (codes "root") then Some Root else (if bytes_eq w (codes "call") then Some Call else vector_in device w)

unfoldable pub inst_key_at : Device → List (List ℕ) → Option (InstKey × List (List ℕ))
inst_key_at device ws = do
  k ← word_by (kind_in device) ws
  e ← word_address_at device k.1
  m ← masks_at device e.1
  i ← flag_at m.1
  if fits_kind device k.0 e.0 m.0 i.0 then Some (record { kind = k.0; entry = e.0; masks = m.0; i = i.0 }, i.1) else None

-- ---- nodes

-- no pick, or the picked byte
unfoldable pub pick_in : List ℕ → Option (Option ℕ)
pick_in w = if bytes_eq w (codes "-") then Some None else option_map (λ n. Some n.0) (hex_at 2 (w ∷ []))

-- the pick, which the first version has no word for
abbrev pub pick_at : Version → List (List ℕ) → Option (Option ℕ × List (List ℕ))
pick_at One ws = Some (None, ws)
pick_at Two ws = word_by pick_in ws
pick_at Three ws = word_by pick_in ws

unfoldable pub node_key_at : Device → Version → InstKey → List (List ℕ) → Option (NodeKey × List (List ℕ))
node_key_at device version inst ws = do
  pc ← word_address_at device ws
  m ← masks_at device pc.1
  i ← flag_at m.1
  d ← flag_at i.1
  f ← word_by (form_in device (is_root inst.kind)) d.1
  p ← pick_at version f.1
  if nat_lt pc.0 (limit_of device) then Some (record { inst = inst; pc = pc.0; masks = m.0; i = i.0; delay = d.0; sp = f.0; pick = p.0 }, p.1) else None

unfoldable pub flags_at : Version → Bool → List (List ℕ) → Option (AbsFlags × List (List ℕ))
flags_at version root ws = do
  f ← word_by (flags_in root) ws
  c ← word_by (carry_in version root) f.1
  Some (record { entry = f.0.0; bits = f.0.1; carry = c.0 }, c.1)

-- the facts on pairs of these registers, which only the third version has words for
abbrev pub pairs_at : Version → List AbsByte → List (List ℕ) → Option (Option PairFacts × List (List ℕ))
pairs_at One registers ws = Some (None, ws)
pairs_at Two registers ws = Some (None, ws)
pairs_at Three registers ws = option_map (λ f. (Some f.0, f.1)) (facts_at (hulls_of registers) ws)

-- RAMPZ or EIND; one that the device lacks has no word
unfoldable pub bank_at : Device → Version → Bool → ℕ → List (List ℕ) → Option (AbsByte × List (List ℕ))
bank_at device version root r ws = if has_register device r then word_by (bank_in device version root r) ws else Some (absent root r, ws)

-- all registers, of which the first has this value
unfoldable pub registers_behind : Device → Version → Bool → AbsByte → List (List ℕ) → Option (List AbsByte × List (List ℕ))
registers_behind device version root first ws = do
  r ← words_from (value_in device version root) (first ∷ []) 31 ws
  z ← bank_at device version root RAMPZ r.1
  e ← bank_at device version root EIND z.1
  Some (r.0 ++ z.0 ∷ e.0 ∷ [], e.1)

-- a state whose first register has this value
unfoldable pub state_behind : Device → Version → Bool → ℕ → AbsByte → List (List ℕ) → Option (AbsState × List (List ℕ))
state_behind device version root offset first ws = do
  r ← registers_behind device version root first ws
  f ← flags_at version root r.1
  p ← pairs_at version r.0 f.1
  s ← words_from (slot_in device version root) [] offset p.1
  Some (record { registers = r.0; flags = f.0; slots = s.0; facts = p.0 }, s.1)

abbrev pub by_state : Option (AbsState × List (List ℕ)) → Option (NodeForm × List (List ℕ))
by_state found = option_map (λ s. (State s.0, s.1)) found

-- after `from`: the number of an earlier node
unfoldable pub from_behind : ℕ → List (List ℕ) → Option (NodeForm × List (List ℕ))
from_behind at ws = dec_at 65535 ws >>= λ m. if nat_lt m.0 at then Some (From m.0, m.1) else None

-- the form of the node of this number
unfoldable pub form_at : Device → Version → Bool → ℕ → ℕ → List (List ℕ) → Option (NodeForm × List (List ℕ))
form_at device version root offset at [] = None
form_at device version root offset at (w ∷ ws) =
    if bytes_eq w (codes "from") then from_behind at ws else (value_in device version root w >>= λ v. by_state (state_behind device version root offset v ws))
