-- Reads the words of an instance's line, and of a node's, in a certificate for a device.
use Rattle.std.specs.Prelude.{ℕ, List, codes, slice_get, Option, Some, None, if◌then◌else◌}
use Rattle.std.specs.Option.{option_map}
use Rattle.avr_model.specs.declared.device.Device.{Device}
use Rattle.avr_model.specs.Devices.{depth_of}
use Rattle.line_reading.specs.Reading.{◌>>=◌, dec_at, word_at, is_over}
use Rattle.node_keys.specs.declared.keys.InstKey.{InstKey}
use Rattle.node_keys.specs.declared.keys.NodeKey.{NodeKey}
use Rattle.node_keys.specs.Keys.{offset_of, is_root}
use Rattle.edge_rules.specs.declared.seeded.NodeForm.{NodeForm}
use Rattle.certificate.specs.declared.instance.Inst.{Inst}
use Rattle.certificate.specs.declared.version.Version.{Version}
use Rattle.cert_words.specs.KeyReading.{inst_key_at, node_key_at, form_at}

unfoldable pub inst_in : Device → List (List ℕ) → Option Inst
inst_in device ws = do
  h ← word_at (codes "inst") ws
  key ← inst_key_at device h.1
  r ← word_at (codes "rank") key.1
  rank ← dec_at 65535 r.1
  n ← word_at (codes "need") rank.1
  need ← dec_at (depth_of device) n.1
  if is_over need.1 then Some (record { key = key.0; rank = rank.0; need = need.0 }) else None

-- the instance of a node, by the number of its line
unfoldable pub instance_at : List Inst → List (List ℕ) → Option (InstKey × List (List ℕ))
instance_at insts ws = do
  h ← word_at (codes "node") ws
  j ← dec_at 65535 h.1
  option_map (λ x. (x.key, j.1)) (slice_get insts j.0)

unfoldable pub whole_key_at : Device → Version → List Inst → List (List ℕ) → Option (NodeKey × List (List ℕ))
whole_key_at device version insts ws = instance_at insts ws >>= λ x. node_key_at device version x.0 x.1

-- the node of this number
unfoldable pub node_in : Device → Version → List Inst → ℕ → List (List ℕ) → Option (NodeKey × NodeForm)
node_in device version insts at ws = do
  key ← whole_key_at device version insts ws
  form ← form_at device version (is_root key.0.inst.kind) (offset_of key.0.sp) at key.1
  if is_over form.1 then Some (key.0, form.0) else None
