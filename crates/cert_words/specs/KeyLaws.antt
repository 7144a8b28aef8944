-- Reading and spelling of keys and forms of nodes are inverse.
use Rattle.std.specs.Prelude.{ℕ, ◌≡◌, ◌<◌, ◌≤◌, ◌^◌, ◌++◌, true, List, [], Some}
use Rattle.std.specs.List.{AllByRecursion}
use Rattle.avr_model.specs.declared.device.Device.{Device}
use Rattle.avr_model.specs.Vectors.{enable_count}
use Rattle.local_rules.specs.Cover.{IsKey}
use Rattle.line_reading.specs.Words.{IsWord}
use Rattle.node_keys.specs.declared.keys.InstKey.{InstKey}
use Rattle.node_keys.specs.declared.keys.NodeKey.{NodeKey}
use Rattle.node_keys.specs.Keys.{offset_of, is_root}
use Rattle.edge_rules.specs.declared.seeded.NodeForm.{NodeForm}
use Rattle.certificate.specs.Insts.{fits_kind}
use Rattle.certificate.specs.Claims.{FitsAt}
use Rattle.certificate.specs.declared.version.Version.{Version}
use Rattle.certificate.specs.Versions.{PickIsOf, FormIsOf, is_third}
use Rattle.cert_words.specs.KeySpelling.{inst_key_words, point_words, form_words}
use Rattle.cert_words.specs.KeyReading.{inst_key_at, node_key_at, form_at}

-- a key of an instance that is valid for the device
pub record IsInstKey (device : Device) (key : InstKey) : Type 0 where
  pub kind : fits_kind device key.kind key.entry key.masks key.i ≡ true
  pub masks : key.masks < 2 ^ enable_count device

pub record InstKeyWords : Type 0 where
  pub spelled : (device : Device) (ws rest : List (List ℕ)) (key : InstKey) → inst_key_at device ws ≡ Some (key, rest) → (ws ≡ inst_key_words device key ++ rest) × IsInstKey device key
  pub read : (device : Device) (key : InstKey) (rest : List (List ℕ)) → IsInstKey device key → inst_key_at device (inst_key_words device key ++ rest) ≡ Some (key, rest)
  pub words : (device : Device) (key : InstKey) → IsInstKey device key → AllByRecursion IsWord (inst_key_words device key)

-- the words are those of this node of the instance for the device, followed by the rest
pub record IsPointSpelled (device : Device) (version : Version) (inst : InstKey) (ws rest : List (List ℕ)) (key : NodeKey) : Type 0 where
  pub words : ws ≡ point_words device version key ++ rest
  pub key_fits : IsKey device key
  pub of_version : PickIsOf version key.pick
  pub same : inst ≡ key.inst

pub record PointWords : Type 0 where
  pub spelled : (device : Device) (version : Version) (inst : InstKey) (ws rest : List (List ℕ)) (key : NodeKey) → node_key_at device version inst ws ≡ Some (key, rest) → IsPointSpelled device version inst ws rest key
  pub read : (device : Device) (version : Version) (key : NodeKey) (rest : List (List ℕ)) → IsKey device key → PickIsOf version key.pick → node_key_at device version key.inst (point_words device version key ++ rest) ≡ Some (key, rest)
  pub words : (device : Device) (version : Version) (key : NodeKey) → IsKey device key → AllByRecursion IsWord (point_words device version key)

-- the form of the node of this number and key; its state follows pairs exactly in the third version
pub record FormWords : Type 0 where
  pub spelled : (device : Device) (version : Version) (at : ℕ) (key : NodeKey) (ws rest : List (List ℕ)) (form : NodeForm) → IsKey device key
      → form_at device version (is_root key.inst.kind) (offset_of key.sp) at ws ≡ Some (form, rest) → (ws ≡ form_words device version form ++ rest) × FitsAt device (is_third version) at key form × FormIsOf version form
  pub read : (device : Device) (version : Version) (at : ℕ) (key : NodeKey) (form : NodeForm) → at ≤ 65536 → FitsAt device (is_third version) at key form → FormIsOf version form
      → form_at device version (is_root key.inst.kind) (offset_of key.sp) at (form_words device version form) ≡ Some (form, [])
  pub words : (device : Device) (version : Version) (at : ℕ) (key : NodeKey) (form : NodeForm) → at ≤ 65536 → FitsAt device (is_third version) at key form → FormIsOf version form → AllByRecursion IsWord (form_words device version form)

pub record KeyWords : Type 0 where
  pub insts : InstKeyWords
  pub points : PointWords
  pub forms : FormWords
