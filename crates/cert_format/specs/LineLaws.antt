-- Reading and spelling of lines of instances and nodes are inverse.
use Rattle.std.specs.Prelude.{ℕ, ◌≡◌, ◌<◌, ◌≤◌, List, slice_get, Some}
use Rattle.std.specs.List.{AllByRecursion}
use Rattle.line_reading.specs.Words.{IsWord}
use Rattle.avr_model.specs.declared.device.Device.{Device}
use Rattle.node_keys.specs.declared.keys.NodeKey.{NodeKey}
use Rattle.edge_rules.specs.declared.seeded.NodeForm.{NodeForm}
use Rattle.certificate.specs.declared.instance.Inst.{Inst}
use Rattle.certificate.specs.declared.version.Version.{Version}
use Rattle.certificate.specs.Insts.{IsInst}
use Rattle.certificate.specs.Claims.{FitsAt}
use Rattle.certificate.specs.Versions.{NodeIsOf, is_third}
use Rattle.cert_words.specs.Text.{inst_words, node_words_at}
use Rattle.cert_format.specs.LineReading.{inst_in, node_in}

pub record InstLines : Type 0 where
  pub spelled : (device : Device) (ws : List (List ℕ)) (x : Inst) → inst_in device ws ≡ Some x → (ws ≡ inst_words device x) × IsInst device x
  pub read : (device : Device) (x : Inst) → IsInst device x → inst_in device (inst_words device x) ≡ Some x
  pub words : (device : Device) (x : Inst) → IsInst device x → AllByRecursion IsWord (inst_words device x)

-- The instance whose line has this number exists, and is the node's.
pub record IsInstanceOf (insts : List Inst) (number : ℕ) (key : NodeKey) : Type 0 where
  pub inst : Inst
  pub there : slice_get insts number ≡ Some inst
  pub same : inst.key ≡ key.inst

-- The words are those of the line of this node, number `at`, with the number of its instance.
pub record IsNodeLine (device : Device) (version : Version) (insts : List Inst) (at : ℕ) (ws : List (List ℕ)) (n : NodeKey × NodeForm) : Type 0 where
  pub number : ℕ
  pub words : ws ≡ node_words_at device version number n
  pub inst : IsInstanceOf insts number n.0
  pub fits : FitsAt device (is_third version) at n.0 n.1
  pub of_version : NodeIsOf version n

pub record NodeLines : Type 0 where
  pub spelled : (device : Device) (version : Version) (insts : List Inst) (at : ℕ) (ws : List (List ℕ)) (n : NodeKey × NodeForm) → node_in device version insts at ws ≡ Some n → IsNodeLine device version insts at ws n
  pub read : (device : Device) (version : Version) (insts : List Inst) (at number : ℕ) (n : NodeKey × NodeForm) → at ≤ 65536 → number < 65536 → IsInstanceOf insts number n.0 → FitsAt device (is_third version) at n.0 n.1 → NodeIsOf version n
      → node_in device version insts at (node_words_at device version number n) ≡ Some n
  pub words : (device : Device) (version : Version) (at number : ℕ) (n : NodeKey × NodeForm) → at ≤ 65536 → number < 65536 → FitsAt device (is_third version) at n.0 n.1 → NodeIsOf version n → AllByRecursion IsWord (node_words_at device version number n)
