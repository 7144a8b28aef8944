-- The word after the next instruction.
use Rattle.std.proofs.Common.{◌≡◌, ◌∙◌, sym, ap, ℕ, ◌+◌, ◌%◌, slice_index, arith}
use Rattle.avr_model.proofs.AllLaws.{devices_are_alike}
use Rattle.avr_model.specs.declared.device.Device.{Device}
use Rattle.avr_model.specs.Devices.{Image, wrapped}
use Rattle.avr_model.specs.Image.{word_at}
use Rattle.avr_model.specs.Table.{length_of}
use Rattle.node_keys.specs.declared.keys.NodeKey.{NodeKey}
use Rattle.local_rules.specs.Raw.{further}

-- 32 bits of an address are enough
of_32 : (device : Device) (a : ℕ) → wrapped device (a % 4294967296) ≡ wrapped device a
of_32 device a =
    let again : a % 4294967296 % 131072 ≡ a % 131072 = omega arith in
    sym (devices_are_alike.of_17 device (a % 4294967296)) ∙ ap (wrapped device) again ∙ devices_are_alike.of_17 device a

-- the address of the next instruction's word is one of 32 bits
pub skipped : (image : Image) (device : Device) (k : NodeKey) (next word length to : ℕ) → next ≡ (k.pc + 1) % 4294967296 → word ≡ word_at image next → length ≡ length_of word
    → to ≡ further device k (1 + length) → to ≡ further device k (1 + length_of (word_at image (k.pc + 1)))
skipped image device k next word length to at read counted is =
    let here : word ≡ word_at image (k.pc + 1) = read ∙ ap (word_at image) at ∙ ap (slice_index image.words) (of_32 image.device (k.pc + 1)) in
    is ∙ ap (λ (n : ℕ). further device k (1 + n)) (counted ∙ ap length_of here)
