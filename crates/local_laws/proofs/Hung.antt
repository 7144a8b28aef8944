-- An open stack pointer is a fault if an interrupt may be taken.
use Rattle.std.proofs.Common.{◌≡◌, ℕ, ◌+◌, ◌<◌, Bool, true, false, not, ◌&&◌, List, arith}
use Rattle.std.proofs.lemmas.Bool.Decides.{nat_tests}
use Rattle.basics.specs.Booleans.{and_not}
use Rattle.avr_model.proofs.AllLaws.{some_below}
use Rattle.avr_model.specs.declared.device.Device.{Device}
use Rattle.avr_model.specs.declared.assumption.Entry.{Entry}
use Rattle.avr_model.specs.Assumptions.{is_never}
use Rattle.avr_model.specs.Vectors.{is_enabled, last_vector, vector_word}
use Rattle.local_rules.specs.Local.{may_come}
use Rattle.local_laws.specs.Laws.{OpenPairsHang}

enabled_small : (device : Device) (masks v : ℕ) → is_enabled device masks v ≡ true → v < last_vector device + 1
unfolding is_enabled
enabled_small device masks v h = grind (arith, nat_tests)

all_three : (a b c : Bool) → a ≡ true → b ≡ false → c ≡ true → (a && not b && c) ≡ true
all_three a b c p q r = grind arith

comes : (device : Device) (A : List Entry) (masks v : ℕ) → is_enabled device masks v ≡ true → is_never A (vector_word device v) ≡ false → may_come device A masks ≡ true
unfolding may_come
comes device A masks v enabled plain =
    some_below (last_vector device + 1) (λ w. is_enabled device masks w && not (is_never A (vector_word device w))) v (enabled_small device masks v enabled)
    (and_not (is_enabled device masks v) (is_never A (vector_word device v)) enabled plain)

pub all_open_pairs_hang : OpenPairsHang
all_open_pairs_hang = record {
  hung = λ device A k v offset high i delay enabled plain. all_three k.i k.delay (may_come device A k.masks) i delay (comes device A k.masks v enabled plain);
}
