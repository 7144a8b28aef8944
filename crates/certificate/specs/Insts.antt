-- The instances of a certificate. Source: own.
use Rattle.std.specs.Prelude.{ℕ, ◌*◌, ◌-◌, ◌==◌, ◌&&◌, ◌||◌, ◌≡◌, ◌<◌, ◌≤◌, ◌^◌, not, nat_lt, Bool, true, List, [], ◌∷◌, map, if◌then◌else◌}
use Rattle.avr_model.specs.declared.device.Device.{Device}
use Rattle.avr_model.specs.Devices.{limit_of, depth_of}
use Rattle.avr_model.specs.Vectors.{is_vector, vector_word, enable_count}
use Rattle.node_keys.specs.declared.keys.Kind.{Kind}
use Rattle.node_keys.specs.declared.keys.Kind.TheVariants.{Root, Call, Vector}
use Rattle.node_keys.specs.declared.keys.InstKey.{InstKey}
use Rattle.node_keys.specs.Order.{same_inst}
use Rattle.certificate.specs.declared.instance.Inst.{Inst}
use Rattle.certificate.specs.Versions.{says_device}

-- a vector's word, from vector 2 on; where the text doesn't say the device, that of vectors of two words or of one
abbrev pub is_vector_word : Device → ℕ → ℕ → Bool
is_vector_word device v entry = if says_device device then entry == vector_word device v else ((entry == 2 * (v - 1)) || (entry == v - 1))

-- The root begins at word 0 with no vector enabled and I clear. A call begins at any word that the device's texts admit, one of its
-- vectors at its own word with I clear.
abbrev pub fits_kind : Device → Kind → ℕ → ℕ → Bool → Bool
fits_kind device Root entry masks i = (entry == 0) && (masks == 0) && not i
fits_kind device Call entry masks i = nat_lt entry (limit_of device)
fits_kind device (Vector v) entry masks i = is_vector device v && is_vector_word device v entry && not i

-- the numbers are in range for the device
pub record IsInst (device : Device) (x : Inst) : Type 0 where
  pub kind : fits_kind device x.key.kind x.key.entry x.key.masks x.key.i ≡ true
  pub masks : x.key.masks < 2 ^ enable_count device
  pub rank : x.rank < 65536
  pub need : x.need ≤ depth_of device

abbrev pub inst_keys : List Inst → List InstKey
inst_keys insts = map (λ x. x.key) insts

-- the rank of an instance, 0 if it is not in the list
abbrev pub rank_in : List Inst → InstKey → ℕ
rank_in [] key = 0
rank_in (x ∷ xs) key = if same_inst x.key key then x.rank else rank_in xs key

-- the need of an instance, 0 if it is not in the list
abbrev pub need_in : List Inst → InstKey → ℕ
need_in [] key = 0
need_in (x ∷ xs) key = if same_inst x.key key then x.need else need_in xs key
