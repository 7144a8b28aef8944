-- The enable bits that a byte may set if it is stored through an unknown pointer. Source: own.
use Rattle.std.specs.Prelude.{ℕ, ◌+◌, ◌==◌, ◌&&◌, not, Bool, true, false, if◌then◌else◌, List, Option, Some, None}
use Rattle.std.specs.Int.{bit_at}
use Rattle.std.specs.List.{list_any}
use Rattle.avr_model.specs.declared.device.Device.{Device}
use Rattle.avr_model.specs.declared.rows.EnablePlace.{EnablePlace}
use Rattle.avr_model.specs.declared.assumption.Entry.{Entry}
use Rattle.avr_model.specs.Bits.{number_of, any_below}
use Rattle.avr_model.specs.Masks.{is_barred}
use Rattle.avr_model.specs.Vectors.{enable_count, enable_places, has_enable_place, with_enable}
use Rattle.bit_domain.specs.Tri.{permits}
use Rattle.bit_domain.specs.declared.bytes.TriByte.{TriByte}
use Rattle.bit_domain.specs.TriByte.{tri_at}

-- the byte may have 1 at a bit of the mask
unfoldable pub may_have : TriByte → ℕ → Bool
may_have value mask = any_below 8 (λ j. permits (tri_at value j) 1 && (bit_at mask j == 1))

-- the byte may enable the place's vector
abbrev pub may_enable : TriByte → EnablePlace → Bool
may_enable value p = may_have value p.mask

-- The byte may enable a barred vector at this address.
unfoldable pub may_enable_barred : Device → List Entry → ℕ → TriByte → Bool
may_enable_barred device A a value = list_any (λ (p : EnablePlace). (p.address == a) && may_enable value p && is_barred device A p.vector) (enable_places device)

-- The byte may enable a vector that isn't barred, at an address that passes the test.
unfoldable pub may_enable_other : Device → List Entry → (ℕ → Bool) → TriByte → Bool
may_enable_other device A reaches value = list_any (λ (p : EnablePlace). reaches p.address && may_enable value p && not (is_barred device A p.vector)) (enable_places device)

-- a vector that some place enables, and that isn't barred
abbrev pub may_wake : Device → List Entry → ℕ → Bool
may_wake device A v = has_enable_place device v && not (is_barred device A v)

-- the enable bits with those of all such vectors
unfoldable pub widened : Device → List Entry → ℕ → ℕ
widened device A masks = number_of (enable_count device) (λ k. if may_wake device A (k + 2) then 1 else bit_at masks k)

-- removes the vector of an enable bit that reads 0; in a set of what is enabled it must be absent
abbrev pub without : Device → Bool → Option ℕ → ℕ → ℕ
without device false v masks = masks
without device true None masks = masks
without device true (Some v) masks = with_enable device masks v false
