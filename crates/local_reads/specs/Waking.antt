-- The vectors that a store through a pointer may enable, place by place.
use Rattle.std.specs.Prelude.{ℕ, ◌&&◌, Bool}
use Rattle.avr_model.specs.State.{minus16}
use Rattle.avr_model.specs.declared.rows.EnablePlace.{EnablePlace}
use Rattle.bit_domain.specs.declared.bytes.TriByte.{TriByte}
use Rattle.node_keys.specs.Wakes.{may_enable}
use Rattle.local_rules.specs.Permitted.{permits_number}
use Rattle.local_reads.specs.declared.wakes.PointerByte.{PointerByte}

-- the place is at an address that passes the test, and the byte may enable its vector
abbrev pub may_enable_reached : (ℕ → Bool) → TriByte → EnablePlace → Bool
may_enable_reached reaches value p = reaches p.address && may_enable value p

-- the pointer permits the address
abbrev pub is_permitted : PointerByte → ℕ → Bool
is_permitted byte a = permits_number byte.state.now byte.r (minus16 a byte.up)
