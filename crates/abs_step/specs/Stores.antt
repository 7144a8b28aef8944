-- The effect of a write, by the kind of its address.
use Rattle.std.specs.Prelude.{ℕ, Bool, List, map, Option}
use Rattle.bit_domain.specs.TriByte.{tri_at}
use Rattle.local_rules.specs.Raw.{Raw, moves_to, one}
use Rattle.local_rules.specs.Writes.{ByteWrite, closing, flags_written, masks_written, put_flags, register_written, sreg_written}

-- to a register
abbrev pub register_by : ByteWrite → ℕ → Raw
register_by w d = one w.key (register_written w.device w.state d w.value)

-- to SPL, which closes the pair at this offset
abbrev pub closing_by : ByteWrite → Option ℕ → Raw
closing_by w offset = closing w.device offset w.key w.state w.pc

-- to SREG
abbrev pub flags_by : ByteWrite → Bool → Raw
flags_by w is_out = sreg_written (tri_at w.value.bits 7) w.key (put_flags w.state (flags_written w.value)) is_out

-- to any other address
abbrev pub masks_by : ByteWrite → ℕ → Raw
masks_by w a = masks_written w.device w.key w.state a w.value

-- with each of these enable bits
abbrev pub each_masks : ByteWrite → List ℕ → Raw
each_masks w all = moves_to (map (λ m. record { key = record w.key { masks = m }; state = w.state }) all)
