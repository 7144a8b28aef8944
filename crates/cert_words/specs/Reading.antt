-- Reads words from their front, for a device. A reading gives a value and the bytes behind it, or nothing. In the root's frame nothing is
-- tagged.
use Rattle.std.specs.Prelude.{ℕ, ◌-◌, ◌==◌, ◌&&◌, nat_lt, nat_le, not, Bool, true, false, List, [], ◌∷◌, length, take, drop, codes, Option, Some, None, if◌then◌else◌}
use Rattle.std.specs.Option.{option_map}
use Rattle.std.specs.Int.{bit_at}
use Rattle.std.specs.Int.RustNames.{bit_and}
use Rattle.std.specs.Str.{bytes_eq}
use Rattle.avr_model.specs.declared.device.Device.{Device}
use Rattle.avr_model.specs.Devices.{depth_of, has_sph}
use Rattle.avr_model.specs.State.{bank_most}
use Rattle.line_reading.specs.Reading.{◌>>=◌, dec_at}
use Rattle.line_reading.specs.Letters.{letter_at, digits_at, is_end}
use Rattle.bit_domain.specs.declared.bytes.TriByte.{TriByte}
use Rattle.bit_domain.specs.TriByte.{byte_of, tri_of}
use Rattle.bit_domain.specs.Ranges.{least_of, most_of}
use Rattle.sp_domain.specs.declared.tags.Tag.{Tag}
use Rattle.sp_domain.specs.declared.tags.Tag.TheVariants as tag
use Rattle.sp_domain.specs.declared.tags.CarryTag.{CarryTag}
use Rattle.sp_domain.specs.declared.tags.CarryTag.TheVariants as carry
use Rattle.sp_domain.specs.declared.slots.Slot.{Slot}
use Rattle.sp_domain.specs.declared.slots.Slot.TheVariants.{Free, Guarded}
use Rattle.abs_state.specs.declared.values.AbsByte.{AbsByte}
use Rattle.abs_state.specs.Banks.{is_tag_of}
use Rattle.node_keys.specs.declared.keys.High.{High}
use Rattle.node_keys.specs.declared.keys.High.TheVariants as high
use Rattle.node_keys.specs.declared.keys.SpForm.{SpForm}
use Rattle.node_keys.specs.declared.keys.SpForm.TheVariants.{Closed, Open}
use Rattle.pair_words.specs.Reading.{register_at}
use Rattle.certificate.specs.declared.version.Version.{Version}
use Rattle.certificate.specs.declared.version.Version.TheVariants.{One, Two, Three}

-- ---- values

-- the byte with these known bits and values
abbrev pub tri_byte : ℕ → ℕ → TriByte
tri_byte known value = byte_of (λ i. tri_of (bit_at known i) (bit_at value i))

-- known bits and their values; an unknown bit must have the value 0
unfoldable pub bits_at : List ℕ → Option (TriByte × List ℕ)
bits_at bs = do
  k ← digits_at 2 bs
  v ← digits_at 2 k.1
  if bit_and v.0 k.0 == v.0 then Some (tri_byte k.0 v.0, v.1) else None

-- the tag of a letter and the bytes behind it
unfoldable pub tag_by : ℕ → List ℕ → Option (Tag × List ℕ)
tag_by letter bs =
    if letter == 101 then option_map (λ r. (tag.Entry r.0, r.1)) (digits_at 2 bs)
    else (if letter == 102 then Some (tag.EntryFlags, bs)
    else (if letter == 108 then option_map (λ j. (tag.SpLo j.0, j.1)) (digits_at 2 bs)
    else (if letter == 104 then option_map (λ k. (tag.SpHi k.0, k.1)) (digits_at 4 bs) else None)))

-- a tag that the device has
unfoldable pub own_tag_by : Device → ℕ → List ℕ → Option (Tag × List ℕ)
own_tag_by device letter bs = tag_by letter bs >>= λ t. if is_tag_of device t.0 then Some t else None

unfoldable pub tag_at : Device → Bool → List ℕ → Option (Tag × List ℕ)
tag_at device root bs = letter_at bs >>= λ l. if l.0 == 45 then Some (tag.None, l.1) else (if root then None else own_tag_by device l.0 l.1)

-- the ends of a range between the least and the greatest byte of the bits
unfoldable pub ends_at : TriByte → List ℕ → Option ((ℕ × ℕ) × List ℕ)
ends_at bits bs = do
  l ← digits_at 2 bs
  h ← digits_at 2 l.1
  if nat_le (least_of bits) l.0 && nat_le l.0 h.0 && nat_le h.0 (most_of bits) then Some ((l.0, h.0), h.1) else None

-- the ends of a value's range; in the first version those of its bits
abbrev pub range_at : Version → TriByte → List ℕ → Option ((ℕ × ℕ) × List ℕ)
range_at One bits bs = Some ((least_of bits, most_of bits), bs)
range_at Two bits bs = ends_at bits bs
range_at Three bits bs = ends_at bits bs

-- the value with this tag, from the bytes behind it
abbrev pub value_behind : Version → Tag → List ℕ → Option AbsByte
value_behind version tag bs = do
  b ← bits_at bs
  r ← range_at version b.0 b.1
  if is_end r.1 then Some (record { tag = tag; bits = b.0; low = r.0.0; high = r.0.1 }) else None

unfoldable pub value_in : Device → Version → Bool → List ℕ → Option AbsByte
value_in device version root w = tag_at device root w >>= λ t. value_behind version t.0 t.1

-- the value of RAMPZ or EIND, whose bits permit no number above the register's greatest
unfoldable pub bank_in : Device → Version → Bool → ℕ → List ℕ → Option AbsByte
bank_in device version root r w = value_in device version root w >>= λ v. if nat_le (most_of v.bits) (bank_most device r) then Some v else None

unfoldable pub slot_in : Device → Version → Bool → List ℕ → Option (Slot AbsByte)
slot_in device version root w = if bytes_eq w (codes ".") then Some Free else option_map (λ v. Guarded v) (value_in device version root w)

-- ---- flags

-- whether flags are those of the entry
abbrev pub entry_by : Bool → ℕ → Option Bool
entry_by root letter = if letter == 45 then Some false else (if root then None else (if letter == 102 then Some true else None))

-- flags with bit 7 unknown
unfoldable pub flags_in : Bool → List ℕ → Option (Bool × TriByte)
flags_in root w = do
  l ← letter_at w
  e ← entry_by root l.0
  b ← bits_at l.1
  if nat_lt b.0.known 128 && is_end b.1 then Some (e, b.0) else None

-- two bytes, and nothing else
unfoldable pub bytes_in : List ℕ → Option (ℕ × ℕ)
bytes_in bs = do
  j ← digits_at 2 bs
  l ← digits_at 2 j.1
  if is_end l.1 then Some (j.0, l.0) else None

abbrev pub borrow_in : List ℕ → Option CarryTag
borrow_in bs = option_map (λ n. carry.Borrow n.0 n.1) (bytes_in bs)

abbrev pub sum_in : List ℕ → Option CarryTag
sum_in bs = option_map (λ n. carry.Sum n.0 n.1) (bytes_in bs)

unfoldable pub less_in : List ℕ → Option CarryTag
less_in bs = do
  r ← register_at bs
  k ← digits_at 2 r.1
  if is_end k.1 then Some (carry.Less r.0 k.0) else None

-- the carry tag of a letter and the bytes behind it; the root's frame has no borrow and no sum
abbrev pub tagged_by : Bool → ℕ → List ℕ → Option CarryTag
tagged_by root letter bs =
    if letter == 98 && not root then borrow_in bs
    else (if letter == 115 && not root then sum_in bs
    else (if letter == 99 then less_in bs else None))

-- the first version has no sum, and no tag of a register
unfoldable pub carry_by : Version → Bool → ℕ → List ℕ → Option CarryTag
carry_by One root letter bs = if letter == 98 && not root then borrow_in bs else None
carry_by Two root letter bs = tagged_by root letter bs
carry_by Three root letter bs = tagged_by root letter bs

unfoldable pub carry_in : Version → Bool → List ℕ → Option CarryTag
carry_in version root w = if bytes_eq w (codes "-") then Some carry.None else (letter_at w >>= λ l. carry_by version root l.0 l.1)

-- ---- forms of the stack pointer

-- an offset that the device's texts admit
abbrev pub offset_in : Device → List ℕ → Option ℕ
offset_in device bs = option_map (λ n. n.0) (dec_at (depth_of device) (bs ∷ []))

-- a comma, a letter, and a number in this many digits
unfoldable pub marked_in : ℕ → ℕ → List ℕ → Option ℕ
marked_in mark digits bs = do
  c ← letter_at bs
  m ← letter_at c.1
  n ← digits_at digits m.1
  if c.0 == 44 && m.0 == mark && is_end n.1 then Some n.0 else None

-- the high byte: known in the root, a tag elsewhere
abbrev pub high_in : Bool → List ℕ → Option High
high_in true bs = option_map (λ byte. high.Known byte) (marked_in 107 2 bs)
high_in false bs = option_map (λ k. high.Tag k) (marked_in 116 4 bs)

-- the number of letters of the high byte
abbrev pub high_size : Bool → ℕ
high_size true = 4
high_size false = 6

unfoldable pub open_in : Device → Bool → List ℕ → Option SpForm
open_in device root bs =
    if nat_lt (length bs) (high_size root) then None
    else (do
      n ← offset_in device (take (length bs - high_size root) bs)
      h ← high_in root (drop (length bs - high_size root) bs)
      Some (Open n h))

unfoldable pub form_in : Device → Bool → List ℕ → Option SpForm
form_in device root w =
    letter_at w >>= λ l. if l.0 == 99 then option_map (λ n. Closed n) (offset_in device l.1) else (if (l.0 == 111) && has_sph device then open_in device root l.1 else None)
