-- I/O register numbers in instructions are below 64.
use Rattle.std.proofs.Common.{◌≡◌, refl, subst, ℕ, ◌+◌, ◌<◌, Bool, true, false, List, [], ◌∷◌, Option, Some, None, if◌then◌else◌, arith}
use Rattle.std.specs.Prelude.{⊤}
use Rattle.local_laws.proofs.AllLaws.{bound_of, letter_below}
use Rattle.avr_model.specs.declared.device.Device.{Device}
use Rattle.avr_model.specs.declared.instruction.Instr.{Instr}
use Rattle.avr_model.specs.declared.instruction.Instr.TheVariants as i
use Rattle.avr_model.specs.Devices.{Image, device_of}
use Rattle.avr_model.specs.Image.{word_at}
use Rattle.avr_model.specs.Pattern.{places, letter}
use Rattle.avr_model.specs.Sites.{instruction_at, on_device, is_lacking}
use Rattle.avr_model.specs.Table.{Row, fields, matches, table, decoded, decoded_by}

abbrev pub PortFits : Instr → Type 0
PortFits (i.Out a r) = a < 64
PortFits (i.Cbi a b) = a < 32
PortFits (i.Sbi a b) = a < 32
PortFits instr = ⊤

-- a number of five or six places
small : (p : List ℕ) (w n : ℕ) → bound_of 65 1 p ≡ n → letter 65 0 p w < n
small p w n e = subst (λ (n : ℕ). letter 65 0 p w < n) e (letter_below 65 p w 0 1 (omega arith))

abbrev PortRowsFit : List Row → ℕ → ℕ → Type 0
PortRowsFit [] w next = ⊤
PortRowsFit (row ∷ rows) w next = PortFits (row.instr (fields row.pattern w next)) × PortRowsFit rows w next

table_fits : (w next : ℕ) → PortRowsFit table w next
table_fits w next =
    let cbi = small (places "1001 1000 AAAA Abbb") w 32 refl in
    let sbi = small (places "1001 1010 AAAA Abbb") w 32 refl in
    let out = small (places "1011 1AAr rrrr AAAA") w 64 refl in
    assumption (cbi, sbi, out)

rows_fit : (rows : List Row) (w next : ℕ) (instr : Instr) → PortRowsFit rows w next → decoded_by rows w next ≡ Some instr → PortFits instr
rows_fit [] w next instr h e = cc
rows_fit (row ∷ rows) w next instr h e = by (matches row w) (rows_fit rows w next instr h.1) e
  where
    by : (b : Bool) → (decoded_by rows w next ≡ Some instr → PortFits instr)
        → (if b then Some (row.instr (fields row.pattern w next)) else decoded_by rows w next) ≡ Some instr → PortFits instr
    by true rest e = let is : row.instr (fields row.pattern w next) ≡ instr = cc in subst PortFits is h.0
    by false rest e = rest e

decoded_fits : (w next : ℕ) (instr : Instr) → decoded w next ≡ Some instr → PortFits instr
unfolding decoded
decoded_fits w next instr e = rows_fit table w next instr (table_fits w next) e

-- a device either lacks an instruction or has it unchanged
device_fits : (device : Device) (x : Option Instr) (instr : Instr) → ((y : Instr) → x ≡ Some y → PortFits y) → on_device device x ≡ Some instr → PortFits instr
device_fits device None instr h e = absurd (cc)
device_fits device (Some y) instr h e = by (is_lacking device y) e
  where
    by : (b : Bool) → (if b then None else Some y) ≡ Some instr → PortFits instr
    by true e = absurd (cc)
    by false e = let is : y ≡ instr = cc in subst PortFits is (h y refl)

pub ports_fit : (image : Image) (pc : ℕ) (instr : Instr) → instruction_at image pc ≡ Some instr → PortFits instr
ports_fit image pc instr e =
    device_fits (device_of image) (decoded (word_at image pc) (word_at image (pc + 1))) instr (λ y is. decoded_fits (word_at image pc) (word_at image (pc + 1)) y is) e
