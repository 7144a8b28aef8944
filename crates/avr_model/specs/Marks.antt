-- Marks are widening thresholds: the numbers to which a computed interval of a register pair is widened. They depend on a program's words
-- alone. Each word is read as an instruction, also if it is the second word of one. A pair is an even register and the next one; its
-- number is that of the first plus 256 times that of the second. Source: own.
use Rattle.std.specs.Prelude.{ℕ, zero, suc, ◌+◌, ◌*◌, ◌%◌, ◌==◌, ◌&&◌, Bool, true, false, List, [], ◌∷◌, ◌++◌, length, map, Option, Some, None, if◌then◌else◌}
use Rattle.avr_model.specs.declared.instruction.Instr.{Instr}
use Rattle.avr_model.specs.declared.instruction.Instr.TheVariants as i
use Rattle.avr_model.specs.declared.instruction.BinaryOp.{BinaryOp}
use Rattle.avr_model.specs.declared.instruction.BinaryOp.TheVariants as binary
use Rattle.avr_model.specs.declared.instruction.ImmediateOp.{ImmediateOp}
use Rattle.avr_model.specs.declared.instruction.ImmediateOp.TheVariants as immediate
use Rattle.avr_model.specs.declared.instruction.ImmediateInstr.{ImmediateInstr}
use Rattle.avr_model.specs.Sites.{instruction_at, loads, subtracts, borrows}
use Rattle.avr_model.specs.Wide.{word_difference_of}
use Rattle.avr_model.specs.declared.device.Device.{Device}
use Rattle.avr_model.specs.Devices.{Image, device_of, io_end, ramend}

-- the lists f 0 to f (n - 1), joined
unfoldable pub joined_below : ℕ → (ℕ → List ℕ) → List ℕ
joined_below zero f = []
joined_below (suc n) f = joined_below n f ++ f n

-- ---- numbers that are marks of every program

-- the last number of page n, which has 256 numbers, and the first of the next page
abbrev pub page_marks : ℕ → List ℕ
page_marks n = (256 * n + 255) ∷ (256 * n + 256) ∷ []

-- the ends of unsigned and of signed numbers, and of the first nine pages
abbrev pub usual_marks : List ℕ
usual_marks = 0 ∷ 0x7FFF ∷ 0x8000 ∷ 0xFFFF ∷ joined_below 9 page_marks

-- the ends of the device's SRAM
abbrev pub device_marks : Device → List ℕ
device_marks device = io_end device ∷ (io_end device + 1) ∷ ramend device ∷ (ramend device + 1) ∷ []

-- ---- numbers of two instructions that stand close together

abbrev pub immediate_of : Instr → Option ImmediateInstr
immediate_of (i.Immediate op d k) = Some (record { op = op; register = d; byte = k })
immediate_of _ = None

abbrev pub immediate_in : Option Instr → Option ImmediateInstr
immediate_in None = None
immediate_in (Some x) = immediate_of x

-- the instruction at a word address, if it has a register and a byte
abbrev pub immediate_at : Image → ℕ → Option ImmediateInstr
immediate_at image a = immediate_in (instruction_at image a)

abbrev pub is_pair : ℕ → ℕ → Bool
is_pair low high = (low % 2 == 0) && (high == low + 1)

-- the number of both bytes, if the registers are a pair
abbrev pub pair_number : ImmediateInstr → ImmediateInstr → List ℕ
pair_number low high = if is_pair low.register high.register then (256 * high.byte + low.byte) ∷ [] else []

-- two `ldi` load a pair, in either order
abbrev pub loaded_number : ImmediateInstr → ImmediateInstr → List ℕ
loaded_number x y = if loads x.op && loads y.op then pair_number x y ++ pair_number y x else []

-- `subi` and then `sbci` subtract a number from a pair, and so add the negative of it, modulo 65,536
abbrev pub added_number : ImmediateInstr → ImmediateInstr → List ℕ
added_number x y = if subtracts x.op && borrows y.op then map (word_difference_of 0) (pair_number x y) else []

-- an instruction and one that is one to three words after it
abbrev pub near_marks : ImmediateInstr → Option ImmediateInstr → List ℕ
near_marks x None = []
near_marks x (Some y) = loaded_number x y ++ added_number x y

-- ---- numbers that `cpi r, L` and `cpc` behind it compare a pair with

-- the byte that `ldi` loads into register p
abbrev pub loaded_byte : ℕ → Option ImmediateInstr → List ℕ
loaded_byte p None = []
loaded_byte p (Some x) = if loads x.op && (x.register == p) then x.byte ∷ [] else []

-- the bytes that the text loads into register p: 0, and that of each `ldi`
abbrev pub loaded_bytes : Image → ℕ → List ℕ
loaded_bytes image p = 0 ∷ joined_below (length image.words) (λ a. loaded_byte p (immediate_at image a))

abbrev pub compares : ImmediateOp → Bool
compares immediate.Cpi = true
compares _ = false

abbrev pub compares_further : BinaryOp → Bool
compares_further binary.Cpc = true
compares_further _ = false

-- the register p of `cpc r', p` after `cpi r, L`, if r and r' are a pair
abbrev pub other_side : ImmediateInstr → Instr → Option ℕ
other_side x (i.Binary op d p) = if compares x.op && (compares_further op && is_pair x.register d) then Some p else None
other_side x _ = None

-- L with each high byte that the text loads into p
abbrev pub side_marks : Image → ℕ → Option ℕ → List ℕ
side_marks image low None = []
side_marks image low (Some p) = map (λ high. 256 * high + low) (loaded_bytes image p)

-- an instruction and the one in the next word
abbrev pub compared_marks : Image → ImmediateInstr → Option Instr → List ℕ
compared_marks image x None = []
compared_marks image x (Some y) = side_marks image x.byte (other_side x y)

-- ---- all marks

abbrev pub marks_from : Image → ℕ → Option ImmediateInstr → List ℕ
marks_from image a None = []
marks_from image a (Some x) =
    near_marks x (immediate_at image (a + 1)) ++ (near_marks x (immediate_at image (a + 2)) ++ (near_marks x (immediate_at image (a + 3))
    ++ compared_marks image x (instruction_at image (a + 1))))

-- the marks of the instruction at a word address with the ones after it
abbrev pub marks_at : Image → ℕ → List ℕ
marks_at image a = marks_from image a (immediate_at image a)

-- The marks of a program, by the words of a device's flash; word addresses count modulo their number.
unfoldable pub marks : Image → List ℕ
marks image = usual_marks ++ device_marks (device_of image) ++ joined_below (length image.words) (marks_at image)
