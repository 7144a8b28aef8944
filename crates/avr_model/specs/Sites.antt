-- Three rules that recognise code of compilers by the words around an address. Source: own.
use Rattle.std.specs.Prelude.{ℕ, zero, suc, ◌+◌, ◌-◌, ◌==◌, ◌&&◌, ◌||◌, not, Bool, true, false, List, [], ◌∷◌, Option, Some, None, if◌then◌else◌}
use Rattle.std.specs.List.{list_any}
use Rattle.avr_model.specs.declared.device.Device.{Device}
use Rattle.avr_model.specs.declared.instruction.Instr.{Instr}
use Rattle.avr_model.specs.declared.instruction.Instr.TheVariants as i
use Rattle.avr_model.specs.declared.instruction.BinaryOp.{BinaryOp}
use Rattle.avr_model.specs.declared.instruction.BinaryOp.TheVariants as binary
use Rattle.avr_model.specs.declared.instruction.ImmediateOp.{ImmediateOp}
use Rattle.avr_model.specs.declared.instruction.ImmediateOp.TheVariants as immediate
use Rattle.avr_model.specs.declared.instruction.Base.{Base}
use Rattle.avr_model.specs.declared.instruction.Base.TheVariants as base
use Rattle.avr_model.specs.declared.instruction.Pointer.{Pointer}
use Rattle.avr_model.specs.declared.instruction.Pointer.TheVariants as pointer
use Rattle.avr_model.specs.Bits.{any_below, all_below}
use Rattle.avr_model.specs.Devices.{Image, has_jmp, has_mul, has_elpm, has_elpmx, has_eijmp, has_break, has_movw, has_lpmx, wrapped, device_of}
use Rattle.avr_model.specs.Image.{WORDS, word_at}
use Rattle.avr_model.specs.Table.{decoded, length_of}
use Rattle.avr_model.specs.Text.{far}
use Rattle.avr_model.specs.Written.{written}

abbrev pub is_mul : BinaryOp → Bool
is_mul binary.Mul = true
is_mul _ = false

-- `jmp` and `call`
abbrev pub is_long_transfer : Instr → Bool
is_long_transfer (i.Jmp k) = true
is_long_transfer (i.Call k) = true
is_long_transfer _ = false

-- the instructions that multiply
abbrev pub is_product : Instr → Bool
is_product (i.Binary op d r) = is_mul op
is_product (i.Muls d r) = true
is_product (i.Mulsu d r) = true
is_product (i.Fmul d r) = true
is_product (i.Fmuls d r) = true
is_product (i.Fmulsu d r) = true
is_product _ = false

abbrev pub is_break : Instr → Bool
is_break i.Break = true
is_break _ = false

abbrev pub is_elpm : Instr → Bool
is_elpm i.Elpm = true
is_elpm (i.ElpmZ d) = true
is_elpm (i.ElpmZPlus d) = true
is_elpm _ = false

-- `elpm` into a register that it names
abbrev pub is_elpmx : Instr → Bool
is_elpmx (i.ElpmZ d) = true
is_elpmx (i.ElpmZPlus d) = true
is_elpmx _ = false

-- `eijmp` and `eicall`
abbrev pub is_extended : Instr → Bool
is_extended i.Eijmp = true
is_extended i.Eicall = true
is_extended _ = false

abbrev pub is_movw : Instr → Bool
is_movw (i.Movw d r) = true
is_movw _ = false

-- `lpm` into a register that it names
abbrev pub is_lpmx : Instr → Bool
is_lpmx (i.LpmZ d) = true
is_lpmx (i.LpmZPlus d) = true
is_lpmx _ = false

-- the device lacks the instruction's group
abbrev pub is_lacking : Device → Instr → Bool
is_lacking device x =
    (is_long_transfer x && not (has_jmp device)) || ((is_product x && not (has_mul device)) || ((is_elpm x && not (has_elpm device))
    || ((is_break x && not (has_break device)) || ((is_movw x && not (has_movw device)) || ((is_lpmx x && not (has_lpmx device))
    || ((is_elpmx x && not (has_elpmx device)) || (is_extended x && not (has_eijmp device))))))))

-- what the device lacks is no instruction on it
abbrev pub on_device : Device → Option Instr → Option Instr
on_device device None = None
on_device device (Some x) = if is_lacking device x then None else Some x

-- the instruction at a word address
abbrev pub instruction_at : Image → ℕ → Option Instr
instruction_at image a = on_device (device_of image) (decoded (word_at image a) (word_at image (a + 1)))

-- ---- scratch pushes: a compiler's small frame

-- push r0, push r1, or a call of the next word
abbrev pub makes_room : ℕ → Bool
makes_room w = (w == 0x920F) || (w == 0x921F) || (w == 0xD000)

-- 1 to 64 words from this one on make room, followed by `in r28, 0x3d`, which reads the stack pointer.
unfoldable pub is_scratch : Image → ℕ → Bool
is_scratch image a =
    any_below 64 (λ n. all_below (n + 1) (λ k. makes_room (word_at image (a + k))) && (word_at image (a + n + 1) == 0xB7CD))

-- ---- fixed sites: a store whose pointer is loaded just before

abbrev pub is_skip : BinaryOp → Bool
is_skip binary.Cpse = true
is_skip _ = false

-- a jump, a call, a return, a branch or a skip
abbrev pub leaves : Instr → Bool
leaves (i.Binary op d r) = is_skip op
leaves i.Ijmp = true
leaves i.Icall = true
leaves i.Eijmp = true
leaves i.Eicall = true
leaves i.Ret = true
leaves i.Reti = true
leaves (i.Jmp k) = true
leaves (i.Call k) = true
leaves (i.Rjmp k) = true
leaves (i.Rcall k) = true
leaves (i.Brbs s k) = true
leaves (i.Brbc s k) = true
leaves (i.Sbic a b) = true
leaves (i.Sbis a b) = true
leaves (i.Sbrc r b) = true
leaves (i.Sbrs r b) = true
leaves _ = false

abbrev pub loads : ImmediateOp → Bool
loads immediate.Ldi = true
loads _ = false

abbrev pub is_ldi : Instr → Bool
is_ldi (i.Immediate op d k) = loads op
is_ldi _ = false

-- whether the instruction sets a register
abbrev pub sets : ℕ → Instr → Bool
sets r x = list_any (λ n. n == r) (written x)

-- the low register of a base
abbrev pub base_register : Base → ℕ
base_register base.Y = 28
base_register base.Z = 30

abbrev pub pointer_register : Pointer → ℕ
pointer_register pointer.ZPlus = 30
pointer_register pointer.MinusZ = 30
pointer_register pointer.YPlus = 28
pointer_register pointer.MinusY = 28
pointer_register pointer.X = 26
pointer_register pointer.XPlus = 26
pointer_register pointer.MinusX = 26

-- the low register of the pointer of `st` and `std`
abbrev pub store_pointer : Instr → Option ℕ
store_pointer (i.Std b q r) = Some (base_register b)
store_pointer (i.St p r) = Some (pointer_register p)
store_pointer _ = None

abbrev pub onto_path : Option Instr → Option (List Instr) → Option (List Instr)
onto_path None rest = None
onto_path (Some x) None = None
onto_path (Some x) (Some xs) = if leaves x then None else Some (x ∷ xs)

-- the word address d words before a, on every device
abbrev pub before : ℕ → ℕ → ℕ
before a d = a + WORDS - d

-- The instructions from d words before a up to a, if decoding forward arrives exactly at a, every word is defined and no instruction
-- leaves the path. `inside` is the number of next words that belong to an instruction that began earlier.
unfoldable pub path_behind : Image → ℕ → ℕ → ℕ → Option (List Instr)
path_behind image a zero zero = Some []
path_behind image a (suc inside) zero = None
path_behind image a (suc inside) (suc d) = path_behind image a inside d
path_behind image a zero (suc d) =
    onto_path (instruction_at image (before a (suc d))) (path_behind image a (length_of (word_at image (before a (suc d))) - 1) d)

abbrev pub path : Image → ℕ → ℕ → Option (List Instr)
path image a d = path_behind image a 0 d

-- whether the last of these instructions that sets the register is `ldi`; `sofar` is the answer for those before
unfoldable pub is_loaded_behind : ℕ → Bool → List Instr → Bool
is_loaded_behind r sofar [] = sofar
is_loaded_behind r sofar (x ∷ xs) = is_loaded_behind r (if sets r x then is_ldi x else sofar) xs

abbrev pub is_loaded : ℕ → List Instr → Bool
is_loaded r xs = is_loaded_behind r false xs

-- the path loads both registers of the pair
abbrev pub loads_pair : ℕ → Option (List Instr) → Bool
loads_pair r None = false
loads_pair r (Some xs) = is_loaded r xs && is_loaded (r + 1) xs

abbrev pub is_fixed_pointer : Image → ℕ → Option ℕ → Bool
is_fixed_pointer image a None = false
is_fixed_pointer image a (Some r) = any_below 32 (λ n. loads_pair r (path image a (n + 1)))

abbrev pub pointer_of : Option Instr → Option ℕ
pointer_of None = None
pointer_of (Some x) = store_pointer x

-- The word is `st` or `std`, and from some word 1 to 32 words before it a path loads both registers of its pointer.
unfoldable pub is_fixed : Image → ℕ → Bool
is_fixed image a = is_fixed_pointer image a (pointer_of (instruction_at image a))

-- ---- table sites: an index is added to a table's address, and an `ijmp` follows

abbrev pub subtracts : ImmediateOp → Bool
subtracts immediate.Subi = true
subtracts _ = false

abbrev pub borrows : ImmediateOp → Bool
borrows immediate.Sbci = true
borrows _ = false

-- `subi` of r30, which adds to the low byte of Z
abbrev pub adds_low : Instr → Bool
adds_low (i.Immediate op d k) = subtracts op && (d == 30)
adds_low _ = false

-- `sbci` of r31, which adds to its high byte
abbrev pub adds_high : Instr → Bool
adds_high (i.Immediate op d k) = borrows op && (d == 31)
adds_high _ = false

abbrev pub is_some_that : (Instr → Bool) → Option Instr → Bool
is_some_that p None = false
is_some_that p (Some x) = p x

-- `ijmp`, or `eijmp`
abbrev pub is_ijmp : Instr → Bool
is_ijmp i.Ijmp = true
is_ijmp i.Eijmp = true
is_ijmp _ = false

-- the next word of a path: the target of a jump, or the word after an instruction of this size; none after a branch, skip, call or return
abbrev pub onward : ℕ → ℕ → Instr → Option ℕ
onward a size (i.Jmp t) = Some t
onward a size (i.Rjmp k) = Some (far a k)
onward a size x = if leaves x then None else Some (a + size)

abbrev pub from_word : Device → (ℕ → Option ℕ) → Option ℕ → Option ℕ
from_word device on None = None
from_word device on (Some a) = on (wrapped device a)

-- A path ends at an `ijmp` or `eijmp`, whose word it gives, or without one at an undefined word. `on` is the path from another word.
abbrev pub way_on : Device → (ℕ → Option ℕ) → ℕ → ℕ → Option Instr → Option ℕ
way_on device on a size None = None
way_on device on a size (Some x) = if is_ijmp x then Some a else from_word device on (onward a size x)

-- the word of the `ijmp` that at most this many instructions from the word a reach, itself counted
unfoldable pub ijmp_from : Image → ℕ → ℕ → Option ℕ
ijmp_from image zero a = None
ijmp_from image (suc n) a = way_on (device_of image) (ijmp_from image n) a (length_of (word_at image a)) (instruction_at image a)

-- The word of the `ijmp` of a table site: `subi` of r30 is at a and `sbci` of r31 follows, and from there at most 16 instructions lead to
-- the `ijmp`.
unfoldable pub table_site : Image → ℕ → Option ℕ
table_site image a =
    if is_some_that adds_low (instruction_at image a) && is_some_that adds_high (instruction_at image (a + 1))
    then ijmp_from image 16 (wrapped (device_of image) (a + 2)) else None
