-- Worked examples, computed from the definitions.
use Rattle.std.specs.Prelude.{ℕ, ◌≡◌, refl, true, false, List, [], ◌∷◌, ◌++◌, replicate, Some, None, map, codes}
use Rattle.std.specs.Fmt.{digits}
use Rattle.avr_model.specs.declared.instruction.Instr.TheVariants as i
use Rattle.avr_model.specs.declared.instruction.Base.TheVariants as base
use Rattle.avr_model.specs.declared.device.TheConstants as device
use Rattle.avr_model.specs.declared.device.Special.TheVariants as special
use Rattle.avr_model.specs.Devices.{Image, M328, T1614, device_row, spl_address, sph_address, sreg_address, guarded_end}
use Rattle.avr_model.specs.Image.{WORDS}
use Rattle.avr_model.specs.State.{SIZE, RAMPZ, EIND, REGISTERS, register_at, special as special_at}
use Rattle.avr_model.specs.Table.{decoded, length_of}
use Rattle.avr_model.specs.Text.{text_of}
use Rattle.avr_model.specs.Sites.{is_scratch, is_fixed, path_behind, is_loaded_behind, ijmp_from, table_site}
use Rattle.avr_model.specs.Bits.{any_below, all_below, number_of}
use Rattle.avr_model.specs.Vectors.{enable_places, has_common, enable_place_at, enable_of, held_of, held_bits, written_enables, is_moving, sets_moving}

-- the device's numbers are those of the code
pub code_has_words : WORDS ≡ device.WORDS
code_has_words = refl

pub code_has_size : SIZE ≡ device.SIZE
code_has_size = refl

pub code_has_rampz : RAMPZ ≡ device.RAMPZ
code_has_rampz = refl

pub code_has_eind : EIND ≡ device.EIND
code_has_eind = refl

pub code_has_registers : REGISTERS ≡ device.REGISTERS
code_has_registers = refl

-- the stack pointer and the status register behind 32 registers, and behind none; the last guarded addresses
pub addresses_of_m328 : spl_address M328 ∷ sph_address M328 ∷ sreg_address M328 ∷ guarded_end M328 ∷ [] ≡ 0x5D ∷ 0x5E ∷ 0x5F ∷ 0xC1 ∷ []
unfolding device_row
addresses_of_m328 = refl

pub addresses_of_t1614 : spl_address T1614 ∷ sph_address T1614 ∷ sreg_address T1614 ∷ guarded_end T1614 ∷ [] ≡ 0x3D ∷ 0x3E ∷ 0x3F ∷ 0x1003 ∷ []
unfolding device_row
addresses_of_t1614 = refl

pub special_of_m328 : map (special_at M328) (0x3D ∷ 0x5D ∷ 0x5E ∷ 0x5F ∷ []) ≡ None ∷ Some special.Spl ∷ Some special.Sph ∷ Some special.Sreg ∷ []
unfolding device_row
special_of_m328 = refl

pub special_of_t1614 : map (special_at T1614) (0x3D ∷ 0x3E ∷ 0x3F ∷ 0x5D ∷ []) ≡ Some special.Spl ∷ Some special.Sph ∷ Some special.Sreg ∷ None ∷ []
unfolding device_row
special_of_t1614 = refl

-- IVSEL and CVT of the ATtiny1614, and no other bit
pub moving_of_t1614 : map (is_moving T1614 0x110) (5 ∷ 6 ∷ 7 ∷ []) ++ map (sets_moving T1614 0x110) (0x9F ∷ 0x20 ∷ 0x40 ∷ []) ≡ true ∷ true ∷ false ∷ false ∷ true ∷ true ∷ []
unfolding device_row is_moving sets_moving has_common any_below
moving_of_t1614 = refl

-- the registers' data addresses, and none
pub registers_of_m328 : map (register_at M328) (0 ∷ 31 ∷ 32 ∷ 0x5B ∷ []) ≡ Some 0 ∷ Some 31 ∷ None ∷ None ∷ []
unfolding device_row
registers_of_m328 = refl

pub registers_of_t1614 : map (register_at T1614) (0 ∷ 31 ∷ []) ≡ None ∷ None ∷ []
unfolding device_row
registers_of_t1614 = refl

-- the ATmega328P's flash that begins with these words, and is erased behind them
abbrev pub firmware : List ℕ → Image
firmware words = record { device = M328; words = words ++ replicate 16384 0xFFFF }

-- `std` through Z without displacement, `ld` of r30 through Z+ is no instruction, and `sts` takes two words
pub store_decodes : decoded 0x8300 0xFFFF ≡ Some (i.Std base.Z 0 16)
unfolding decoded
store_decodes = refl

pub store_text : text_of M328 (i.Std base.Z 0 16) 3 ≡ codes "std Z+0x00, r16"
unfolding digits
store_text = refl

pub overlap_is_undefined : decoded 0x91E1 0xFFFF ≡ None
unfolding decoded
overlap_is_undefined = refl

pub store_length : length_of 0x9300 ≡ 2
unfolding length_of
store_length = refl

-- a frame of three bytes: rcall to the next word, push r1, in r28, in r29, std Y+1, three pops
abbrev pub small_frame : Image
small_frame = firmware (0xD000 ∷ 0x921F ∷ 0xB7CD ∷ 0xB7DE ∷ 0x8389 ∷ 0x900F ∷ 0x900F ∷ 0x900F ∷ 0xCFFF ∷ [])

pub frame_scratch : map (is_scratch small_frame) (0 ∷ 1 ∷ 2 ∷ 3 ∷ 5 ∷ []) ≡ true ∷ true ∷ false ∷ false ∷ false ∷ []
unfolding device_row is_scratch any_below all_below
frame_scratch = refl

-- a jump, ldi r30, ldi r31, std Z+0
abbrev pub fixed_store : Image
fixed_store = firmware (0xC001 ∷ 0xE0E0 ∷ 0xE0F1 ∷ 0x8300 ∷ 0xCFFF ∷ [])

pub store_is_fixed : is_fixed fixed_store 3 ≡ true
unfolding device_row is_fixed any_below path_behind is_loaded_behind decoded length_of
store_is_fixed = refl

pub ldi_is_not_fixed : is_fixed fixed_store 2 ≡ false
unfolding device_row is_fixed any_below path_behind is_loaded_behind decoded length_of
ldi_is_not_fixed = refl

-- cpi and brcc before, ldi r31, subi r30, sbci r31, ijmp, and a table of two jumps
abbrev pub jump_table : Image
jump_table = firmware (0x3082 ∷ 0xF430 ∷ 0x2FE8 ∷ 0xE0F0 ∷ 0x5FE9 ∷ 0x4FFF ∷ 0x9409 ∷ 0xC001 ∷ 0xC000 ∷ 0xCFFF ∷ [])

pub tables_begin_at_subi : map (table_site jump_table) (3 ∷ 4 ∷ 5 ∷ []) ≡ None ∷ Some 6 ∷ None ∷ []
unfolding device_row table_site ijmp_from decoded length_of
tables_begin_at_subi = refl

-- subi r30, sbci r31, then a jump over one word to `lpm r0, Z+` and `ijmp`
pub ways_follow_jumps : table_site (firmware (0x5FE9 ∷ 0x4FFF ∷ 0xC001 ∷ 0x9508 ∷ 0x9005 ∷ 0x9409 ∷ [])) 0 ≡ Some 5
unfolding device_row table_site ijmp_from decoded length_of
ways_follow_jumps = refl

-- a branch, and an undefined word, end the path
pub branches_end_ways : table_site (firmware (0x5FE9 ∷ 0x4FFF ∷ 0xF400 ∷ 0x9409 ∷ [])) 0 ≡ None
unfolding device_row table_site ijmp_from decoded length_of
branches_end_ways = refl

pub undefined_words_end_ways : table_site (firmware (0x5FE9 ∷ 0x4FFF ∷ 0xFFFF ∷ 0x9409 ∷ [])) 0 ≡ None
unfolding device_row table_site ijmp_from decoded length_of
undefined_words_end_ways = refl

-- `ijmp` is the last of 16 instructions at most
pub sixteen_lead_there : table_site (firmware (0x5FE9 ∷ 0x4FFF ∷ replicate 15 0 ++ 0x9409 ∷ [])) 0 ≡ Some 17
unfolding device_row table_site ijmp_from decoded length_of
sixteen_lead_there = refl

pub seventeen_are_too_many : table_site (firmware (0x5FE9 ∷ 0x4FFF ∷ replicate 16 0 ++ 0x9409 ∷ [])) 0 ≡ None
unfolding device_row table_site ijmp_from decoded length_of
seventeen_are_too_many = refl

pub watchdog_enable : enable_of M328 0x60 6 ≡ Some 7
unfolding device_row enable_of enable_places
watchdog_enable = refl

pub usart_held : held_bits M328 0xC1 ≡ 0xE0
unfolding device_row held_of enable_places number_of
usart_held = refl

pub write_of_usart : written_enables M328 0 0xC1 0xA0 ≡ 0x60000
unfolding device_row written_enables number_of enable_place_at enable_places has_common any_below
write_of_usart = refl
