-- Rows of the definitions.
use Rattle.std.specs.Prelude.{◌≡◌, refl, true, false, [], ◌∷◌, map}
use Rattle.avr_model.specs.declared.instruction.Instr.TheVariants as i
use Rattle.avr_model.specs.declared.instruction.ImmediateOp.TheVariants as immediate
use Rattle.avr_model.specs.Devices.{M328, device_row}
use Rattle.guided_trials.specs.Numbers.{first, next, high, middle, low}
use Rattle.guided_trials.specs.Telling.{told}
use Rattle.guided_trials.specs.Guides.{takes_of}
use Rattle.guided_trials.specs.Choosing.{hold, rate, member, is_wanted}

-- ---- numbers: where trials 0 and 5 begin, and the first number of trial 0 with what is read of it

trial_zero : first 0 ≡ 0x9E3779B97F4A7C15
trial_zero = refl

trial_five : first 5 ≡ 0xB54CDA58FBBEE87E
trial_five = refl

number_one : next (first 0) ≡ 0x2CEAEE21BF46BC00
number_one = refl

high_of_one : high 0x2CEAEE21BF46BC00 ≡ 0x2CEA
high_of_one = refl

middle_of_one : middle 0x2CEAEE21BF46BC00 ≡ 0xEE21
middle_of_one = refl

low_of_one : low 0x2CEAEE21BF46BC00 ≡ 0xBF46
low_of_one = refl

-- ---- paces: the first four trials hold a byte longer and longer, and each four have another rate

held : map hold (0 ∷ 1 ∷ 2 ∷ 3 ∷ 4 ∷ []) ≡ 1 ∷ 8 ∷ 64 ∷ 4096 ∷ 1 ∷ []
held = refl

rates : map rate (3 ∷ 4 ∷ 8 ∷ 12 ∷ 16 ∷ []) ≡ 64 ∷ 8 ∷ 512 ∷ 4096 ∷ 64 ∷ []
rates = refl

-- ---- bytes that instructions tell apart

compared_with_zero : told (i.Immediate immediate.Cpi 16 0) ≡ 0 ∷ 255 ∷ []
compared_with_zero = refl

subtracted : told (i.Immediate immediate.Subi 16 0x2A) ≡ 0x2A ∷ []
subtracted = refl

masked : told (i.Immediate immediate.Andi 16 0x2A) ≡ []
masked = refl

skipped : told (i.Sbrc 24 6) ≡ 0x40 ∷ 0xBF ∷ []
skipped = refl

-- ---- interrupts: the watchdog's that keeps its enable bit comes first, and others have one

watchdog_twice : takes_of M328 7 3 ≡ record { vector = 7; clears = false; need = 3 } ∷ record { vector = 7; clears = true; need = 3 } ∷ []
unfolding device_row
watchdog_twice = refl

another_once : takes_of M328 8 3 ≡ record { vector = 8; clears = false; need = 3 } ∷ []
unfolding device_row
another_once = refl

-- three bytes on the stack, two for the return address and a need of five reach the bound of ten; with a need of four they don't, but with
-- a return address of three bytes they do
wanted_at_the_bound : is_wanted (record { bytes = 0 ∷ []; takes = []; bound = 10; back = 2 }) 3 (record { vector = 8; clears = false; need = 5 }) ≡ true
wanted_at_the_bound = refl

one_byte_short : is_wanted (record { bytes = 0 ∷ []; takes = []; bound = 10; back = 2 }) 3 (record { vector = 8; clears = false; need = 4 }) ≡ false
one_byte_short = refl

wanted_by_a_longer_address : is_wanted (record { bytes = 0 ∷ []; takes = []; bound = 10; back = 3 }) 3 (record { vector = 8; clears = false; need = 4 }) ≡ true
wanted_by_a_longer_address = refl

-- members are numbered modulo their count
third_of_two : member (0x11 ∷ 0x22 ∷ []) 3 ≡ 0x22
third_of_two = refl
