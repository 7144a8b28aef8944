-- Marks of small programs, computed from the definitions.
use Rattle.std.specs.Prelude.{ℕ, ◌≡◌, refl, List, [], ◌∷◌, ◌++◌, map, replicate}
use Rattle.avr_model.specs.Devices.{Image, M48, M328, device_row}
use Rattle.avr_model.specs.Table.{decoded}
use Rattle.avr_model.specs.Marks.{joined_below, usual_marks, device_marks, marks_at, loaded_bytes, marks}

-- the ATmega328P's flash that begins with these words
abbrev of : List ℕ → Image
of words = record { device = M328; words = words }

-- the ends of numbers and of the pages that SRAM has on some device
usual : usual_marks
    ≡ 0 ∷ 0x7FFF ∷ 0x8000 ∷ 0xFFFF ∷ 0x00FF ∷ 0x0100 ∷ 0x01FF ∷ 0x0200 ∷ 0x02FF ∷ 0x0300 ∷ 0x03FF ∷ 0x0400 ∷ 0x04FF ∷ 0x0500 ∷ 0x05FF ∷ 0x0600 ∷ 0x06FF ∷ 0x0700
    ∷ 0x07FF ∷ 0x0800 ∷ 0x08FF ∷ 0x0900 ∷ []
unfolding joined_below
usual = refl

-- ---- ldi r24, 0x34 and ldi r25, 0x12, in either order, up to three words apart

loaded_in_order : marks_at (of (0xE384 ∷ 0xE192 ∷ [])) 0 ≡ 0x1234 ∷ []
unfolding device_row decoded
loaded_in_order = refl

loaded_high_byte_first : marks_at (of (0xE192 ∷ 0xE384 ∷ [])) 0 ≡ 0x1234 ∷ []
unfolding device_row decoded
loaded_high_byte_first = refl

loaded_three_words_apart : marks_at (of (0xE384 ∷ 0 ∷ 0 ∷ 0xE192 ∷ [])) 0 ≡ 0x1234 ∷ []
unfolding device_row decoded
loaded_three_words_apart = refl

loaded_too_far_apart : marks_at (of (0xE384 ∷ 0 ∷ 0 ∷ 0 ∷ 0xE192 ∷ [])) 0 ≡ []
unfolding device_row decoded
loaded_too_far_apart = refl

-- r25 and r26 are no pair, nor is r24 with itself
no_pair_is_loaded : map (marks_at (of (0xE192 ∷ 0xE3A4 ∷ 0 ∷ 0 ∷ 0xE384 ∷ 0xE384 ∷ []))) (0 ∷ 4 ∷ []) ≡ [] ∷ [] ∷ []
unfolding device_row decoded
no_pair_is_loaded = refl

-- the second word of `sts 0xE384, r16` is read too
loaded_by_second_word : marks_at (of (0x9300 ∷ 0xE384 ∷ 0xE192 ∷ [])) 1 ≡ 0x1234 ∷ []
unfolding device_row decoded
loaded_by_second_word = refl

-- on the smallest device, word 0 follows word 2047
loaded_across_the_end : marks_at (record { device = M48; words = 0xE192 ∷ replicate 2046 0 ++ 0xE384 ∷ [] }) 2047 ≡ 0x1234 ∷ []
unfolding device_row decoded
loaded_across_the_end = refl

-- ---- subi r24, 0x34 and then sbci r25, 0x12; subi r24, 0 and sbci r25, 0

subtracted : marks_at (of (0x5384 ∷ 0x4192 ∷ [])) 0 ≡ 0xEDCC ∷ []
unfolding device_row decoded
subtracted = refl

subtracted_three_words_behind : marks_at (of (0x5384 ∷ 0 ∷ 0 ∷ 0x4192 ∷ [])) 0 ≡ 0xEDCC ∷ []
unfolding device_row decoded
subtracted_three_words_behind = refl

subtracted_nothing : marks_at (of (0x5080 ∷ 0x4090 ∷ [])) 0 ≡ 0 ∷ []
unfolding device_row decoded
subtracted_nothing = refl

not_subtracted_before : map (marks_at (of (0x4192 ∷ 0x5384 ∷ []))) (0 ∷ 1 ∷ []) ≡ [] ∷ [] ∷ []
unfolding device_row decoded
not_subtracted_before = refl

-- ---- cpi r24, 0x34 and cpc r25, r18, where the text loads 0x12 and 0x56 into r18

abbrev comparing : Image
comparing = of (0x3384 ∷ 0x0792 ∷ 0xE122 ∷ 0xE526 ∷ 0xE133 ∷ [])

bytes_of_a_side : loaded_bytes comparing 18 ≡ 0 ∷ 0x12 ∷ 0x56 ∷ []
unfolding device_row decoded joined_below
bytes_of_a_side = refl

compared : marks_at comparing 0 ≡ 0x0034 ∷ 0x1234 ∷ 0x5634 ∷ []
unfolding device_row decoded joined_below
compared = refl

-- cpc r25, r1, into which `ldi` can't load
compared_with_zero : marks_at (of (0x3384 ∷ 0x0591 ∷ [])) 0 ≡ 0x0034 ∷ []
unfolding device_row decoded joined_below
compared_with_zero = refl

-- a word between them
not_compared : marks_at (of (0x3384 ∷ 0 ∷ 0x0591 ∷ [])) 0 ≡ []
unfolding device_row decoded joined_below
not_compared = refl

-- ---- a whole program

loads_and_compares : marks (of (0xE384 ∷ 0xE192 ∷ 0x3081 ∷ 0x0591 ∷ [])) ≡ usual_marks ++ device_marks M328 ++ 0x1234 ∷ 0x0001 ∷ []
unfolding device_row decoded joined_below marks
loads_and_compares = refl
