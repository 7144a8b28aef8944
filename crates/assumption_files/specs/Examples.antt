-- Worked texts and worked targets.
use Rattle.std.specs.Prelude.{◌≡◌, ℕ, ◌==◌, List, [], ◌∷◌, ◌++◌, length, codes, Ok, Err, refl, if◌then◌else◌}
use Rattle.std.specs.List.{flat_map}
use Rattle.std.specs.Fmt.{digits}
use Rattle.avr_model.specs.Devices.{M328, device_row}
use Rattle.avr_model.specs.Vectors.{enable_places, has_enables}
use Rattle.vector_table.specs.Entries.{fits_device}
use Rattle.avr_model.specs.declared.assumption.Entry.{Entry}
use Rattle.avr_model.specs.declared.assumption.Entry.TheVariants.{Pairs, Masks, Jump, Store, Prove, Free, Never, Frame, Recur, Scratch}
use Rattle.bit_domain.specs.declared.bits.Tri.TheVariants.{Zero, Any}
use Rattle.bit_domain.specs.Numbers.{numbers_of, targets_of}
use Rattle.bit_domain.specs.Packed.{packed}
use Rattle.bit_domain.specs.TriByte.{byte_of, byte_known, byte_any}
use Rattle.text_base.specs.Digits.{hex_digits}
use Rattle.assumption_files.specs.declared.fault.AssumeText.TheVariants.{Malformed, Order}
use Rattle.assumption_files.specs.Spelling.{text_of}
use Rattle.assumption_files.specs.Targets.{pointer_of}
use Rattle.assumption_files.specs.Reading.{alone_by, numbered_in, entry_in, next_by, with_line, entries_from, entries_in}

-- lines with their line feeds
abbrev text : List (List ℕ) → List ℕ
text ls = flat_map (λ l. l ++ 10 ∷ []) ls

abbrev each_kind : List Entry
each_kind = Pairs ∷ Masks ∷ Jump 4 (5 ∷ 16383 ∷ []) ∷ Store 4 (0 ∷ 93 ∷ []) ∷ Prove 4 ∷ Free 4 ∷ Never 4 ∷ Frame 4 ∷ Recur 4 2048 ∷ Scratch 4 ∷ Prove 16383 ∷ []

abbrev each_text : List ℕ
each_text =
    text (codes "pairs" ∷ codes "masks" ∷ codes "jump 0004 0005 3FFF" ∷ codes "store 0004 0000 005D" ∷ codes "prove 0004" ∷ codes "free 0004" ∷ codes "never 0004" ∷ codes "frame 0004"
    ∷ codes "recur 0004 2048" ∷ codes "scratch 0004" ∷ codes "prove 3FFF" ∷ [])

spelled : text_of M328 each_kind ≡ each_text
unfolding hex_digits digits device_row
spelled = refl

read : entries_in M328 each_text ≡ Ok each_kind
unfolding entries_from with_line next_by entry_in numbered_in alone_by fits_device has_enables enable_places device_row
read = refl

empty : entries_in M328 [] ≡ Ok []
unfolding entries_from
empty = refl

twice : entries_in M328 (text (codes "jump 0004 0005" ∷ codes "jump 0004 0005" ∷ [])) ≡ Err (Order 2)
unfolding entries_from with_line next_by entry_in numbered_in alone_by fits_device device_row
twice = refl

-- the kinds at one site must be in order
kinds_turned : entries_in M328 (text (codes "prove 0003" ∷ codes "store 0004 005D" ∷ codes "jump 0004 0005" ∷ [])) ≡ Err (Order 3)
unfolding entries_from with_line next_by entry_in numbered_in alone_by fits_device has_enables enable_places device_row
kinds_turned = refl

frees_turned : entries_in M328 (text (codes "free 0004" ∷ codes "prove 0004" ∷ [])) ≡ Err (Order 2)
unfolding entries_from with_line next_by entry_in numbered_in alone_by fits_device device_row
frees_turned = refl

frames_turned : entries_in M328 (text (codes "frame 0004" ∷ codes "never 0004" ∷ [])) ≡ Err (Order 2)
unfolding entries_from with_line next_by entry_in numbered_in alone_by fits_device device_row
frames_turned = refl

scratch_turned : entries_in M328 (text (codes "scratch 0004" ∷ codes "recur 0004 6" ∷ [])) ≡ Err (Order 2)
unfolding entries_from with_line next_by entry_in numbered_in alone_by fits_device device_row
scratch_turned = refl

-- one depth for a word
recur_twice : entries_in M328 (text (codes "recur 0004 6" ∷ codes "recur 0004 7" ∷ [])) ≡ Err (Order 2)
unfolding entries_from with_line next_by entry_in numbered_in alone_by fits_device device_row
recur_twice = refl

-- a depth is decimal, without a leading zero, at most 2,048 or the device's bytes of SRAM
deep_in_hex : entries_in M328 (text (codes "recur 0004 0A" ∷ [])) ≡ Err (Malformed 1)
unfolding entries_from with_line next_by entry_in numbered_in alone_by fits_device device_row
deep_in_hex = refl

too_deep : entries_in M328 (text (codes "recur 0004 2049" ∷ [])) ≡ Err (Malformed 1)
unfolding entries_from with_line next_by entry_in numbered_in alone_by fits_device device_row
too_deep = refl

no_depth : entries_in M328 (text (codes "recur 0004" ∷ [])) ≡ Err (Malformed 1)
unfolding entries_from with_line next_by entry_in numbered_in alone_by fits_device device_row
no_depth = refl

more_than_a_depth : entries_in M328 (text (codes "recur 0004 6 7" ∷ [])) ≡ Err (Malformed 1)
unfolding entries_from with_line next_by entry_in numbered_in alone_by fits_device device_row
more_than_a_depth = refl

entered_outside : entries_in M328 (text (codes "recur 4000 6" ∷ [])) ≡ Err (Malformed 1)
unfolding entries_from with_line next_by entry_in numbered_in alone_by fits_device device_row
entered_outside = refl

-- `pairs` comes at most once, first of all lines
pairs_twice : entries_in M328 (text (codes "pairs" ∷ codes "pairs" ∷ [])) ≡ Err (Order 2)
unfolding entries_from with_line next_by entry_in numbered_in alone_by fits_device device_row
pairs_twice = refl

pairs_behind : entries_in M328 (text (codes "jump 0000 0005" ∷ codes "pairs" ∷ [])) ≡ Err (Order 2)
unfolding entries_from with_line next_by entry_in numbered_in alone_by fits_device device_row
pairs_behind = refl

-- `masks` comes at most once, after `pairs` and before all other lines
masks_twice : entries_in M328 (text (codes "pairs" ∷ codes "masks" ∷ codes "masks" ∷ [])) ≡ Err (Order 3)
unfolding entries_from with_line next_by entry_in numbered_in alone_by fits_device device_row
masks_twice = refl

masks_behind : entries_in M328 (text (codes "jump 0000 0005" ∷ codes "masks" ∷ [])) ≡ Err (Order 2)
unfolding entries_from with_line next_by entry_in numbered_in alone_by fits_device device_row
masks_behind = refl

pairs_behind_masks : entries_in M328 (text (codes "masks" ∷ codes "pairs" ∷ [])) ≡ Err (Order 2)
unfolding entries_from with_line next_by entry_in numbered_in alone_by fits_device device_row
pairs_behind_masks = refl

more_than_masks : entries_in M328 (text (codes "masks 0000" ∷ [])) ≡ Err (Malformed 1)
unfolding entries_from with_line next_by entry_in numbered_in alone_by fits_device device_row
more_than_masks = refl

-- `pairs` has no site
more_than_pairs : entries_in M328 (text (codes "pairs 0000" ∷ [])) ≡ Err (Malformed 1)
unfolding entries_from with_line next_by entry_in numbered_in alone_by fits_device device_row
more_than_pairs = refl

-- `free` has a site and nothing else
more_than_a_site : entries_in M328 (text (codes "free 0004 005D" ∷ [])) ≡ Err (Malformed 1)
unfolding entries_from with_line next_by entry_in numbered_in alone_by fits_device device_row
more_than_a_site = refl

-- if a line is malformed and not above the last, it is refused as malformed
form_first : entries_in M328 (text (codes "prove 0004" ∷ codes "prove 003" ∷ [])) ≡ Err (Malformed 2)
unfolding entries_from with_line next_by entry_in numbered_in alone_by fits_device device_row
form_first = refl

unfinished : entries_in M328 (codes "jump 0004 0005") ≡ Err (Malformed 1)
unfolding entries_from with_line next_by
unfinished = refl

no_item : entries_in M328 (text (codes "jump 0004" ∷ [])) ≡ Err (Malformed 1)
unfolding entries_from with_line next_by entry_in numbered_in alone_by fits_device device_row
no_item = refl

-- address 0020 isn't protected
unprotected : entries_in M328 (text (codes "store 0004 0020" ∷ [])) ≡ Err (Malformed 1)
unfolding entries_from with_line next_by entry_in numbered_in alone_by fits_device has_enables enable_places device_row
unprotected = refl

-- a program counter of 14 bits: the upper two bits of the high byte do not count
one_word : targets_of 14 (pointer_of (byte_known 52) (byte_known 210) (byte_known 0)) ≡ 4660 ∷ []
unfolding numbers_of packed
one_word = refl

-- with 16 bits they count
whole_word : targets_of 16 (pointer_of (byte_known 52) (byte_known 210) (byte_known 0)) ≡ 53812 ∷ []
unfolding numbers_of packed
whole_word = refl

-- with 17 bits the lowest bit of the third byte counts
far_word : targets_of 17 (pointer_of (byte_known 52) (byte_known 210) (byte_known 255)) ≡ 119348 ∷ []
unfolding numbers_of packed
far_word = refl

-- bit 0 of the low byte and bit 1 of the high byte are unknown
four_words : targets_of 14 (pointer_of (byte_of (λ i. if i == 0 then Any else Zero)) (byte_of (λ i. if i == 1 then Any else Zero)) (byte_known 0)) ≡ 0 ∷ 1 ∷ 512 ∷ 513 ∷ []
unfolding numbers_of packed
four_words = refl

any_low_byte : length (targets_of 14 (pointer_of byte_any (byte_known 0) (byte_known 0))) ≡ 256
unfolding numbers_of packed
any_low_byte = refl
