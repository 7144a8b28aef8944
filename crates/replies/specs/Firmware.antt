-- The words of flash of a firmware file, or its refusal, and its names and static data.
use Rattle.std.specs.Prelude.{ℕ, zero, suc, ◌+◌, ◌*◌, ◌%◌, ◌==◌, nat_lt, Bool, true, false, List, [], ◌∷◌, length, take, Option, Some, None, if◌then◌else◌}
use Rattle.std.specs.Option.{option_map}
use Rattle.avr_model.specs.declared.device.Device.{Device}
use Rattle.avr_model.specs.Devices.{Image, words_of, limit_of, image_of}
use Rattle.avr_model.specs.Image.{IsRawImage, raw_words, IsNarrowed}
use Rattle.flash_image.specs.Narrowing.{outside_word}
use Rattle.flash_image.specs.Naming.{Named}
use Rattle.elf_load.specs.Elf.{is_elf, elf_fault, elf_byte, IsElfImage, elf_names, static_end}
use Rattle.replies.specs.declared.raw.RawRefusal.TheVariants as raw
use Rattle.replies.specs.Texts.{elf_refused, raw_fault, firmware_outside}

-- a file that begins with 7F 45 4C 46 is an ELF file, any other a raw image
abbrev pub IsImageBy : Device → Bool → List ℕ → List ℕ → Type 0
IsImageBy device true bytes all = IsElfImage device bytes all
IsImageBy device false bytes all = IsRawImage device bytes all

-- the words of a firmware file in flash of as many words as texts of the device admit
abbrev pub IsImage : Device → List ℕ → List ℕ → Type 0
IsImage device bytes all = IsImageBy device (is_elf bytes) bytes all

-- The image that a firmware file stands for on a device: the words that it gives, of which all behind the device's flash are erased.
pub record IsFirmware (device : Device) (bytes : List ℕ) (image : Image) : Type 0 where
  pub all : List ℕ
  pub words : IsImage device bytes all
  pub narrowed : IsNarrowed device all image

-- the list of f at, f (at + 1), .., with n items
unfoldable pub tabulated : ℕ → ℕ → (ℕ → ℕ) → List ℕ
tabulated at zero f = []
tabulated at (suc n) f = f at ∷ tabulated (at + 1) n f

abbrev pub elf_word : List ℕ → ℕ → ℕ
elf_word bytes a = elf_byte bytes (2 * a) + 256 * elf_byte bytes (2 * a + 1)

-- the words of an ELF file
abbrev pub elf_words : Device → List ℕ → List ℕ
elf_words device bytes = tabulated 0 (limit_of device) (elf_word bytes)

-- the words of a firmware file for a device, and the text of its refusal
abbrev pub words_by : Device → Bool → List ℕ → List ℕ
words_by device true bytes = elf_words device bytes
words_by device false bytes = raw_words device bytes

abbrev pub fault_by : Device → Bool → List ℕ → Option (List ℕ)
fault_by device true bytes = option_map elf_refused (elf_fault device bytes)
fault_by device false bytes =
    if length bytes % 2 == 1 then Some (raw_fault raw.OddLength) else (if nat_lt (2 * limit_of device) (length bytes) then Some (raw_fault raw.TooLong) else None)

-- the image of a firmware file on a device
abbrev pub firmware_image : Device → List ℕ → Image
firmware_image device bytes = image_of device (take (words_of device) (words_by device (is_elf bytes) bytes))

-- the text of the refusal of an image with a word behind the device's flash
abbrev pub outside_fault : Device → List ℕ → Option (List ℕ)
outside_fault device all = option_map (firmware_outside device) (outside_word device all)

abbrev pub fault_or : Option (List ℕ) → Option (List ℕ) → Option (List ℕ)
fault_or None later = later
fault_or (Some text) later = Some text

-- the text of the refusal of a firmware file for a device; refusals of the file itself come first
abbrev pub firmware_fault : Device → List ℕ → Option (List ℕ)
firmware_fault device bytes = fault_or (fault_by device (is_elf bytes) bytes) (outside_fault device (words_by device (is_elf bytes) bytes))

-- ---- names and static data, which an ELF file alone gives

abbrev pub names_by : Device → Bool → List ℕ → List Named
names_by device true bytes = elf_names device bytes
names_by device false bytes = []

-- the names of words
abbrev pub firmware_names : Device → List ℕ → List Named
firmware_names device bytes = names_by device (is_elf bytes) bytes

abbrev pub end_by : Device → Bool → List ℕ → Option ℕ
end_by device true bytes = static_end device bytes
end_by device false bytes = None

-- the data address at which static data ends
abbrev pub firmware_end : Device → List ℕ → Option ℕ
firmware_end device bytes = end_by device (is_elf bytes) bytes
