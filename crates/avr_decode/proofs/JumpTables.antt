-- Paths to the `ijmp` of a table site, one instruction at a time.
use Rattle.std.proofs.Common.{◌≡◌, ◌∙◌, refl, sym, ap, ℕ, zero, suc, ◌-◌, ◌%◌, ◌<◌, Bool, true, false, Option, Some, None, if◌then◌else◌, arith}
use Rattle.avr_model.specs.declared.instruction.Instr.{Instr}
use Rattle.avr_model.specs.declared.device.Device.{Device}
use Rattle.avr_model.specs.Devices.{Image, device_of, wrapped, words_of}
use Rattle.avr_model.specs.Image.{WORDS, word_at}
use Rattle.avr_model.specs.Table.{length_of}
use Rattle.avr_model.specs.Sites.{instruction_at, is_ijmp, onward, from_word, way_on, ijmp_from}
use Rattle.avr_model.proofs.AllLaws.{devices_are_alike}

-- a word of flash is one of the greatest flash
pub in_words : (d : Device) (a : ℕ) → a < words_of d → a < WORDS
in_words d a lt = let most = devices_are_alike.most_words d in omega arith

-- 32 bits of an address are enough
pub of_32 : (d : Device) (a : ℕ) → wrapped d (a % 4294967296) ≡ wrapped d a
of_32 d a =
    let same : a % 4294967296 % 131072 ≡ a % 131072 = omega arith in
    sym (devices_are_alike.of_17 d (a % 4294967296)) ∙ ap (wrapped d) same ∙ devices_are_alike.of_17 d a

pub none_left : (image : Image) (n a : ℕ) → n ≡ 0 → ijmp_from image n a ≡ None
unfolding ijmp_from
none_left image zero a e = refl
none_left image (suc n) a e = absurd (omega arith)

one_more : (image : Image) (n a : ℕ) → 0 < n
    → ijmp_from image n a ≡ way_on (device_of image) (ijmp_from image (n - 1)) a (length_of (word_at image a)) (instruction_at image a)
unfolding ijmp_from
one_more image zero a lt = absurd (omega arith)
one_more image (suc n) a lt =
    let e : n ≡ suc n - 1 = omega arith in
    ap (λ (m : ℕ). way_on (device_of image) (ijmp_from image m) a (length_of (word_at image a)) (instruction_at image a)) e

pub undefined : (image : Image) (n a : ℕ) → 0 < n → instruction_at image a ≡ None → ijmp_from image n a ≡ None
undefined image n a lt e = one_more image n a lt ∙ ap (way_on (device_of image) (ijmp_from image (n - 1)) a (length_of (word_at image a))) e

at_instruction : (image : Image) (n a : ℕ) (x : Instr) → 0 < n → instruction_at image a ≡ Some x
    → ijmp_from image n a ≡ (if is_ijmp x then Some a else from_word (device_of image) (ijmp_from image (n - 1)) (onward a (length_of (word_at image a)) x))
at_instruction image n a x lt e = one_more image n a lt ∙ ap (way_on (device_of image) (ijmp_from image (n - 1)) a (length_of (word_at image a))) e

pub ended : (image : Image) (n a : ℕ) (x : Instr) → 0 < n → instruction_at image a ≡ Some x → is_ijmp x ≡ true → ijmp_from image n a ≡ Some a
ended image n a x lt e is =
    at_instruction image n a x lt e
    ∙ ap (λ (b : Bool). if b then Some a else from_word (device_of image) (ijmp_from image (n - 1)) (onward a (length_of (word_at image a)) x)) is

behind : (image : Image) (n a : ℕ) (x : Instr) (to : Option ℕ) → 0 < n → instruction_at image a ≡ Some x → is_ijmp x ≡ false
    → onward a (length_of (word_at image a)) x ≡ to → ijmp_from image n a ≡ from_word (device_of image) (ijmp_from image (n - 1)) to
behind image n a x to lt e isnt on =
    at_instruction image n a x lt e
    ∙ ap (λ (b : Bool). if b then Some a else from_word (device_of image) (ijmp_from image (n - 1)) (onward a (length_of (word_at image a)) x)) isnt
    ∙ ap (from_word (device_of image) (ijmp_from image (n - 1))) on

pub left : (image : Image) (n a : ℕ) (x : Instr) → 0 < n → instruction_at image a ≡ Some x → is_ijmp x ≡ false
    → onward a (length_of (word_at image a)) x ≡ None → ijmp_from image n a ≡ None
left image n a x lt e isnt on = behind image n a x None lt e isnt on

pub went_on : (image : Image) (n a : ℕ) (x : Instr) (to : ℕ) → 0 < n → instruction_at image a ≡ Some x → is_ijmp x ≡ false
    → onward a (length_of (word_at image a)) x ≡ Some to → ijmp_from image n a ≡ ijmp_from image (n - 1) (wrapped (device_of image) to)
went_on image n a x to lt e isnt on = behind image n a x (Some to) lt e isnt on
