-- The words of an ELF file, by index and in order.
use Rattle.std.proofs.Common.{◌≡◌, ℕ, zero, suc, ◌+◌, ◌<◌, List, length, slice_index, Option, Some, None, refl, sym, ap, ◌∙◌, arith}
use Rattle.std.specs.Option.{option_map}
use Rattle.std.proofs.lemmas.Option.{none-some}
use Rattle.std.proofs.lemmas.Grind.{same_number_lists}
use Rattle.basics.specs.Numbers.{one_step_on}
use Rattle.avr_model.specs.declared.device.Device.{Device}
use Rattle.avr_model.specs.Devices.{limit_of}
use Rattle.elf_load.specs.Elf.{ElfRefusal, elf_fault, IsElfImage}
use Rattle.replies.specs.Firmware.{tabulated, elf_word, elf_words}
use Rattle.replies.specs.Texts.{elf_refused}

length_tabulated : (at n : ℕ) (f : ℕ → ℕ) → length (tabulated at n f) ≡ n
unfolding tabulated
length_tabulated at zero f = refl
length_tabulated at (suc n) f = let e = length_tabulated (at + 1) n f in omega (arith, e)

tabulated_at : (at n : ℕ) (f : ℕ → ℕ) (k : ℕ) → k < n → slice_index (tabulated at n f) k ≡ f (at + k)
unfolding tabulated
tabulated_at at zero f k lt = absurd (let wrong : k < 0 = lt in omega arith)
tabulated_at at (suc n) f zero lt = ap f (let e : at ≡ at + 0 = omega arith in e)
tabulated_at at (suc n) f (suc k) lt = tabulated_at (at + 1) n f k (let less : suc k < suc n = lt in omega arith) ∙ ap f (one_step_on at k)

from_zero : (a : ℕ) → 0 + a ≡ a
from_zero a = omega arith

word_in : (device : Device) (bytes : List ℕ) (a : ℕ) → a < limit_of device → slice_index (elf_words device bytes) a ≡ elf_word bytes a
word_in device bytes a lt = tabulated_at 0 (limit_of device) (elf_word bytes) a lt ∙ ap (elf_word bytes) (from_zero a)

pub one_elf : (device : Device) (bytes words : List ℕ) → IsElfImage device bytes words → words ≡ elf_words device bytes
one_elf device bytes words image =
    same_number_lists words (elf_words device bytes) (image.size ∙ sym (length_tabulated 0 (limit_of device) (elf_word bytes)))
    (λ a lt. let less : a < limit_of device = (let e = image.size in omega (arith, e)) in image.each a less ∙ sym (word_in device bytes a less))

pub some_elf : (device : Device) (bytes : List ℕ) → elf_fault device bytes ≡ None → IsElfImage device bytes (elf_words device bytes)
some_elf device bytes loads =
    record { loads = loads; size = length_tabulated 0 (limit_of device) (elf_word bytes); each = λ a lt. word_in device bytes a lt }

no_text : (due : Option ElfRefusal) → option_map elf_refused due ≡ None → due ≡ None
no_text None e = refl
no_text (Some r) e = absurd (none-some (elf_refused r) (sym e))

pub no_refusal : (device : Device) (bytes : List ℕ) → option_map elf_refused (elf_fault device bytes) ≡ None → elf_fault device bytes ≡ None
no_refusal device bytes e = no_text (elf_fault device bytes) e
