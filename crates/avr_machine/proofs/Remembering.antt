-- The first places of the arrays that hold SRAM.
use Rattle.std.proofs.Common.{◌≡◌, ◌<◌, ◌≤◌, ◌+◌, ◌&&◌, nat_lt, nat_le, ℕ, Bool, false, List, length, take, replicate, get_or, sym, ap, subst, ◌∙◌, arith, ◌⊎◌, inl, inr}
use Rattle.std.specs.Prelude.{slice_index, slice_set}
use Rattle.std.proofs.lemmas.List.{length-take, length-take-le, get_or-take, get_or_past, set_past, take-replicate}
use Rattle.std.proofs.Math.Seq.{take-set-lt}
use Rattle.avr_model.specs.declared.device.Device.{Device}
use Rattle.avr_model.specs.Devices.{size_of, io_end}
use Rattle.avr_model.specs.State.{Memory, is_sram}
use Rattle.avr_model.proofs.AllLaws.{devices_are_alike}

pub count_part : (device : Device) (bytes : List ℕ) → length bytes ≡ 32768 → length (take (size_of device) bytes) ≡ size_of device
count_part device bytes n = length-take-le (size_of device) bytes (let most = devices_are_alike.most_bytes device in omega (arith, most, n))

pub filled_part : {A : Type 0} (device : Device) (x : A) → take (size_of device) (replicate 32768 x) ≡ replicate (size_of device) x
filled_part device x = take-replicate (size_of device) 32768 x (devices_are_alike.most_bytes device)

pub taken : (n i : ℕ) (bytes : List ℕ) → i < n → slice_index bytes i ≡ slice_index (take n bytes) i
taken n i bytes lt = sym (get_or-take n bytes i 0 lt)

pub set_taken : {A : Type 0} (n i : ℕ) (xs : List A) (x : A) → i < n → take n (slice_set xs i x) ≡ slice_set (take n xs) i x
set_taken n i xs x lt = take-set-lt n xs i x lt

pub set_missed : {A : Type 0} (n i : ℕ) (xs : List A) (x : A) → n ≤ i → slice_set (take n xs) i x ≡ take n xs
set_missed n i xs x le = set_past (take n xs) i x (let e = length-take n xs in omega (arith, le, e))

bytes_taken : (n : ℕ) (bytes : List ℕ) → ((i : ℕ) → get_or bytes i 0 < 256) → (i : ℕ) → get_or (take n bytes) i 0 < 256
bytes_taken n bytes h i = elim (side i n) [
  | inl lt ↦ subst (λ (b : ℕ). b < 256) (sym (get_or-take n bytes i 0 lt)) (h i)
  | inr le ↦ subst (λ (b : ℕ). b < 256) (sym (get_or_past (take n bytes) i 0 (let e = length-take n bytes in omega (arith, le, e)))) (omega arith)
]
  where
    side : (i n : ℕ) → (i < n) ⊎ (n ≤ i)
    side i n = grind arith

pub bytes_part : (device : Device) (bytes : List ℕ) → ((i : ℕ) → get_or bytes i 0 < 256) → (i : ℕ) → get_or (take (size_of device) bytes) i 0 < 256
bytes_part device bytes h i = bytes_taken (size_of device) bytes h i

-- ---- memory whose bytes are the first places

abbrev pub seen : ℕ → ℕ → List ℕ → List Bool → Memory
seen below n bytes live = record { below = below; bytes = take n bytes; live = live }

pub new_parts : (device : Device) (below size : ℕ) (bytes : List ℕ) (live : List Bool) → below ≡ io_end device → size ≡ size_of device → live ≡ replicate size false
    → seen below size bytes live ≡ record { below = io_end device; bytes = take (size_of device) bytes; live = replicate (size_of device) false }
new_parts device below size bytes live b e f =
    ap (seen below size bytes) f ∙ ap (λ (n : ℕ). seen below n bytes (replicate n false)) e ∙ ap (λ (a : ℕ). seen a (size_of device) bytes (replicate (size_of device) false)) b

-- the addresses of the memory's bytes are those of SRAM
pub in_sram : (device : Device) (below size a : ℕ) → below ≡ io_end device → size ≡ size_of device → (nat_lt below a && nat_le a (below + size)) ≡ is_sram device a
in_sram device below size a b e = λ i. nat_lt (b i) a && nat_le a (b i + e i)
