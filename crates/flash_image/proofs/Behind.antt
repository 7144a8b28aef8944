-- The words behind a device's flash: all erased, or a first one that isn't.
use Rattle.std.proofs.Common.{◌≡◌, ◌≢◌, ◌<◌, ◌+◌, ◌-◌, ◌==◌, ℕ, zero, suc, not, Bool, true, false, List, [], ◌∷◌, length, take, drop, slice_index, Some, None, cond, refl, sym, ap, ◌∙◌, arith}
use Rattle.std.specs.List.{position_from}
use Rattle.std.proofs.lemmas.Bool.Decides.{nat_tests}
use Rattle.std.proofs.lemmas.List.{get_or-drop, get_or-take, length-drop, length-take-le}
use Rattle.std.proofs.lemmas.Grind.{same_number_lists}
use Rattle.basics.specs.Numbers.{one_step_on}
use Rattle.avr_model.specs.declared.device.Device.{Device}
use Rattle.avr_model.specs.Devices.{Image, image_of, words_of, limit_of}
use Rattle.avr_model.specs.Image.{IsNarrowed, IsOutside}
use Rattle.flash_image.specs.Narrowing.{outside_word}
use Rattle.avr_model.proofs.AllLaws.{devices_are_alike}

abbrev is_written : ℕ → Bool
is_written w = not (w == 0xFFFF)

-- the place of the first written word, in a list that begins with one
all_erased : (xs : List ℕ) (at : ℕ) → ((k : ℕ) → k < length xs → slice_index xs k ≡ 0xFFFF) → position_from is_written at xs ≡ None
all_erased [] at f = refl
all_erased (x ∷ xs) at f =
    ap (λ (w : ℕ). cond (is_written w) (Some at) (position_from is_written (at + 1) xs)) (f 0 (omega arith))
    ∙ all_erased xs (at + 1) (λ k lt. f (suc k) (omega (arith, lt)))

first_written : (xs : List ℕ) (at k : ℕ) → k < length xs → slice_index xs k ≢ 0xFFFF → ((j : ℕ) → j < k → slice_index xs j ≡ 0xFFFF) → position_from is_written at xs ≡ Some (at + k)
first_written [] at k lt n f = absurd (let wrong : k < 0 = lt in omega arith)
first_written (x ∷ xs) at zero lt n f =
    let e : is_written x ≡ true = grind (arith, nat_tests) in
    ap (λ (b : Bool). cond b (Some at) (position_from is_written (at + 1) xs)) e ∙ ap Some (let g : at ≡ at + 0 = omega arith in g)
first_written (x ∷ xs) at (suc k) lt n f =
    ap (λ (w : ℕ). cond (is_written w) (Some at) (position_from is_written (at + 1) xs)) (f 0 (omega arith))
    ∙ first_written xs (at + 1) k (let less : suc k < suc (length xs) = lt in omega arith) n (λ j less. f (suc j) (omega (arith, less)))
    ∙ ap Some (one_step_on at k)

is_erased : (x : ℕ) → is_written x ≡ false → x ≡ 0xFFFF
is_erased x e = grind (arith, nat_tests)

none_written : (xs : List ℕ) (at k : ℕ) → position_from is_written at xs ≡ None → k < length xs → slice_index xs k ≡ 0xFFFF
none_written [] at k e lt = absurd (let wrong : k < 0 = lt in omega arith)
none_written (x ∷ xs) at k e lt = by (λ j. none_written xs (at + 1) j) (is_written x) refl k e lt where
  by : ((j : ℕ) → position_from is_written (at + 1) xs ≡ None → j < length xs → slice_index xs j ≡ 0xFFFF) → (b : Bool) → is_written x ≡ b
      → (k : ℕ) → cond b (Some at) (position_from is_written (at + 1) xs) ≡ None → k < suc (length xs) → slice_index (x ∷ xs) k ≡ 0xFFFF
  by later true is k e lt = absurd (let wrong = e in cc)
  by later false is zero e lt = is_erased x is
  by later false is (suc k) e lt = later k e (omega (arith, lt))

-- ---- flash

behind : (device : Device) (all : List ℕ) → List ℕ
behind device all = drop (words_of device) all

behind_length : (device : Device) (all : List ℕ) → length all ≡ limit_of device → length (behind device all) ≡ limit_of device - words_of device
unfolding behind
behind_length device all size = length-drop (words_of device) all ∙ ap (λ (n : ℕ). n - words_of device) size

behind_at : (device : Device) (all : List ℕ) (k : ℕ) → slice_index (behind device all) k ≡ slice_index all (words_of device + k)
unfolding behind
behind_at device all k = get_or-drop (words_of device) all k 0

pub narrowed : (device : Device) (all : List ℕ) (image : Image) → length all ≡ limit_of device → IsNarrowed device all image → image ≡ image_of device (take (words_of device) all)
narrowed device all image size n =
    let most = devices_are_alike.in_limit device in
    let count : length (take (words_of device) all) ≡ words_of device = length-take-le (words_of device) all (omega (arith, size, most)) in
    let same : image.words ≡ take (words_of device) all =
    same_number_lists image.words (take (words_of device) all) (n.count ∙ sym count)
    (λ a lt. let less : a < words_of device = (let e = n.count in omega (arith, e, lt)) in n.each a less ∙ sym (get_or-take (words_of device) all a 0 less)) in
    λ i. image_of (n.is i) (same i)

pub none_outside : (device : Device) (all : List ℕ) (image : Image) → length all ≡ limit_of device → IsNarrowed device all image → outside_word device all ≡ None
unfolding behind
none_outside device all image size n =
    let count = behind_length device all size in
    all_erased (behind device all) (words_of device)
    (λ k lt. behind_at device all k ∙ n.erased (words_of device + k) (omega arith) (omega (arith, count, lt)))

pub one_outside : (device : Device) (all : List ℕ) (word : ℕ) → length all ≡ limit_of device → IsOutside device all word → outside_word device all ≡ Some word
unfolding behind
one_outside device all word size o =
    let count = behind_length device all size in
    let from = o.behind in
    let end = o.inside in
    let place : words_of device + (word - words_of device) ≡ word = omega (arith, from) in
    let there : slice_index (behind device all) (word - words_of device) ≡ slice_index all word = behind_at device all (word - words_of device) ∙ ap (slice_index all) place in
    first_written (behind device all) (words_of device) (word - words_of device) (omega (arith, count, from, end)) (λ e. o.written (sym there ∙ e))
    (λ j lt. behind_at device all j ∙ o.least (words_of device + j) (omega arith) (omega (arith, lt, from)))
    ∙ ap Some place

pub narrows : (device : Device) (all : List ℕ) → length all ≡ limit_of device → outside_word device all ≡ None → IsNarrowed device all (image_of device (take (words_of device) all))
unfolding behind
narrows device all size none =
    let most = devices_are_alike.in_limit device in
    let count = behind_length device all size in
    record {
      is = refl;
      count = length-take-le (words_of device) all (omega (arith, size, most));
      each = λ a lt. get_or-take (words_of device) all a 0 lt;
      erased = λ a from lt.
          let place : words_of device + (a - words_of device) ≡ a = omega (arith, from) in
          ap (slice_index all) (sym place) ∙ sym (behind_at device all (a - words_of device))
          ∙ none_written (behind device all) (words_of device) (a - words_of device) none (omega (arith, count, from, lt));
    }
