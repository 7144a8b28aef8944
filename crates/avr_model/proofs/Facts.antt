-- What each row of the table of devices says.
use Rattle.std.proofs.Common.{inl, inr, ◌⊎◌, ℕ, zero, suc, ◌+◌, ◌-◌, ◌*◌, ◌/◌, ◌^◌, ◌%◌, ◌<◌, ◌≤◌, ◌≡◌, ◌==◌, ◌&&◌, ◌||◌, Bool, true, false, nat_le, nat_lt, List, [], ◌∷◌, length, refl, sym, ap, subst, ◌∙◌, arith}
use Rattle.std.specs.Prelude.{slice_index_or}
use Rattle.std.specs.List.{list_all, list_any}
use Rattle.std.specs.Slice.{IsItemAt}
use Rattle.std.specs.Borrow.{Bor}
use Rattle.std.specs.Prelude.{Option, None, Some, not, if◌then◌else◌}
use Rattle.std.specs.Option.{option_map, unwrap_or}
use Rattle.std.proofs.lemmas.Bool.{and_parts}
use Rattle.std.proofs.lemmas.Bool.Decides.{nat_tests}
use Rattle.std.proofs.Math.Nat.{mod-lt, mod-eq_of_lt, pow-le-pow_right}
use Rattle.std.specs.Int.Bits.{bit_and}
use Rattle.std.specs.Int.{bit_at}
use Rattle.std.proofs.lemmas.Nat.Bits.{shr_and_one}
use Rattle.std.proofs.lemmas.Nat.{pow_pos, and_mask}
use Rattle.std.proofs.Math.Pow.{mod-mod-pow}
use Rattle.basics.specs.Numbers.{less_from_test, at_most_from_test}
use Rattle.avr_model.specs.declared.device.Device.{Device}
use Rattle.avr_model.specs.declared.rows.Row.{Row}
use Rattle.avr_model.specs.declared.rows.MovingPlace.{MovingPlace}
use Rattle.avr_model.specs.declared.rows.EnablePlace.{EnablePlace}
use Rattle.avr_model.specs.declared.device_table.TheConstants.{ROWS, LAST, CLASSES, LAST_CLASS}
use Rattle.avr_model.specs.Families.{FAMILIES, family_of}
use Rattle.avr_model.specs.Devices.{device_row, width, words_of, flash_words, map_at, map_bytes, io_base, sreg_address, guarded_end, io_end, size_of, ramend, back_of, has_sph, has_elpm, has_eijmp, rampz_most, eind_most, sp_count, wrapped, limit_of, word_digits, depth_of}
use Rattle.avr_model.specs.Bits.{any_below}
use Rattle.avr_model.specs.Vectors.{last_vector, watchdog, vector_word, is_core_of, has_common}

-- ---- what is tested of each row, and of each place

-- bits that move vectors are bits of I/O behind what `sbi` and `cbi` reach, and no enable bits
abbrev pub is_apart : Row → Option MovingPlace → Bool
is_apart r None = true
is_apart r (Some s) =
    nat_le (r.io_base + 0x20) s.address && (nat_le s.address r.guarded_end && (not (is_core_of r s.address) && (nat_lt s.mask 256 && not (list_any (λ (p : EnablePlace). (p.address == s.address) && has_common p.mask s.mask) (family_of r.family)))))

abbrev pub tests : Row → List Bool
tests r =
    nat_le 9 r.width ∷ nat_le r.width 17 ∷ nat_le (r.io_base + 0x3F) r.io_end ∷ nat_le r.io_end 0x77FF ∷ nat_le r.size 32768 ∷ nat_le 2 r.last ∷ nat_le r.last 77 ∷ nat_le r.watchdog r.last
    ∷ nat_lt (r.step * (r.last - 1)) (2 ^ r.width) ∷ ((r.step == 1) || (r.step == 2)) ∷ list_all (λ (p : EnablePlace). nat_le p.vector r.last && (nat_le p.address r.guarded_end && not (is_core_of r p.address))) (family_of r.family)
    ∷ nat_lt r.family (length FAMILIES) ∷ list_all (is_apart r) (r.moving ∷ r.moving_too ∷ []) ∷ nat_le 2 r.back ∷ nat_le r.back 3 ∷ nat_le (2 ^ r.width) (256 ^ r.back)
    ∷ (r.has_sph || nat_lt (r.io_end + r.size) 256) ∷ (r.has_sph || nat_le r.size 128) ∷ (r.has_sph || r.reads_masks)
    ∷ (not r.has_elpm || (65536 * (2 ^ r.width / 32768 - 1 + 1) == 2 * 2 ^ r.width)) ∷ (not r.has_eijmp || (65536 * (2 ^ r.width / 65536 - 1 + 1) == 2 ^ r.width)) ∷ (not r.has_elpmx || r.has_elpm)
    ∷ (not r.has_elpm || nat_le 16 r.width) ∷ (not r.has_eijmp || (r.has_elpm && (r.width == 17))) ∷ nat_lt (r.io_end + r.size) 0x8200 ∷ (not r.has_elpm || r.reads_masks)
    ∷ nat_le r.io_base 0x20 ∷ nat_le (r.io_base + 0x3F) r.guarded_end ∷ nat_le r.guarded_end r.io_end ∷ nat_lt r.guarded_end 0x1005
    ∷ nat_lt 0 r.flash_words ∷ nat_le r.flash_words (2 ^ r.width) ∷ nat_le r.map_bytes (2 * r.flash_words) ∷ nat_le (r.map_at + r.map_bytes) 65536
    ∷ ((r.map_bytes == 0) || nat_lt (r.io_end + r.size) r.map_at) ∷ []

abbrev pub is_sound : Row → Bool
is_sound r = list_all (λ b. b) (tests r)

all_sound : list_all is_sound ROWS ≡ true
unfolding has_common any_below
all_sound = refl

last_sound : is_sound LAST ≡ true
unfolding has_common any_below
last_sound = refl

sound_at : (p : Row → Bool) (rows : List Row) (k : ℕ) (last : Row) → list_all p rows ≡ true → p last ≡ true → p (slice_index_or rows k last) ≡ true
sound_at p [] k last all one = one
sound_at p (r ∷ rows) zero last all one = (and_parts (p r) (list_all p rows) all).0
sound_at p (r ∷ rows) (suc k) last all one = sound_at p rows k last (and_parts (p r) (list_all p rows) all).1 one

pub row_sound : (d : Device) → is_sound (device_row d) ≡ true
unfolding device_row
row_sound d = sound_at is_sound ROWS d.index LAST all_sound last_sound

test_at : (xs : List Bool) (k : ℕ) → list_all (λ b. b) xs ≡ true → slice_index_or xs k true ≡ true
test_at [] k all = refl
test_at (x ∷ xs) zero all = (and_parts x (list_all (λ b. b) xs) all).0
test_at (x ∷ xs) (suc k) all = test_at xs k (and_parts x (list_all (λ b. b) xs) all).1

-- one of the tests
pub passes : (d : Device) (k : ℕ) → slice_index_or (tests (device_row d)) k true ≡ true
passes d k = test_at (tests (device_row d)) k (row_sound d)

-- ---- what follows

pub least_width : (d : Device) → 9 ≤ width d
least_width d = at_most_from_test 9 (width d) (passes d 0)

pub most_width : (d : Device) → width d ≤ 17
most_width d = at_most_from_test (width d) 17 (passes d 1)

pub most_base : (d : Device) → io_base d ≤ 0x20
most_base d = at_most_from_test (io_base d) 0x20 (passes d 26)

pub least_io : (d : Device) → sreg_address d ≤ io_end d
least_io d = at_most_from_test (sreg_address d) (io_end d) (passes d 2)

pub most_io : (d : Device) → io_end d ≤ 0x77FF
most_io d = at_most_from_test (io_end d) 0x77FF (passes d 3)

pub most_ramend : (d : Device) → ramend d < 0x8200
most_ramend d = less_from_test (ramend d) 0x8200 (passes d 24)

pub least_guarded : (d : Device) → sreg_address d ≤ guarded_end d
least_guarded d = at_most_from_test (sreg_address d) (guarded_end d) (passes d 27)

pub guarded_in : (d : Device) → guarded_end d ≤ io_end d
guarded_in d = at_most_from_test (guarded_end d) (io_end d) (passes d 28)

pub most_guarded : (d : Device) → guarded_end d < 0x1005
most_guarded d = less_from_test (guarded_end d) 0x1005 (passes d 29)

pub some_flash : (d : Device) → 0 < flash_words d
some_flash d = less_from_test 0 (flash_words d) (passes d 30)

pub most_mapped : (d : Device) → map_bytes d ≤ 2 * flash_words d
most_mapped d = at_most_from_test (map_bytes d) (2 * flash_words d) (passes d 32)

pub map_in : (d : Device) → map_at d + map_bytes d ≤ 65536
map_in d = at_most_from_test (map_at d + map_bytes d) 65536 (passes d 33)

pub map_behind : (d : Device) (k : ℕ) → k < map_bytes d → ramend d < map_at d
map_behind d k lt = less_from_test (ramend d) (map_at d) (second (map_bytes d == 0) (nat_lt (ramend d) (map_at d)) (passes d 34) (some (map_bytes d) k lt))
  where
    some : (n k : ℕ) → k < n → (n == 0) ≡ false
    some n k lt = grind (arith, nat_tests)

    second : (a b : Bool) → (a || b) ≡ true → a ≡ false → b ≡ true
    second true b h e = absurd (cc)
    second false b h e = h

pub most_bytes : (d : Device) → size_of d ≤ 32768
most_bytes d = at_most_from_test (size_of d) 32768 (passes d 4)

pub some_vector : (d : Device) → 2 ≤ last_vector d
some_vector d = at_most_from_test 2 (last_vector d) (passes d 5)

pub most_vectors : (d : Device) → last_vector d ≤ 77
most_vectors d = at_most_from_test (last_vector d) 77 (passes d 6)

pub dog : (d : Device) → watchdog d ≤ last_vector d
dog d = at_most_from_test (watchdog d) (last_vector d) (passes d 7)

pub most_words : (d : Device) → words_of d ≤ 131072
most_words d = pow-le-pow_right {n = 2} (omega arith) (most_width d)

pub in_words : (d : Device) → flash_words d ≤ words_of d
in_words d = at_most_from_test (flash_words d) (words_of d) (passes d 31)

pub most_flash : (d : Device) → flash_words d ≤ 131072
most_flash d = let a = in_words d in let b = most_words d in omega arith

pub some_words : (d : Device) → 0 < words_of d
some_words d = pow_pos (width d)

pub inside : (d : Device) (a : ℕ) → wrapped d a < words_of d
inside d a = mod-lt a (some_words d)

pub most : (d : Device) (a : ℕ) → wrapped d a < 131072
most d a = let i = inside d a in let m = most_words d in omega arith

pub same : (d : Device) (a : ℕ) → a < words_of d → wrapped d a ≡ a
same d a lt = mod-eq_of_lt lt

pub twice : (d : Device) (a : ℕ) → wrapped d (wrapped d a) ≡ wrapped d a
twice d a = same d (wrapped d a) (inside d a)

-- more bits of an address than a word address has are enough
of_more : (d : Device) (n a : ℕ) → width d ≤ n → wrapped d (a % 2 ^ n) ≡ wrapped d a
of_more d n a le =
    let split : n ≡ (n - width d) + width d = omega arith in
    ap (λ (k : ℕ). a % 2 ^ k % words_of d) split ∙ mod-mod-pow a (n - width d) (width d)

pub of_17 : (d : Device) (a : ℕ) → wrapped d (a % 131072) ≡ wrapped d a
of_17 d a = of_more d 17 a (let m = most_width d in omega arith)

pub in_limit : (d : Device) → words_of d ≤ limit_of d
in_limit d = omega arith

pub most_limit : (d : Device) → limit_of d ≤ 131072
most_limit d = let m = most_words d in omega arith

pub in_digits : (d : Device) → limit_of d ≤ 16 ^ word_digits d
in_digits d = by (nat_le (limit_of d) 65536) refl
  where
    by : (b : Bool) → nat_le (limit_of d) 65536 ≡ b → limit_of d ≤ 16 ^ (if b then 4 else 5)
    by true is = at_most_from_test (limit_of d) 65536 is
    by false is = let m = most_limit d in omega arith

pub in_depth : (d : Device) → size_of d ≤ depth_of d
in_depth d = omega arith

pub most_depth : (d : Device) → depth_of d ≤ 32768
most_depth d = let m = most_bytes d in omega arith

scaled : (s a b : ℕ) → a ≤ b → s * a ≤ s * b
scaled zero a b h = omega arith
scaled (suc s) a b h = let rest = scaled s a b h in grind arith

pub vector_inside : (d : Device) (v : ℕ) → v ≤ last_vector d → vector_word d v < words_of d
vector_inside d v h =
    let le = scaled (device_row d).step (v - 1) (last_vector d - 1) (omega arith) in
    let room = less_from_test ((device_row d).step * (last_vector d - 1)) (words_of d) (passes d 8) in
    omega arith

pub steps : (d : Device) (v : ℕ) → (vector_word d v ≡ v - 1) ⊎ (vector_word d v ≡ 2 * (v - 1))
steps d v = by ((device_row d).step == 1) refl
  where
    by : (one : Bool) → ((device_row d).step == 1) ≡ one → (vector_word d v ≡ v - 1) ⊎ (vector_word d v ≡ 2 * (v - 1))
    by true is = inl (let e : (device_row d).step ≡ 1 = grind (arith, nat_tests) in ap (λ (s : ℕ). s * (v - 1)) e ∙ (omega arith))
    by false is = inr (let s = passes d 9 in let e : (device_row d).step ≡ 2 = grind (arith, nat_tests) in ap (λ (s : ℕ). s * (v - 1)) e)

pub least_back : (d : Device) → 2 ≤ back_of d
least_back d = at_most_from_test 2 (back_of d) (passes d 13)

pub most_back : (d : Device) → back_of d ≤ 3
most_back d = at_most_from_test (back_of d) 3 (passes d 14)

pub in_back : (d : Device) → words_of d ≤ 256 ^ back_of d
in_back d = at_most_from_test (words_of d) (256 ^ back_of d) (passes d 15)

other : (a b : Bool) → (a || b) ≡ true → a ≡ false → b ≡ true
other true b h e = absurd (cc)
other false b h e = h

pub low_end : (d : Device) → has_sph d ≡ false → ramend d < 256
low_end d none = less_from_test (ramend d) 256 (other _ _ (passes d 16) none)

pub small : (d : Device) → has_sph d ≡ false → size_of d ≤ 128
small d none = at_most_from_test (size_of d) 128 (other _ _ (passes d 17) none)

pub reads : (d : Device) → has_sph d ≡ false → (device_row d).reads_masks ≡ true
reads d none = other _ _ (passes d 18) none

told : (a b : Bool) → (not a || b) ≡ true → a ≡ true → b ≡ true
told true b h e = h
told false b h e = absurd (cc)

equal : (x y : ℕ) → (x == y) ≡ true → x ≡ y
equal x y e = grind (arith, nat_tests)

pub banks : (d : Device) → has_elpm d ≡ true → 65536 * (rampz_most d + 1) ≡ 2 * words_of d
banks d has =
    ap (λ (b : Bool). 65536 * ((if b then words_of d / 32768 - 1 else 0) + 1)) has
    ∙ equal (65536 * (words_of d / 32768 - 1 + 1)) (2 * words_of d) (told (has_elpm d) _ (passes d 19) has)

pub far_words : (d : Device) → has_eijmp d ≡ true → 65536 * (eind_most d + 1) ≡ words_of d
far_words d has =
    ap (λ (b : Bool). 65536 * ((if b then words_of d / 65536 - 1 else 0) + 1)) has
    ∙ equal (65536 * (words_of d / 65536 - 1 + 1)) (words_of d) (told (has_eijmp d) _ (passes d 20) has)

pub most_rampz : (d : Device) → rampz_most d ≤ 3
most_rampz d = by (has_elpm d)
  where
    by : (b : Bool) → (if b then words_of d / 32768 - 1 else 0) ≤ 3
    by true = let m = most_words d in omega arith
    by false = omega arith

pub most_eind : (d : Device) → eind_most d ≤ 1
most_eind d = by (has_eijmp d)
  where
    by : (b : Bool) → (if b then words_of d / 65536 - 1 else 0) ≤ 1
    by true = let m = most_words d in omega arith
    by false = omega arith

-- flash has a byte behind the first 65,536, and a word, on a device with RAMPZ, with EIND
pub some_banks : (d : Device) (n : ℕ) → n ≡ words_of d → has_elpm d ≡ true → 1 ≤ n / 32768
some_banks d n is has = let e = banks d has in omega arith

pub some_far : (d : Device) (n : ℕ) → n ≡ words_of d → has_eijmp d ≡ true → 1 ≤ n / 65536
some_far d n is has = let e = far_words d has in omega arith

pub elpm : (d : Device) → has_eijmp d ≡ true → has_elpm d ≡ true
elpm d has = (and_parts (has_elpm d) _ (told (has_eijmp d) _ (passes d 23) has)).0

pub elpm_reads : (d : Device) → has_elpm d ≡ true → (device_row d).reads_masks ≡ true
elpm_reads d has = told (has_elpm d) _ (passes d 25) has

pub in_sp : (d : Device) → ramend d < sp_count d
in_sp d = by (has_sph d) refl
  where
    by : (b : Bool) → has_sph d ≡ b → ramend d < (if b then 65536 else 256)
    by true is = let a = most_bytes d in let b = most_io d in omega arith
    by false is = low_end d is

-- ---- what the code computes

all_behind : {X : Type 0} (rows : List X) (k : ℕ) (x : X) → length rows ≤ k → slice_index_or rows k x ≡ x
all_behind [] k x le = refl
all_behind (r ∷ rows) zero x le = absurd (omega arith)
all_behind (r ∷ rows) (suc k) x le = all_behind rows k x (omega arith)

pub row_behind : (d : Device) (k : ℕ) → k ≡ d.index → length ROWS ≤ k → LAST ≡ device_row d
unfolding device_row
row_behind d k is le = sym (all_behind ROWS k LAST le) ∙ ap (λ (j : ℕ). slice_index_or ROWS j LAST) is

pub shifted : (d : Device) (w : ℕ) → w ≡ width d → 1 * 2 ^ w % 2 ^ 32 ≡ words_of d
shifted d w is =
    let m = most_words d in
    ap (λ (k : ℕ). 1 * 2 ^ k % 2 ^ 32) is ∙ (let e : 1 * 2 ^ width d ≡ words_of d = omega arith in ap (λ (k : ℕ). k % 2 ^ 32) e) ∙ mod-eq_of_lt (omega arith)

pub vector_room : (d : Device) (v : ℕ) → v ≤ last_vector d → vector_word d v < 131072
vector_room d v h = let a = vector_inside d v h in let b = most_words d in omega arith

pub masked : (d : Device) (a n : ℕ) → n ≡ words_of d → bit_and a (n - 1) ≡ wrapped d a
masked d a n is = ap (λ (k : ℕ). bit_and a (k - 1)) is ∙ and_mask a (width d)

pub counted : (d : Device) (n : ℕ) → n ≡ words_of d → 1 ≤ n
counted d n is = let some = some_words d in omega arith

pub open_bit : (bits v : ℕ) → (bit_and (bits / 2 ^ (v - 2)) 1 == 1) ≡ (bit_at bits (v - 2) == 1)
open_bit bits v = ap (λ (x : ℕ). x == 1) (shr_and_one bits (v - 2))

pub row_none : (d : Device) (k : ℕ) (r : Option (Bor Row)) → k ≡ d.index → IsItemAt ROWS k r → r ≡ None → LAST ≡ device_row d
row_none d k r is item none =
    let past : IsItemAt ROWS k None = subst (λ (o : Option (Bor Row)). IsItemAt ROWS k o) none item in
    row_behind d k is past.3

pub row_some : (d : Device) (k : ℕ) (r : Option (Bor Row)) (row : Bor Row) → k ≡ d.index → IsItemAt ROWS k r → r ≡ Some row → row.now ≡ device_row d
unfolding device_row
row_some d k r row is item some =
    let given : unwrap_or (option_map (λ (x : Bor Row). x.now) r) LAST ≡ slice_index_or ROWS k LAST = item.4 (omega arith) LAST in
    ap (λ (o : Option (Bor Row)). unwrap_or (option_map (λ (x : Bor Row). x.now) o) LAST) (sym some) ∙ given ∙ ap (λ (j : ℕ). slice_index_or ROWS j LAST) is

pub class_none : (d : Device) (k : ℕ) (r : Option (Bor (List ℕ))) → k ≡ d.index → IsItemAt CLASSES k r → r ≡ None → LAST_CLASS ≡ slice_index_or CLASSES d.index LAST_CLASS
class_none d k r is item none =
    let past : IsItemAt CLASSES k None = subst (λ (o : Option (Bor (List ℕ))). IsItemAt CLASSES k o) none item in
    sym (all_behind CLASSES k LAST_CLASS past.3) ∙ ap (λ (j : ℕ). slice_index_or CLASSES j LAST_CLASS) is
