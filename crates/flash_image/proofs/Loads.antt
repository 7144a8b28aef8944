-- The table of bytes that a program loads into registers. No marks come from behind its last written word.
use Rattle.std.proofs.Common.{◌≡◌, ◌≢◌, ⊎_elim, ℕ, zero, suc, ◌+◌, ◌*◌, ◌/◌, ◌%◌, ◌<◌, ◌≤◌, Bool, true, false, eqb, List, [], ◌∷◌, ◌++◌, length, get_or, set, map, replicate, Option, Some, None, subst, arith, refl, sym, ap, ◌∙◌}
use Rattle.std.specs.Prelude.{◌||◌, ◌&&◌, if◌then◌else◌, slice_index}
use Rattle.std.specs.List.{list_any}
use Rattle.std.proofs.lemmas.Bool.{cases_eq, cases_lt, eq-eqb, ne_eqb, eqb-true}
use Rattle.std.proofs.lemmas.List.{append-nil, ext_get_or, get_or-replicate, length-replicate, length-set}
use Rattle.std.proofs.lemmas.List.Folds.{list_any-append}
use Rattle.basics.specs.Booleans.{or_with_false, and_with_false}
use Rattle.avr_model.specs.declared.instruction.ImmediateInstr.{ImmediateInstr}
use Rattle.avr_model.specs.declared.instruction.Instr.{Instr}
use Rattle.avr_model.specs.Devices.{Image, device_of, IsFlash}
use Rattle.avr_model.specs.Image.{word_at, AreErased}
use Rattle.avr_model.specs.Marks.{joined_below, usual_marks, device_marks, immediate_in, immediate_at, loaded_byte, side_marks, marks_from, marks_at, marks}
use Rattle.avr_model.specs.Sites.{instruction_at, on_device, loads}
use Rattle.avr_model.specs.Table.{decoded}
use Rattle.avr_model.proofs.AllLaws.{devices_are_alike}
use Rattle.flash_image.specs.Marked.{marked, noted, loaded_below, AreLoadsBelow, AreLoads}
use Rattle.flash_image.proofs.Marked.{marked_length, marked_tells, set_tells, joined_none, joined_more, map_joined}

-- ---- behind the last written word

undefined : (next : ℕ) → decoded 0xFFFF next ≡ None
unfolding decoded
undefined next = refl

unwritten : (image : Image) (a : ℕ) → IsFlash image → a < length image.words → slice_index image.words a ≡ 0xFFFF → instruction_at image a ≡ None
unwritten image a flash lt is = ap (on_device (device_of image)) (ap (λ (w : ℕ). decoded w (word_at image (a + 1))) (place ∙ is) ∙ undefined (word_at image (a + 1)))
  where
    place : word_at image a ≡ slice_index image.words a
    place = ap (slice_index image.words) (devices_are_alike.same (device_of image) a (omega (arith, lt, flash)))

joined_behind : (n m : ℕ) (f : ℕ → List ℕ) → n ≤ m → ((a : ℕ) → n ≤ a → a < m → f a ≡ []) → joined_below n f ≡ joined_below m f
unfolding joined_below
joined_behind n zero f le none = ap (λ (k : ℕ). joined_below k f) (let e : n ≡ 0 = omega (arith, le) in e)
joined_behind n (suc m) f le none = ⊎_elim (before (joined_behind n m f)) last (cases_lt n (suc m))
  where
    before : (n ≤ m → ((a : ℕ) → n ≤ a → a < m → f a ≡ []) → joined_below n f ≡ joined_below m f) → n < suc m → joined_below n f ≡ joined_below (suc m) f
    before rest lt =
        rest (omega (arith, lt)) (λ a from below. none a from (omega (arith, below)))
        ∙ sym (ap (λ (xs : List ℕ). joined_below m f ++ xs) (none m (omega (arith, lt)) (omega arith)) ∙ append-nil (joined_below m f))

    last : suc m ≤ n → joined_below n f ≡ joined_below (suc m) f
    last ge = ap (λ (k : ℕ). joined_below k f) (let e : n ≡ suc m = omega (arith, le, ge) in e)

-- all marks, if those of the words up to the last written one are marked
pub all_marked : (image : Image) (start now : List Bool) (n : ℕ) → IsFlash image → n ≤ length image.words → AreErased image.words n (length image.words)
    → now ≡ marked start (usual_marks ++ device_marks (device_of image) ++ joined_below n (marks_at image)) → now ≡ marked start (marks image)
unfolding marks
all_marked image start now n flash le erased is =
    is ∙ ap (λ (ms : List ℕ). marked start (usual_marks ++ device_marks (device_of image) ++ ms)) (joined_behind n (length image.words) (marks_at image) le none)
  where
    none : (a : ℕ) → n ≤ a → a < length image.words → marks_at image a ≡ []
    none a from below = ap (λ (x : Option Instr). marks_from image a (immediate_in x)) (unwritten image a flash below (erased a from below))

-- ---- noting what is loaded

-- a whole table with the bytes that the first n words load
pub record AreLoadsNoted (image : Image) (n : ℕ) (table : List Bool) : Type 0 where
  pub size : length table ≡ 8192
  pub tells : AreLoadsBelow n image table

-- no word so far
pub noted_none : (image : Image) (table : List Bool) → table ≡ replicate 8192 false → AreLoadsNoted image 0 table
noted_none image table is = record {
  size = ap length is ∙ length-replicate 8192 false;
  tells = λ p b p_lt b_lt.
      ap (λ (t : List Bool). get_or t (256 * p + b) false) is ∙ get_or-replicate 8192 (256 * p + b) false false (omega (arith, p_lt, b_lt))
      ∙ sym (ap (list_any (λ (m : ℕ). eqb m b)) (joined_none (λ a. loaded_byte p (immediate_at image a))));
}

same_byte : (r y p b : ℕ) (t : Bool) → eqb r p ≡ t → y < 256 → b < 256 → eqb (256 * r + y) (256 * p + b) ≡ list_any (λ (m : ℕ). eqb m b) (if t then y ∷ [] else [])
same_byte r y p b false other y_lt b_lt =
    ne_eqb (256 * r + y) (256 * p + b) (λ e. absurd (let same : r ≡ p = omega (arith, e, y_lt, b_lt) in let test : eqb r p ≡ true = eq-eqb r p same in cc))
same_byte r y p b true same y_lt b_lt = ⊎_elim equal apart (cases_eq y b) ∙ sym (or_with_false (eqb y b))
  where
    equal : y ≡ b → eqb (256 * r + y) (256 * p + b) ≡ eqb y b
    equal e = eq-eqb (256 * r + y) (256 * p + b) (let register : r ≡ p = eqb-true r p same in omega (arith, register, e)) ∙ sym (eq-eqb y b e)

    apart : y ≢ b → eqb (256 * r + y) (256 * p + b) ≡ eqb y b
    apart ne = ne_eqb (256 * r + y) (256 * p + b) (λ e. ne (let register : r ≡ p = eqb-true r p same in omega (arith, register, e))) ∙ sym (ne_eqb y b ne)

note_tells : (t : Bool) (r y p b : ℕ) (table : List Bool) → length table ≡ 8192 → y < 256 → p < 32 → b < 256
    → get_or (if t then set table (256 * r + y) true else table) (256 * p + b) false ≡ (list_any (λ (m : ℕ). eqb m b) (if t && eqb r p then y ∷ [] else []) || get_or table (256 * p + b) false)
note_tells false r y p b table size y_lt p_lt b_lt = refl
note_tells true r y p b table size y_lt p_lt b_lt =
    set_tells table (256 * r + y) (256 * p + b) (omega (arith, size, p_lt, b_lt)) ∙ ap (λ (t : Bool). t || get_or table (256 * p + b) false) (same_byte r y p b (eqb r p) refl y_lt b_lt)

turned : (a b : Bool) → (a || b) ≡ (b || a)
turned true true = refl
turned true false = refl
turned false true = refl
turned false false = refl

more_loaded : (image : Image) (n p b : ℕ) → list_any (λ (m : ℕ). eqb m b) (loaded_below image p (n + 1))
    ≡ (list_any (λ (m : ℕ). eqb m b) (loaded_byte p (immediate_at image n)) || list_any (λ (m : ℕ). eqb m b) (loaded_below image p n))
more_loaded image n p b =
    ap (list_any (λ (m : ℕ). eqb m b)) (joined_more n (λ a. loaded_byte p (immediate_at image a))) ∙ list_any-append (λ (m : ℕ). eqb m b) (loaded_below image p n) _
    ∙ turned (list_any (λ (m : ℕ). eqb m b) (loaded_below image p n)) _

note_long : (t : Bool) (table : List Bool) (m : ℕ) → length (if t then set table m true else table) ≡ length table
note_long true table m = length-set table m true
note_long false table m = refl

-- one more word, which has a register and a byte
pub noted_more : (image : Image) (n : ℕ) (table next : List Bool) (x : ImmediateInstr) → AreLoadsNoted image n table → x.byte < 256 → Some x ≡ immediate_at image n
    → next ≡ noted table (Some x) → AreLoadsNoted image (n + 1) next
noted_more image n table next x so_far byte at is = record {
  size = ap length is ∙ note_long (loads x.op) table (256 * x.register + x.byte) ∙ so_far.size;
  tells = λ p b p_lt b_lt.
      ap (λ (t : List Bool). get_or t (256 * p + b) false) is ∙ note_tells (loads x.op) x.register x.byte p b table so_far.size byte p_lt b_lt
      ∙ ap (λ (t : Bool). list_any (λ (m : ℕ). eqb m b) (loaded_byte p (Some x)) || t) (so_far.tells p b p_lt b_lt)
      ∙ ap (λ (found : Option ImmediateInstr). list_any (λ (m : ℕ). eqb m b) (loaded_byte p found) || list_any (λ (m : ℕ). eqb m b) (loaded_below image p n)) at
      ∙ sym (more_loaded image n p b);
}

pub none_found : (found at : Option ImmediateInstr) → ((x : ImmediateInstr) → found ≡ Some x → ⊥) → found ≡ at → None ≡ at
none_found None at never is = is
none_found (Some x) at never is = absurd (never x refl)

-- one more word, which has not
pub noted_no_more : (image : Image) (n : ℕ) (table next : List Bool) → AreLoadsNoted image n table → None ≡ immediate_at image n → next ≡ table → AreLoadsNoted image (n + 1) next
noted_no_more image n table next so_far at is = record {
  size = ap length is ∙ so_far.size;
  tells = λ p b p_lt b_lt.
      ap (λ (t : List Bool). get_or t (256 * p + b) false) is ∙ so_far.tells p b p_lt b_lt
      ∙ ap (λ (found : Option ImmediateInstr). list_any (λ (m : ℕ). eqb m b) (loaded_byte p found) || list_any (λ (m : ℕ). eqb m b) (loaded_below image p n)) at
      ∙ sym (more_loaded image n p b);
}

-- all words
pub all_loads : (image : Image) (n : ℕ) (table : List Bool) → IsFlash image → n ≤ length image.words → AreErased image.words n (length image.words) → AreLoadsBelow n image table
    → AreLoads image table
all_loads image n table flash le erased so_far p b p_lt b_lt =
    so_far p b p_lt b_lt ∙ ap (list_any (λ (m : ℕ). eqb m b)) (joined_behind n (length image.words) (λ a. loaded_byte p (immediate_at image a)) le none)
  where
    none : (a : ℕ) → n ≤ a → a < length image.words → loaded_byte p (immediate_at image a) ≡ []
    none a from below = ap (λ (x : Option Instr). loaded_byte p (immediate_in x)) (unwritten image a flash below (erased a from below))

-- ---- a low byte with the high bytes that are loaded

same_marks : (xs ys : List ℕ) (start : List Bool) → ((k : ℕ) → k < length start → list_any (λ (n : ℕ). eqb n k) xs ≡ list_any (λ (n : ℕ). eqb n k) ys) → marked start xs ≡ marked start ys
same_marks xs ys start same =
    ext_get_or false (marked start xs) (marked start ys) (marked_length start xs ∙ sym (marked_length start ys))
    (λ k lt. each k (subst (λ (n : ℕ). k < n) (marked_length start xs) lt))
  where
    each : (k : ℕ) → k < length start → get_or (marked start xs) k false ≡ get_or (marked start ys) k false
    each k lt = marked_tells xs start k lt ∙ ap (λ (b : Bool). b || get_or start k false) (same k lt) ∙ sym (marked_tells ys start k lt)

both_with : (c a b : Bool) → ((c && a) || (c && b)) ≡ (c && (a || b))
both_with true a b = refl
both_with false a b = refl

with_low : (low x k : ℕ) (t : Bool) → eqb (k % 256) low ≡ t → low < 256 → eqb (256 * x + low) k ≡ (t && eqb x (k / 256))
with_low low x k false other low_lt =
    ne_eqb (256 * x + low) k (λ e. absurd (let same : k % 256 ≡ low = omega (arith, e, low_lt) in let test : eqb (k % 256) low ≡ true = eq-eqb (k % 256) low same in cc))
with_low low x k true same low_lt = ⊎_elim equal apart (cases_eq x (k / 256))
  where
    equal : x ≡ k / 256 → eqb (256 * x + low) k ≡ eqb x (k / 256)
    equal e = eq-eqb (256 * x + low) k (let byte : k % 256 ≡ low = eqb-true (k % 256) low same in omega (arith, byte, e)) ∙ sym (eq-eqb x (k / 256) e)

    apart : x ≢ k / 256 → eqb (256 * x + low) k ≡ eqb x (k / 256)
    apart ne = ne_eqb (256 * x + low) k (λ e. ne (omega (arith, e, low_lt))) ∙ sym (ne_eqb x (k / 256) ne)

mapped_tell : (low k : ℕ) (xs : List ℕ) → low < 256 → list_any (λ (n : ℕ). eqb n k) (map (λ (high : ℕ). 256 * high + low) xs) ≡ (eqb (k % 256) low && list_any (λ (n : ℕ). eqb n (k / 256)) xs)
mapped_tell low k [] low_lt = sym (and_with_false (eqb (k % 256) low))
mapped_tell low k (x ∷ xs) low_lt =
    ap (λ (b : Bool). b || list_any (λ (n : ℕ). eqb n k) (map (λ (high : ℕ). 256 * high + low) xs)) (with_low low x k (eqb (k % 256) low) refl low_lt)
    ∙ ap (λ (b : Bool). (eqb (k % 256) low && eqb x (k / 256)) || b) (mapped_tell low k xs low_lt)
    ∙ both_with (eqb (k % 256) low) (eqb x (k / 256)) (list_any (λ (n : ℕ). eqb n (k / 256)) xs)

-- the number, if the table has it
abbrev pub if_told : List Bool → ℕ → ℕ → List ℕ
if_told table p h = if get_or table (256 * p + h) false then h ∷ [] else []

other_number : (t : Bool) (n m : ℕ) → n ≢ m → list_any (λ (k : ℕ). eqb k m) (if t then n ∷ [] else []) ≡ false
other_number true n m ne = or_with_false (eqb n m) ∙ ne_eqb n m ne
other_number false n m ne = refl

its_number : (t : Bool) (n : ℕ) → list_any (λ (k : ℕ). eqb k n) (if t then n ∷ [] else []) ≡ t
its_number true n = or_with_false (eqb n n) ∙ eq-eqb n n refl
its_number false n = refl

none_told : (table : List Bool) (p n m : ℕ) → n ≤ m → list_any (λ (k : ℕ). eqb k m) (joined_below n (if_told table p)) ≡ false
unfolding joined_below
none_told table p zero m le = refl
none_told table p (suc n) m le =
    list_any-append (λ (k : ℕ). eqb k m) (joined_below n (if_told table p)) (if_told table p n)
    ∙ ap (λ (b : Bool). b || list_any (λ (k : ℕ). eqb k m) (if_told table p n)) (none_told table p n m (omega (arith, le)))
    ∙ other_number (get_or table (256 * p + n) false) n m (λ e. absurd (omega (arith, e, le)))

told : (table : List Bool) (p n m : ℕ) → m < n → list_any (λ (k : ℕ). eqb k m) (joined_below n (if_told table p)) ≡ get_or table (256 * p + m) false
unfolding joined_below
told table p zero m lt = absurd (omega (arith, lt))
told table p (suc n) m lt = list_any-append (λ (k : ℕ). eqb k m) (joined_below n (if_told table p)) (if_told table p n) ∙ ⊎_elim (before (told table p n m)) last (cases_lt m n)
  where
    before : (m < n → list_any (λ (k : ℕ). eqb k m) (joined_below n (if_told table p)) ≡ get_or table (256 * p + m) false) → m < n → (list_any (λ (k : ℕ). eqb k m) (joined_below n (if_told table p)) || list_any (λ (k : ℕ). eqb k m) (if_told table p n)) ≡ get_or table (256 * p + m) false
    before rest less =
        ap (λ (b : Bool). list_any (λ (k : ℕ). eqb k m) (joined_below n (if_told table p)) || b) (other_number (get_or table (256 * p + n) false) n m (λ e. absurd (omega (arith, e, less))))
        ∙ or_with_false (list_any (λ (k : ℕ). eqb k m) (joined_below n (if_told table p))) ∙ rest less

    last : n ≤ m → (list_any (λ (k : ℕ). eqb k m) (joined_below n (if_told table p)) || list_any (λ (k : ℕ). eqb k m) (if_told table p n)) ≡ get_or table (256 * p + m) false
    last ge =
        ap (λ (b : Bool). b || list_any (λ (k : ℕ). eqb k m) (if_told table p n)) (none_told table p n m ge)
        ∙ ap (λ (h : ℕ). list_any (λ (k : ℕ). eqb k m) (if_told table p h)) (let e : n ≡ m = omega (arith, lt, ge) in e) ∙ its_number (get_or table (256 * p + m) false) m

-- the mark of a low and a high byte, if the table has the high one
abbrev pub high_marks : List Bool → ℕ → ℕ → ℕ → List ℕ
high_marks table p low h = map (λ (high : ℕ). 256 * high + low) (if_told table p h)

pub high_marked : (table now next : List Bool) (p low h : ℕ) → get_or table (256 * p + h) false ≡ true → next ≡ set now (256 * h + low) true → next ≡ marked now (high_marks table p low h)
high_marked table now next p low h test is = is ∙ ap (λ (t : Bool). marked now (map (λ (high : ℕ). 256 * high + low) (if t then h ∷ [] else []))) (sym test)

pub none_marked : (table now : List Bool) (p low h : ℕ) → get_or table (256 * p + h) false ≡ false → now ≡ marked now (high_marks table p low h)
none_marked table now p low h test = ap (λ (t : Bool). marked now (map (λ (high : ℕ). 256 * high + low) (if t then h ∷ [] else []))) (sym test)

pub side_marked : (image : Image) (table start now : List Bool) (p low n : ℕ) → n ≡ 256 → p < 32 → low < 256 → length start ≡ 65536 → AreLoads image table
    → now ≡ marked start ((low ∷ []) ++ joined_below n (high_marks table p low)) → now ≡ marked start (side_marks image low (Some p))
side_marked image table start now p low n all p_lt low_lt size are is =
    is ∙ ap (λ (m : ℕ). marked start (low ∷ joined_below m (high_marks table p low))) all
    ∙ ap (λ (ms : List ℕ). marked start (low ∷ ms)) (sym (map_joined (λ (high : ℕ). 256 * high + low) 256 (if_told table p)))
    ∙ ap (λ (m : ℕ). marked start (m ∷ map (λ (high : ℕ). 256 * high + low) (joined_below 256 (if_told table p)))) first
    ∙ same_marks (map (λ (high : ℕ). 256 * high + low) (0 ∷ joined_below 256 (if_told table p))) (map (λ (high : ℕ). 256 * high + low) (0 ∷ loaded_below image p (length image.words))) start each
  where
    first : low ≡ 256 * 0 + low
    first = omega arith

    same : (m : ℕ) → m < 256 → list_any (λ (k : ℕ). eqb k m) (0 ∷ joined_below 256 (if_told table p)) ≡ list_any (λ (k : ℕ). eqb k m) (0 ∷ loaded_below image p (length image.words))
    same m lt = ap (λ (b : Bool). eqb 0 m || b) (told table p 256 m lt ∙ are p m p_lt lt)

    each : (k : ℕ) → k < length start
        → list_any (λ (n : ℕ). eqb n k) (map (λ (high : ℕ). 256 * high + low) (0 ∷ joined_below 256 (if_told table p))) ≡ list_any (λ (n : ℕ). eqb n k) (map (λ (high : ℕ). 256 * high + low) (0 ∷ loaded_below image p (length image.words)))
    each k lt =
        mapped_tell low k (0 ∷ joined_below 256 (if_told table p)) low_lt ∙ ap (λ (b : Bool). eqb (k % 256) low && b) (same (k / 256) (omega (arith, lt, size)))
        ∙ sym (mapped_tell low k (0 ∷ loaded_below image p (length image.words)) low_lt)
