-- Live places of SRAM; none is below the floor.
use Rattle.std.proofs.Common.{◌≡◌, ◌<◌, ◌≤◌, ◌+◌, ◌-◌, ℕ, Bool, true, false, List, length, take, drop, ◌++◌, replicate, sym, ap, ap₂, ◌∙◌, arith, ◌⊎◌, inl, inr}
use Rattle.std.specs.Prelude.{min, slice_index_or, slice_set}
use borrow.Rule.Slice.PartMut.{put_mid, mid_of}
use Rattle.std.proofs.lemmas.Slice.{take-put_mid, drop-put_mid}
use Rattle.std.proofs.Math.ListN.{drop_of_length-le, length-replicate}
use Rattle.std.proofs.Math.Seq.{take-append_seam, take-append-add, take-set-lt}
use Rattle.std.proofs.lemmas.List.{length-take, length-take-le, length-drop, get_or-take, get_or_past, take-replicate, take-append-drop, take-append-le, take-set-le, take-take, drop-take, replicate-append-replicate}

-- no place below the floor is live
abbrev pub IsBitClear : ℕ → List Bool → Type 0
IsBitClear floor flags = take floor flags ≡ replicate floor false

pub none_live : (size : ℕ) → size ≤ 32768 → take size (replicate 32768 false) ≡ replicate size false
none_live size le = take-replicate size 32768 false le

pub has_taken : (size place : ℕ) (flags : List Bool) → place < size → slice_index_or flags place false ≡ slice_index_or (take size flags) place false
has_taken size place flags lt = sym (get_or-take size flags place false lt)

pub none_past : (size place : ℕ) (flags : List Bool) → size ≤ place → slice_index_or (take size flags) place false ≡ false
none_past size place flags le = get_or_past (take size flags) place false (let e = length-take size flags in omega (arith, le, e))

-- a lower floor holds too
clear_below : (flags : List Bool) (floor n : ℕ) → IsBitClear floor flags → n ≤ floor → IsBitClear n flags
clear_below flags floor n clear le =
    ap (take n) (sym (take-append-drop floor flags))
    ∙ ap (λ (xs : List Bool). take n (xs ++ drop floor flags)) clear
    ∙ take-append-le n (replicate floor false) (drop floor flags) (let e = length-replicate {A = Bool} floor false in omega (arith, le, e))
    ∙ take-replicate n floor false le

-- a copy of the first places has their floor
pub clear_copied : (before after : List Bool) (floor size n : ℕ) → IsBitClear floor before → take size after ≡ take size before → n ≡ min floor size → IsBitClear n after
clear_copied before after floor size n clear same is =
    sym (take-take n size after (omega (arith, is)))
    ∙ ap (take n) same
    ∙ take-take n size before (omega (arith, is))
    ∙ clear_below before floor n clear (omega (arith, is))

-- a place that becomes live lowers the floor
pub clear_set : (flags : List Bool) (floor place n : ℕ) (x : Bool) → IsBitClear floor flags → n ≡ min floor place → IsBitClear n (slice_set flags place x)
clear_set flags floor place n x clear is =
    take-set-le n flags place x (omega (arith, is)) ∙ clear_below flags floor n clear (omega (arith, is))

pub set_part : (flags : List Bool) (size place : ℕ) → place < size → take size (slice_set flags place true) ≡ slice_set (take size flags) place true
set_part flags size place lt = take-set-lt size flags place true lt

-- the places below `end` are cleared, and the others are kept
abbrev pub IsCleared : ℕ → List Bool → List Bool → Type 0
IsCleared end before after = after ≡ replicate end false ++ drop end before

pub cleared_already : (flags : List Bool) (floor end : ℕ) → IsBitClear floor flags → end ≤ floor → IsCleared end flags flags
cleared_already flags floor end clear le =
    sym (take-append-drop end flags) ∙ ap (λ (xs : List Bool). xs ++ drop end flags) (clear_below flags floor end clear le)

pub cleared_mid : (flags part : List Bool) (floor end : ℕ) → IsBitClear floor flags → floor < end → end ≤ length flags → part ≡ replicate (length (mid_of floor (end - floor) flags)) false
    → IsCleared end flags (put_mid floor (end - floor) flags part)
cleared_mid flags part floor end clear less fits is =
    let count : length (mid_of floor (end - floor) flags) ≡ end - floor =
    length-take-le (end - floor) (drop floor flags) (let e = length-drop floor flags in omega (arith, e, fits)) in
    let all : part ≡ replicate (end - floor) false = is ∙ ap (λ (n : ℕ). replicate n false) count in
    let size : length part ≡ end - floor = ap length all ∙ length-replicate (end - floor) false in
    let sum : floor + (end - floor) ≡ end = omega (arith, less) in
    sym (take-append-drop end (put_mid floor (end - floor) flags part))
    ∙ ap₂ (λ (xs ys : List Bool). xs ++ ys)
    (take-put_mid floor (end - floor) flags part end (omega (arith, size, less)) (omega (arith, less, fits))
    ∙ ap₂ (λ (xs ys : List Bool). xs ++ ys) clear all
    ∙ replicate-append-replicate floor (end - floor) false
    ∙ ap (λ (n : ℕ). replicate n false) sum)
    (drop-put_mid floor (end - floor) flags part end (omega (arith, less)) (omega (arith, less, fits)) size)

pub clear_after : (before after : List Bool) (end : ℕ) → IsCleared end before after → IsBitClear end after
clear_after before after end cleared =
    ap (take end) cleared
    ∙ ap (λ (n : ℕ). take n (replicate end false ++ drop end before)) (sym (length-replicate {A = Bool} end false))
    ∙ take-append_seam (replicate end false) (drop end before)

-- the used first places
pub cleared_part : (before after : List Bool) (size count end : ℕ) → size ≤ length before → end ≡ min count size → IsCleared end before after
    → take size after ≡ replicate (min count (length (take size before))) false ++ drop count (take size before)
cleared_part before after size count end fits is cleared =
    let size_is : length (take size before) ≡ size = length-take-le size before fits in
    let rest : end + (size - end) ≡ size = omega (arith, is) in
    let longer : length (replicate {A = Bool} end false) + (size - end) ≡ size = (let e = length-replicate {A = Bool} end false in omega (arith, e, rest)) in
    ap (take size) cleared
    ∙ ap (λ (n : ℕ). take n (replicate end false ++ drop end before)) (sym longer)
    ∙ take-append-add (replicate end false) (drop end before) (size - end)
    ∙ ap (λ (xs : List Bool). replicate end false ++ xs) (sym (drop-take end (size - end) before) ∙ ap (λ (n : ℕ). drop end (take n before)) rest)
    ∙ ap₂ (λ (n : ℕ) (xs : List Bool). replicate n false ++ xs) (is ∙ ap (min count) (sym size_is)) (dropped count end (take size before) (is ∙ ap (min count) (sym size_is)))
  where
    either : (n m : ℕ) → (n ≤ m) ⊎ (m ≤ n)
    either n m = grind arith

    dropped : (count end : ℕ) (xs : List Bool) → end ≡ min count (length xs) → drop end xs ≡ drop count xs
    dropped count end xs is = elim (either count (length xs)) [
      | inl le ↦ ap (λ (n : ℕ). drop n xs) (let e : end ≡ count = omega (arith, is, le) in e)
      | inr le ↦ drop_of_length-le xs {i = end} (omega (arith, is, le)) ∙ sym (drop_of_length-le xs {i = count} le)
    ]
