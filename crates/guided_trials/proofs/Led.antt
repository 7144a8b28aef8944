-- The guide of trials.
use Rattle.std.proofs.Common.{arith, zero, suc, ◌≡◌, ◌≤◌, ◌<◌, ◌⊎◌, inl, inr, ⊎_elim, refl, sym, ap, subst, ◌∙◌, ℕ, ◌+◌, ◌/◌, ◌%◌, ◌==◌, ◌&&◌, ◌||◌, not, mod-lt, Bool, true, false, if◌then◌else◌, List, [], ◌∷◌, ◌++◌, append-nil, length, Contains, Option, Some, None, slice_get}
use Rattle.std.specs.List.{AllByRecursion, find, filter}
use Rattle.std.specs.List.Sorted.{IsStrictlySortedBy}
use Rattle.std.specs.Ordering.{nat_cmp}
use Rattle.std.specs.declared.cmp.Ordering.TheVariants.{Less}
use Rattle.std.proofs.lemmas.Bool.{or_cases, not-true}
use Rattle.std.proofs.lemmas.Bool.Decides.{nat_tests}
use Rattle.std.proofs.lemmas.List.{get_or_default}
use Rattle.std.proofs.lemmas.List.Elements.{Contains-append_left, Contains-append_right, Contains-append_cases}
use Rattle.basics.specs.Booleans.{or_with_true}
use Rattle.basics.specs.Items.{none_in, first_in, further_in, first_or_further, only_one_in, all_pushed}
use Rattle.basics.specs.Numbers.{below_or_last}
use Rattle.avr_model.specs.declared.assumption.Entry.{Entry}
use Rattle.avr_model.specs.declared.choice.Choice.TheVariants.{Go, Take}
use Rattle.avr_model.specs.Assumptions.{lists, is_never}
use Rattle.avr_model.specs.Bits.{any_below}
use Rattle.avr_model.specs.Devices.{Image, device_of, words_of}
use Rattle.avr_model.specs.Sites.{instruction_at}
use Rattle.avr_model.specs.State.{State}
use Rattle.avr_model.specs.Vectors.{watchdog, vector_word, enable_count}
use Rattle.certificate.specs.declared.instance.Inst.{Inst}
use Rattle.certificate.specs.Claims.{Claim}
use Rattle.guided_trials.specs.declared.guide.Candidate.{Candidate}
use Rattle.guided_trials.specs.declared.guide.Guide.{Guide}
use Rattle.guided_trials.specs.declared.guide.TrialMoment.{TrialMoment}
use Rattle.guided_trials.specs.Numbers.{next, high, middle, low}
use Rattle.guided_trials.specs.Telling.{fills, told_if, is_told, is_telling, passing, telling}
use Rattle.guided_trials.specs.Guides.{need_of, takes_of, takes_at, first_takes, guide_of}
use Rattle.guided_trials.specs.Choosing.{hold, rate, reads, member, fallen, is_wanted, is_there, taken_or, by_chance, wanted_at, taken_at, may_be, after, left, pick}
use Rattle.guided_trials.specs.Laws.{IsByteTold, TrialsAreLed}
use Rattle.guided_trials.proofs.Found.{short}
use Rattle.guided_trials.proofs.Points.{PassesIfAny, passes_if, picked_stands, picked_is}

-- ---- numbers that pass

abbrev Ascends : List ℕ → Type 0
Ascends ns = IsStrictlySortedBy nat_cmp ns

less : (x y : ℕ) → x < y → nat_cmp x y ≡ Less
less x y h = grind (arith, nat_tests)

ascends_end : (ns : List ℕ) (n : ℕ) → Ascends ns → ((x : ℕ) → Contains ns x → x < n) → Ascends (ns ++ n ∷ [])
unfolding IsStrictlySortedBy
ascends_end [] n h below = (tt, tt)
ascends_end (x ∷ xs) n h below = (
  all_pushed (λ (y : ℕ). nat_cmp x y ≡ Less) xs n h.0 (less x n (below x (first_in x xs))),
  ascends_end xs n h.1 (λ y i. below y (further_in x y xs i)),
)

ascends_if : (ns : List ℕ) (n : ℕ) (b : Bool) → Ascends ns → ((x : ℕ) → Contains ns x → x < n) → Ascends (ns ++ (if b then n ∷ [] else []))
ascends_if ns n true h below = ascends_end ns n h below
ascends_if ns n false h below = subst Ascends (sym (append-nil ns)) h

module _ (p : ℕ → Bool) where
  abbrev IsBelow : ℕ → ℕ → Type 0
  IsBelow n x = (x < n) × (p x ≡ true)

  below_if : (n x : ℕ) (xs : List ℕ) (b : Bool) → p n ≡ b → (Contains xs x → IsBelow n x) → Contains (xs ++ (if b then n ∷ [] else [])) x → IsBelow (suc n) x
  below_if n x xs true is old h =
      ⊎_elim (λ i. let r = old i in (omega (arith, r.0), r.1)) (λ i. let e = only_one_in n x i in (omega (arith, e), subst (λ (y : ℕ). p y ≡ true) (sym e) is)) (Contains-append_cases xs (n ∷ []) x h)
  below_if n x xs false is old h = let r = old (subst (λ (ys : List ℕ). Contains ys x) (append-nil xs) h) in (omega (arith, r.0), r.1)

  passing_below : (n x : ℕ) → Contains (passing n p) x → IsBelow n x
  unfolding passing
  passing_below zero x h = absurd (none_in x h)
  passing_below (suc n) x h = below_if n x (passing n p) (p n) refl (passing_below n x) h

  last_if : (n x : ℕ) (b : Bool) → b ≡ true → x ≡ n → Contains (if b then n ∷ [] else []) x
  last_if n x true e same = subst (λ (y : ℕ). Contains (n ∷ []) y) (sym same) (first_in n [])
  last_if n x false e same = absurd cc

  passing_has : (n x : ℕ) → x < n → p x ≡ true → Contains (passing n p) x
  unfolding passing
  passing_has zero x lt h = absurd (omega (arith, lt))
  passing_has (suc n) x lt h =
      ⊎_elim (λ old. Contains-append_left (passing n p) (if p n then n ∷ [] else []) x (passing_has n x old h))
      (λ same. Contains-append_right (passing n p) (if p n then n ∷ [] else []) x (last_if n x (p n) (subst (λ (y : ℕ). p y ≡ true) same h) same)) (below_or_last x n lt)

  passing_ascends : (n : ℕ) → Ascends (passing n p)
  unfolding passing IsStrictlySortedBy
  passing_ascends zero = tt
  passing_ascends (suc n) = ascends_if (passing n p) n (p n) (passing_ascends n) (λ x i. (passing_below n x i).0)

-- ---- bytes that are told

listed_in : (x : ℕ) (xs : List ℕ) → Contains xs x → lists xs x ≡ true
listed_in x [] h = absurd (none_in x h)
listed_in x (y ∷ xs) h =
    ⊎_elim (λ e. let same : y ≡ x = sym e in let test : (y == x) ≡ true = grind (arith, nat_tests) in ap (λ (b : Bool). b || lists xs x) test) (λ more. ap (λ (b : Bool). (y == x) || b) (listed_in x xs more) ∙ or_with_true (y == x)) (first_or_further y x xs h)

in_listed : (x : ℕ) (xs : List ℕ) → lists xs x ≡ true → Contains xs x
in_listed x [] h = absurd cc
in_listed x (y ∷ xs) h =
    ⊎_elim (λ e. let same : y ≡ x = grind (arith, nat_tests) in subst (λ (z : ℕ). Contains (y ∷ xs) z) same (first_in y xs)) (λ more. further_in y x xs (in_listed x xs more)) (or_cases (y == x) (lists xs x) h)

module _ (q : ℕ → Bool) where
  some_below : (n : ℕ) → any_below n q ≡ true → (a : ℕ) × (a < n) × (q a ≡ true)
  unfolding any_below
  some_below zero h = absurd cc
  some_below (suc n) h = ⊎_elim (λ old. let r = some_below n old in (r.0, omega (arith, r.1), r.2)) (λ last. (n, omega arith, last)) (or_cases (any_below n q) (q n) h)

  below_some : (n a : ℕ) → a < n → q a ≡ true → any_below n q ≡ true
  unfolding any_below
  below_some zero a lt h = absurd (omega (arith, lt))
  below_some (suc n) a lt h =
      ⊎_elim (λ old. ap (λ (b : Bool). b || q n) (below_some n a old h)) (λ same. ap (λ (b : Bool). any_below n q || b) (subst (λ (y : ℕ). q y ≡ true) same h) ∙ or_with_true (any_below n q)) (below_or_last a n lt)

module _ (image : Image) (byte : ℕ) where
  abbrev tells : ℕ → Bool
  tells at = lists (told_if (instruction_at image at)) byte

  told_by : (n : ℕ) → is_told image n byte ≡ true → (at : ℕ) × (at < n) × Contains (told_if (instruction_at image at)) byte
  unfolding is_told
  told_by n h = let r = some_below tells n h in (r.0, r.1, in_listed byte (told_if (instruction_at image r.0)) r.2)

  by_told : (n at : ℕ) → at < n → Contains (told_if (instruction_at image at)) byte → is_told image n byte ≡ true
  unfolding is_told
  by_told n at lt h = below_some tells n at lt (listed_in byte (told_if (instruction_at image at)) h)

  telling_told : is_telling image byte ≡ true → IsByteTold image byte
  telling_told h =
      ⊎_elim (λ always. inl (in_listed byte fills always)) (λ told. inr (told_by (words_of (device_of image)) told)) (or_cases (lists fills byte) (is_told image (words_of (device_of image)) byte) h)

  told_telling : IsByteTold image byte → is_telling image byte ≡ true
  told_telling (inl h) = ap (λ (b : Bool). b || is_told image (words_of (device_of image)) byte) (listed_in byte fills h)
  told_telling (inr h) = ap (λ (b : Bool). lists fills byte || b) (by_told (words_of (device_of image)) h.0 h.1 h.2) ∙ or_with_true (lists fills byte)

telling_ascends : (image : Image) → Ascends (telling image)
unfolding telling
telling_ascends image = passing_ascends (is_telling image) 256

in_telling : (image : Image) (byte : ℕ) → Contains (telling image) byte → (byte < 256) × IsByteTold image byte
unfolding telling
in_telling image byte h = let r = passing_below (is_telling image) 256 byte h in (r.0, telling_told image byte r.1)

telling_in : (image : Image) (byte : ℕ) → (byte < 256) × IsByteTold image byte → Contains (telling image) byte
unfolding telling
telling_in image byte h = passing_has (is_telling image) 256 byte h.0 (told_telling image byte h.1)

-- zero is always tried
pub some_told : (image : Image) → 1 ≤ length (telling image)
some_told image = let i = telling_in image 0 (omega arith, inl (first_in 0 (0xFF ∷ 0x55 ∷ 0xAA ∷ 0x01 ∷ 0x80 ∷ 0x7F ∷ 0xFE ∷ []))) in omega (arith, i.1)

-- ---- the byte of a trial

member_in : (bytes : List ℕ) (n : ℕ) → 1 ≤ length bytes → Contains bytes (member bytes n)
member_in bytes n some =
    let lt : n % length bytes < length bytes = mod-lt n (omega (arith, some)) in
    (n % length bytes, lt, get_or_default bytes (n % length bytes) (member bytes n) 0 lt)

byte_kept : (a b : Bool) (x y : ℕ) → b ≡ false → (if a && b then x else y) ≡ y
byte_kept true b x y e = ap (λ (c : Bool). if c then x else y) e
byte_kept false b x y e = refl

byte_changed : (b : Bool) (bytes : List ℕ) (x y : ℕ) → Contains bytes x → ((if b then x else y) ≡ y) ⊎ Contains bytes (if b then x else y)
byte_changed true bytes x y h = inr h
byte_changed false bytes x y h = inl refl

kept : (image : Image) (g : Guide) (t pc : ℕ) (l : TrialMoment) → reads image pc ≡ false → (after image g t l pc).byte ≡ l.byte
kept image g t pc l e = byte_kept (low (next l.number) % hold t == 0) (reads image pc) (member g.bytes (middle (next l.number))) l.byte e

changed : (image : Image) (A : List Entry) (c : Claim) (t pc : ℕ) (l : TrialMoment)
    → ((after image (guide_of image A c) t l pc).byte ≡ l.byte) ⊎ Contains (telling image) (after image (guide_of image A c) t l pc).byte
changed image A c t pc l =
    byte_changed ((low (next l.number) % hold t == 0) && reads image pc) (telling image) (member (telling image) (middle (next l.number))) l.byte
    (member_in (telling image) (middle (next l.number)) (some_told image))

-- ---- what holds of all interrupts holds of the one that is taken

module _ {X : Type 0} (q : X → Bool) where
  abbrev Every : List X → Type 0
  Every xs = AllByRecursion (λ (x : X). q x ≡ true) xs

  every_append : (xs ys : List X) → Every xs → Every ys → Every (xs ++ ys)
  every_append [] ys h k = k
  every_append (x ∷ xs) ys h k = (h.0, every_append xs ys h.1 k)

  found_if : (x : X) (o : Option X) (b : Bool) → q x ≡ true → PassesIfAny q o → PassesIfAny q (if b then Some x else o)
  found_if x o true h k = h
  found_if x o false h k = k

  found_every : (p : X → Bool) (xs : List X) → Every xs → PassesIfAny q (find p xs)
  found_every p [] h = tt
  found_every p (x ∷ xs) h = found_if x (find p xs) (p x) h.0 (found_every p xs h.1)

  kept_if : (x : X) (xs : List X) (b : Bool) → q x ≡ true → Every xs → Every (if b then x ∷ xs else xs)
  kept_if x xs true h k = (h, k)
  kept_if x xs false h k = k

  kept_every : (p : X → Bool) (xs : List X) → Every xs → Every (filter p xs)
  kept_every p [] h = tt
  kept_every p (x ∷ xs) h = kept_if x (filter p xs) (p x) h.0 (kept_every p xs h.1)

  got_every : (xs : List X) (n : ℕ) → Every xs → PassesIfAny q (slice_get xs n)
  got_every [] n h = tt
  got_every (x ∷ xs) zero h = h.0
  got_every (x ∷ xs) (suc n) h = got_every xs n h.1

module _ (image : Image) (A : List Entry) where
  -- no line bars the vector
  abbrev may_come : Candidate → Bool
  may_come k = not (is_never A (vector_word (device_of image) k.vector))

  takes_if : (v need : ℕ) (b : Bool) → not (is_never A (vector_word (device_of image) v)) ≡ true
      → Every may_come (if b then record { vector = v; clears = true; need = need } ∷ [] else [])
  takes_if v need true h = (h, tt)
  takes_if v need false h = tt

  at_if : (v need : ℕ) (b : Bool) → is_never A (vector_word (device_of image) v) ≡ b → Every may_come (if b then [] else takes_of (device_of image) v need)
  at_if v need true is = tt
  at_if v need false is = let h : not (is_never A (vector_word (device_of image) v)) ≡ true = ap not is in (h, takes_if v need (v == watchdog (device_of image)) h)

  every_take : (insts : List Inst) (n : ℕ) → Every may_come (first_takes image A insts n)
  unfolding first_takes
  every_take insts zero = tt
  every_take insts (suc n) =
      every_append may_come (first_takes image A insts n) (takes_at image A insts (n + 2)) (every_take insts n) (at_if (n + 2) (need_of insts (n + 2)) (is_never A (vector_word (device_of image) (n + 2))) refl)

  taken_every : (t x depth : ℕ) (g : Guide) (p : Candidate → Bool) → Every may_come g.takes → PassesIfAny may_come (taken_at g t x depth p)
  taken_every t x depth g p h =
      let wanted : Option Candidate = wanted_at g depth p in
      passes_if may_come wanted (by_chance t x (filter p g.takes)) (is_there wanted && not (high x % 4 == 0))
      (found_every may_come (λ k. p k && is_wanted g depth k) g.takes h)
      (passes_if may_come (slice_get (filter p g.takes) (middle x % length (filter p g.takes))) None (high x / 4 % rate t == 0)
      (got_every may_come (filter p g.takes) (middle x % length (filter p g.takes)) (kept_every may_come p g.takes h)) tt)

  same_vector : (v w : ℕ) (a b : Bool) → Take v a ≡ Take w b → v ≡ w
  same_vector v w a b e = cc

  only_taken : (o : Option Candidate) (byte v : ℕ) (clears : Bool) → PassesIfAny may_come o → taken_or (Go byte byte) o ≡ Take v clears → is_never A (vector_word (device_of image) v) ≡ false
  only_taken None byte v clears h e = absurd cc
  only_taken (Some k) byte v clears h e =
      subst (λ (w : ℕ). is_never A (vector_word (device_of image) w) ≡ false) (same_vector k.vector v k.clears clears e) (not-true (is_never A (vector_word (device_of image) k.vector)) h)

never : (image : Image) (A : List Entry) (c : Claim) (t : ℕ) (l : TrialMoment) (m : State) (v : ℕ) (clears : Bool)
    → pick image (guide_of image A c) t l m ≡ Take v clears → is_never A (vector_word (device_of image) v) ≡ false
never image A c t l m v clears e =
    let g : Guide = guide_of image A c in
    only_taken image A (taken_at g t (next l.number) (fallen image m.sp) (may_be m)) (left image g t l m).byte v clears
    (taken_every image A t (next l.number) (fallen image m.sp) g (may_be m) (every_take image A c.instances (enable_count (device_of image)))) e

-- ---- the law

pub trials_are_led : TrialsAreLed
trials_are_led = record {
  ascend = telling_ascends;
  told = λ image byte. (in_telling image byte, telling_in image byte);
  kept = kept;
  changed = changed;
  legal = picked_stands;
  alike = picked_is;
  never = never;
  short = short;
}
