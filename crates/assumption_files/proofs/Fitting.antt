-- What a device's texts admit, a list may have.
use Rattle.std.proofs.Common.{◌≡◌, ◌∙◌, refl, sym, ap, ap₂, ℕ, ◌<◌, ◌≤◌, ◌&&◌, Bool, true, false, List, [], ◌∷◌, length, arith, ◌⊎◌, inl, inr, ⊎_elim}
use Rattle.std.specs.Prelude.{nat_le}
use Rattle.std.specs.List.{list_all}
use Rattle.std.proofs.lemmas.Bool.{and_parts, and_from, or_from, cases_lt}
use Rattle.std.proofs.lemmas.Bool.Decides.{nat_tests}
use Rattle.avr_model.specs.declared.device.Device.{Device}
use Rattle.avr_model.specs.declared.assumption.Entry.{Entry}
use Rattle.avr_model.specs.declared.assumption.Entry.TheVariants.{Pairs, Masks, Jump, Store, Prove, Free, Never, Frame, Recur, Scratch}
use Rattle.avr_model.specs.State.{SIZE}
use Rattle.avr_model.specs.Devices.{guarded_end, depth_of}
use Rattle.avr_model.specs.Vectors.{is_protected}
use Rattle.avr_model.proofs.AllLaws.{devices_are_alike, nothing_is_behind}
use Rattle.basics.specs.Booleans.{never_both}
use Rattle.vector_table.specs.Entries.{fits_device, is_word, is_word_of, is_io, ascends}
use Rattle.assumption_files.specs.Reading.{is_entry_of}

word_of_list : (d : Device) (a : ℕ) → is_word_of d a ≡ true → is_word a ≡ true
word_of_list d a h =
    let most = devices_are_alike.most_limit d in
    grind (arith, nat_tests)

-- only guarded addresses are protected
protected_io : (d : Device) (a : ℕ) → is_protected d a ≡ true → is_io a ≡ true
protected_io d a h =
    ⊎_elim
    (λ (behind : guarded_end d < a). absurd (never_both (is_protected d a) h (or_from _ _ (nothing_is_behind.core d a behind) (nothing_is_behind.enables d a behind))))
    (λ (within : a ≤ guarded_end d). let most : a < 0x1005 = omega (arith, within, devices_are_alike.most_guarded d) in grind (arith, nat_tests))
    (cases_lt (guarded_end d) a)

all_more : (p q : ℕ → Bool) → ((n : ℕ) → p n ≡ true → q n ≡ true) → (ns : List ℕ) → list_all p ns ≡ true → list_all q ns ≡ true
all_more p q more [] h = refl
all_more p q more (n ∷ ns) h = let b = and_parts (p n) (list_all p ns) h in and_from (q n) (list_all q ns) (more n b.0) (all_more p q more ns b.1)

-- a test that says more may stand beside another
both : (a b l x y : Bool) → (a ≡ true → x ≡ true) → (b ≡ true → y ≡ true) → (a && l && b) ≡ ((x && (l && y)) && (a && b))
both true true true x y f g = rw (f refl, g refl) refl
both true true false true y f g = refl
both true true false false y f g = refl
both true false true true true f g = refl
both true false true true false f g = refl
both true false true false y f g = refl
both true false false true y f g = refl
both true false false false y f g = refl
both false b l x y f g = by ((x && (l && y)))
  where
    by : (z : Bool) → false ≡ (z && false)
    by true = refl
    by false = refl

one_beside : (a x : Bool) → (a ≡ true → x ≡ true) → a ≡ (x && a)
one_beside true x f = sym (ap (λ (b : Bool). b && true) (f refl))
one_beside false true f = refl
one_beside false false f = refl

-- the tests of the code, kind by kind
abbrev is_listable : List ℕ → Bool
is_listable ns = nat_le 1 (length ns) && nat_le (length ns) 64 && ascends ns

pub jump_admitted : (d : Device) (site : ℕ) (words : List ℕ) (e : Entry) (w l a : Bool) → w ≡ is_word_of d site → l ≡ is_listable words → a ≡ list_all (is_word_of d) words
    → e ≡ Jump site words → (w && l && a) ≡ is_entry_of d e
unfolding fits_device
jump_admitted d site words e w l a of_word of_list of_all is =
    ap₂ (λ (x y : Bool). x && l && y) of_word of_all ∙ ap (λ (x : Bool). is_word_of d site && x && list_all (is_word_of d) words) of_list
    ∙ both (is_word_of d site) (list_all (is_word_of d) words) (is_listable words) (is_word site) (list_all is_word words) (word_of_list d site)
    (all_more (is_word_of d) is_word (word_of_list d) words)
    ∙ ap (is_entry_of d) (sym is)

pub store_admitted : (d : Device) (site : ℕ) (addresses : List ℕ) (e : Entry) (w l a : Bool) → w ≡ is_word_of d site → l ≡ is_listable addresses
    → a ≡ list_all (is_protected d) addresses → e ≡ Store site addresses → (w && l && a) ≡ is_entry_of d e
unfolding fits_device
store_admitted d site addresses e w l a of_word of_list of_all is =
    ap₂ (λ (x y : Bool). x && l && y) of_word of_all ∙ ap (λ (x : Bool). is_word_of d site && x && list_all (is_protected d) addresses) of_list
    ∙ both (is_word_of d site) (list_all (is_protected d) addresses) (is_listable addresses) (is_word site) (list_all is_io addresses) (word_of_list d site)
    (all_more (is_protected d) is_io (protected_io d) addresses)
    ∙ ap (is_entry_of d) (sym is)

depth_of_list : (d : Device) (depth : ℕ) → nat_le depth (depth_of d) ≡ true → nat_le depth SIZE ≡ true
depth_of_list d depth h =
    let most = devices_are_alike.most_depth d in
    grind (arith, nat_tests)

two_beside : (a b x y : Bool) → (a ≡ true → x ≡ true) → (b ≡ true → y ≡ true) → (a && b) ≡ ((x && y) && (a && b))
two_beside true true x y f g = sym (rw (f refl, g refl) refl)
two_beside true false x y f g = by (x && y)
  where
    by : (z : Bool) → false ≡ (z && false)
    by true = refl
    by false = refl
two_beside false b x y f g = by (x && y)
  where
    by : (z : Bool) → false ≡ (z && false)
    by true = refl
    by false = refl

pub recur_admitted : (d : Device) (word depth : ℕ) (e : Entry) (w l : Bool) → w ≡ is_word_of d word → l ≡ nat_le depth (depth_of d) → e ≡ Recur word depth
    → (w && l) ≡ is_entry_of d e
unfolding fits_device
recur_admitted d word depth e w l of_word of_depth is =
    ap₂ (λ (x y : Bool). x && y) of_word of_depth
    ∙ two_beside (is_word_of d word) (nat_le depth (depth_of d)) (is_word word) (nat_le depth SIZE) (word_of_list d word) (depth_of_list d depth)
    ∙ ap (is_entry_of d) (sym is)

-- every device admits the entries without a site
pub bare_is : (d : Device) (e : Entry) → (e ≡ Pairs) ⊎ (e ≡ Masks) → true ≡ is_entry_of d e
unfolding fits_device
bare_is d e (inl is) = ap (is_entry_of d) (sym is)
bare_is d e (inr is) = ap (is_entry_of d) (sym is)

-- the entries that are a site alone
pub alone_is : (d : Device) (site : ℕ) (e : Entry) → (e ≡ Prove site) ⊎ ((e ≡ Free site) ⊎ ((e ≡ Never site) ⊎ ((e ≡ Frame site) ⊎ (e ≡ Scratch site)))) → is_word_of d site ≡ is_entry_of d e
unfolding fits_device
alone_is d site e is = one_beside (is_word_of d site) (is_word site) (word_of_list d site) ∙ by is
  where
    by : (e ≡ Prove site) ⊎ ((e ≡ Free site) ⊎ ((e ≡ Never site) ⊎ ((e ≡ Frame site) ⊎ (e ≡ Scratch site)))) → (is_word site && is_word_of d site) ≡ is_entry_of d e
    by (inl same) = ap (is_entry_of d) (sym same)
    by (inr (inl same)) = ap (is_entry_of d) (sym same)
    by (inr (inr (inl same))) = ap (is_entry_of d) (sym same)
    by (inr (inr (inr (inl same)))) = ap (is_entry_of d) (sym same)
    by (inr (inr (inr (inr same)))) = ap (is_entry_of d) (sym same)
