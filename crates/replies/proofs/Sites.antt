-- Texts of words at which a step may be flagged.
use Rattle.std.proofs.Common.{◌≡◌, ℕ, zero, suc, ◌+◌, length, ◌-◌, ◌<◌, ◌≤◌, nat_lt, Bool, false, List, [], ◌∷◌, ◌++◌, map, take, take_all, codes, Option, Some, None, refl, sym, ap, ap₂, ◌∙◌, arith}
use Rattle.std.specs.List.{flat_map}
use Rattle.std.proofs.lemmas.List.{append-nil}
use Rattle.assumption_files.proofs.AllLaws.{words_append}
use Rattle.text_base.specs.Lines.{line}
use Rattle.text_base.specs.Writing.{Written, with_word, with_words}
use Rattle.line_reading.specs.Appending.{with_text}
use Rattle.flash_image.specs.Naming.{Named, least_name, SayTheSame}
use Rattle.reports.specs.Report.{name_word}
use Rattle.clear_laws.specs.declared.place.FlaggedPlace.{FlaggedPlace}
use Rattle.replies.specs.Places.{name_or, name_up_to, place_words, place_line, place_text, never_text, count_line, word_where, address_text, first_addresses, protected_words, cause_words, pointer_words, why_line}
use Rattle.replies.specs.Headline.{PlacesSayTheSame, CausesSayTheSame}
use Rattle.avr_model.specs.Devices.{Image, device_of}

-- ---- names

pub up_none : (names : List Named) (at : ℕ) → 0 < at → least_name names at ≡ None → name_up_to names at ≡ name_up_to names (at - 1)
unfolding name_up_to
up_none names zero h e = absurd (omega (arith, h))
up_none names (suc at) h e =
    let same : suc at - 1 ≡ at = omega arith in ap (λ (o : Option (List ℕ)). name_or o (name_up_to names at)) e ∙ ap (name_up_to names) (sym same)

pub up_some : (names : List Named) (at : ℕ) (name : List ℕ) → least_name names at ≡ Some name → name_up_to names at ≡ least_name names at
unfolding name_up_to
up_some names zero name e = refl
up_some names (suc at) name e = ap (λ (o : Option (List ℕ)). name_or o (name_up_to names at)) e ∙ sym e

pub up_first : (names : List Named) → least_name names 0 ≡ name_up_to names 0
unfolding name_up_to
up_first names = refl

-- no word between the two has a name
pub up_there : (names : List Named) (from at pc word : ℕ) → from ≤ at → at ≤ from → name_up_to names at ≡ name_up_to names pc → least_name names word ≡ name_up_to names from
    → least_name names word ≡ name_up_to names pc
up_there names from at pc word low high same named =
    let here : from ≡ at = omega (arith, low, high) in named ∙ ap (name_up_to names) here ∙ same

same_up : (names others : List Named) (at : ℕ) → SayTheSame names others → name_up_to names at ≡ name_up_to others at
unfolding name_up_to
same_up names others zero same = same zero
same_up names others (suc at) same = rw (same (suc at), same_up names others at same) refl

same_place : (image : Image) (names others : List Named) (pc : ℕ) → SayTheSame names others → place_text image names pc ≡ place_text image others pc
same_place image names others pc same =
    ap (λ (o : Option (List ℕ)). line (place_words image pc ++ codes "in" ∷ name_word o ∷ [])) (same_up names others pc same)

same_lines : (image : Image) (names others : List Named) (sites : List ℕ) → SayTheSame names others → flat_map (place_text image names) sites ≡ flat_map (place_text image others) sites
same_lines image names others [] same = refl
same_lines image names others (pc ∷ sites) same = ap₂ (λ (xs ys : List ℕ). xs ++ ys) (same_place image names others pc same) (same_lines image names others sites same)

pub same_places : PlacesSayTheSame
same_places image names others bound sites nevers same =
    ap (λ (ys : List ℕ). line (count_line bound (length sites + length nevers)) ++ (ys ++ flat_map (never_text (device_of image)) nevers)) (same_lines image names others sites same)

same_why : (image : Image) (names others : List Named) (place : FlaggedPlace) → SayTheSame names others → why_line image names place ≡ why_line image others place
same_why image names others place same =
    ap (λ (o : Option (List ℕ)). (place_words image place.word ++ codes "in" ∷ name_word o ∷ []) ++ (cause_words place ++ pointer_words place.pointer)) (same_up names others place.word same)

same_whys : (image : Image) (names others : List Named) (places : List FlaggedPlace) → SayTheSame names others → map (why_line image names) places ≡ map (why_line image others) places
same_whys image names others [] same = refl
same_whys image names others (p ∷ ps) same = ap₂ (λ (x : List (List ℕ)) (xs : List (List (List ℕ))). x ∷ xs) (same_why image names others p same) (same_whys image names others ps same)

pub same_causes : CausesSayTheSame
same_causes image names others bound places nevers same =
    ap (λ (ls : List (List (List ℕ))). line (count_line bound (length places + length nevers)) ++ (flat_map line ls ++ flat_map (never_text (device_of image)) nevers)) (same_whys image names others places same)

-- ---- lines

-- nothing more was written
pub nothing_behind : (w : Written) → w.begun ≡ false → w ≡ with_text w []
nothing_behind w none = ap₂ (λ bytes begun. record { bytes = bytes; begun = begun }) (sym (append-nil w.bytes)) none

pub named_written : (image : Image) (names : List Named) (pc : ℕ) (w v u : Written) → v ≡ with_words w (place_words image pc)
    → u ≡ with_word (with_word v (codes "in")) (name_word (name_up_to names pc)) → u ≡ with_words w (place_line image names pc)
named_written image names pc w v u e f =
    f
    ∙ ap (λ (x : Written). with_word (with_word x (codes "in")) (name_word (name_up_to names pc))) e
    ∙ sym (words_append w (place_words image pc) (codes "in" ∷ name_word (name_up_to names pc) ∷ []))

-- ---- what may happen at a word

pub none_protected : (xs : List ℕ) → length xs ≡ 0 → protected_words xs ≡ []
none_protected [] e = refl
none_protected (x ∷ xs) e = absurd (omega (arith, e))

some_protected : (xs : List ℕ) → (length xs ≡ 0 → ⊥) → protected_words xs ≡ codes "protected" ∷ first_addresses xs
some_protected [] none = absurd (none refl)
some_protected (x ∷ xs) none = refl

pub few_first : (xs : List ℕ) → length xs ≤ 8 → xs ≡ take 8 xs
few_first xs few = sym (take_all 8 xs few)

pub some_written : (xs first : List ℕ) (more : Bool) (w v u x : Written) → (length xs ≡ 0 → ⊥) → first ≡ take 8 xs → more ≡ nat_lt 8 (length xs) → v ≡ with_word w (codes "protected")
    → u ≡ with_words v (map address_text first) → x ≡ with_words u (word_where more (codes "..")) → x ≡ with_words w (protected_words xs)
some_written xs first more w v u x some same long e f g =
    g ∙ ap₂ (λ (y : Written) (b : Bool). with_words y (word_where b (codes ".."))) (f ∙ ap₂ (λ (y : Written) (ys : List ℕ). with_words y (map address_text ys)) e same) long
    ∙ sym (words_append w (codes "protected" ∷ map address_text (take 8 xs)) (word_where (nat_lt 8 (length xs)) (codes "..")))
    ∙ ap (with_words w) (sym (some_protected xs some))

pub three_written : (a b c : List (List ℕ)) (w v u x : Written) → v ≡ with_words w a → u ≡ with_words v b → x ≡ with_words u c → x ≡ with_words w (a ++ (b ++ c))
three_written a b c w v u x e f g =
    g ∙ ap (λ (y : Written). with_words y c) f ∙ sym (words_append v b c) ∙ ap (λ (y : Written). with_words y (b ++ c)) e ∙ sym (words_append w a (b ++ c))

pub four_written : (a b c d : List (List ℕ)) (w v u x y : Written) → v ≡ with_words w a → u ≡ with_words v b → x ≡ with_words u c → y ≡ with_words x d
    → y ≡ with_words w (a ++ (b ++ (c ++ d)))
four_written a b c d w v u x y e f g h = three_written a b (c ++ d) w v u y e f (h ∙ ap (λ (z : Written). with_words z d) g ∙ sym (words_append u c d))

pub pointer_written : (letter first last : List ℕ) (w v u x : Written) → v ≡ with_word w letter → u ≡ with_word v first → x ≡ with_word u last → x ≡ with_words w (letter ∷ first ∷ last ∷ [])
pointer_written letter first last w v u x e f g =
    g ∙ ap (λ (y : Written). with_word y last) (f ∙ ap (λ (y : Written). with_word y first) e)

pub why_written : (image : Image) (names : List Named) (place : FlaggedPlace) (pc : ℕ) (w v u x : Written) → pc ≡ place.word → v ≡ with_words w (place_line image names pc) → u ≡ with_words v (cause_words place)
    → x ≡ with_words u (pointer_words place.pointer) → x ≡ with_words w (why_line image names place)
why_written image names place pc w v u x same e f g =
    three_written (place_line image names place.word) (cause_words place) (pointer_words place.pointer) w v u x (e ∙ ap (λ p. with_words w (place_line image names p)) same) f g
