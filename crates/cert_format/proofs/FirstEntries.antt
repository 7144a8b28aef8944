-- The line `pairs` in lists of entries: it is the first in a list of the third version, and in no other list. Where the text says its
-- device, any list may have it.
use Rattle.std.proofs.Common.{◌≡◌, ◌||◌, List, [], ◌∷◌, ◌++◌, length, Bool, true, false, refl, ap, sym, ◌∙◌, arith}
use Rattle.std.specs.List.{AllByRecursion}
use Rattle.std.proofs.lemmas.Bool.{false≢true, and_parts, and_from}
use Rattle.std.proofs.lemmas.Bool.Decides.{nat_tests}
use Rattle.avr_model.specs.declared.assumption.Entry.{Entry}
use Rattle.avr_model.specs.declared.assumption.Entry.TheVariants.{Pairs, Masks, Jump, Store, Prove, Free, Never, Frame, Recur, Scratch}
use Rattle.avr_model.specs.Assumptions.{is_before, is_line, has_line, has_pairs}
use Rattle.avr_model.specs.declared.device.Device.{Device}
use Rattle.vector_table.specs.Entries.{AreEntries, is_entry, fits_device, is_before_first, are_in_order}
use Rattle.assumption_files.specs.Exact.{AreEntriesOf}
use Rattle.assumption_files.proofs.AllLaws.{pushed, none_are_entries}
use Rattle.certificate.specs.declared.version.Version.{Version}
use Rattle.certificate.specs.declared.version.Version.TheVariants.{One, Two, Three}
use Rattle.certificate.specs.Versions.{is_first, is_third, written_by}
use Rattle.cert_format.specs.Reading.{is_admitted, least_entries, version_with}

-- ---- one entry more

or_stays : (b rest more : Bool) → (b || rest) ≡ true → (rest ≡ true → more ≡ true) → (b || more) ≡ true
or_stays true rest more e h = refl
or_stays false rest more e h = h e

-- a longer list still has the line
line_stays : (es ys : List Entry) → has_line 0 es 0 ≡ true → has_line 0 (es ++ ys) 0 ≡ true
line_stays [] ys e = absurd (false≢true e)
line_stays (x ∷ xs) ys e = or_stays (is_line 0 0 x) (has_line 0 xs 0) (has_line 0 (xs ++ ys) 0) e (line_stays xs ys)

-- another entry is no such line
other_pushed : (es : List Entry) (e : Entry) → is_line 0 0 e ≡ false → has_line 0 (es ++ e ∷ []) 0 ≡ has_line 0 es 0
other_pushed [] e other = ap (λ (b : Bool). b || false) other
other_pushed (x ∷ xs) e other = ap (λ (b : Bool). is_line 0 0 x || b) (other_pushed xs e other)

pub mode_kept : (es : List Entry) (e : Entry) → is_admitted (has_pairs es) e ≡ true → has_pairs (es ++ e ∷ []) ≡ has_pairs es
unfolding has_pairs
mode_kept es Pairs h = line_stays es (Pairs ∷ []) h ∙ sym h
mode_kept es Masks h = other_pushed es Masks refl
mode_kept es (Jump site words) h = other_pushed es (Jump site words) refl
mode_kept es (Store site addresses) h = other_pushed es (Store site addresses) refl
mode_kept es (Prove site) h = other_pushed es (Prove site) refl
mode_kept es (Free site) h = other_pushed es (Free site) refl
mode_kept es (Never site) h = other_pushed es (Never site) refl
mode_kept es (Frame site) h = other_pushed es (Frame site) refl
mode_kept es (Recur word depth) h = other_pushed es (Recur word depth) refl
mode_kept es (Scratch site) h = other_pushed es (Scratch site) refl

-- where the text says its device, each list may have it
pub mode_stays : (says : Bool) (es : List Entry) (e : Entry) → is_admitted (says || has_pairs es) e ≡ true → (says || has_pairs (es ++ e ∷ [])) ≡ (says || has_pairs es)
mode_stays true es e h = refl
mode_stays false es e h = mode_kept es e h

-- ---- the first line

-- no entry is before it
not_before : (x y : Entry) → is_before x y ≡ true → is_line 0 0 y ≡ false
not_before x Pairs e = absurd (grind (arith, nat_tests, e))
not_before x Masks e = refl
not_before x (Jump site words) e = refl
not_before x (Store site addresses) e = refl
not_before x (Prove site) e = refl
not_before x (Free site) e = refl
not_before x (Never site) e = refl
not_before x (Frame site) e = refl
not_before x (Recur word depth) e = refl
not_before x (Scratch site) e = refl

none_behind : (x : Entry) (xs : List Entry) → are_in_order (x ∷ xs) ≡ true → has_line 0 xs 0 ≡ false
none_behind x [] e = refl
none_behind x (y ∷ ys) e =
    let t = and_parts (is_before_first x (y ∷ ys)) (are_in_order (y ∷ ys)) e in
    ap (λ (b : Bool). b || has_line 0 ys 0) (not_before x y t.0) ∙ none_behind y ys t.1

-- no entry is the line
pub all_other : (es : List Entry) → has_line 0 es 0 ≡ false → AllByRecursion (λ e. is_admitted false e ≡ true) es
all_other [] h = tt
all_other (Pairs ∷ xs) h = absurd (false≢true (sym h))
all_other (Masks ∷ xs) h = (refl, all_other xs h)
all_other (Jump site words ∷ xs) h = (refl, all_other xs h)
all_other (Store site addresses ∷ xs) h = (refl, all_other xs h)
all_other (Prove site ∷ xs) h = (refl, all_other xs h)
all_other (Free site ∷ xs) h = (refl, all_other xs h)
all_other (Never site ∷ xs) h = (refl, all_other xs h)
all_other (Frame site ∷ xs) h = (refl, all_other xs h)
all_other (Recur word depth ∷ xs) h = (refl, all_other xs h)
all_other (Scratch site ∷ xs) h = (refl, all_other xs h)

any_entry : (e : Entry) → is_admitted true e ≡ true
any_entry Pairs = refl
any_entry Masks = refl
any_entry (Jump site words) = refl
any_entry (Store site addresses) = refl
any_entry (Prove site) = refl
any_entry (Free site) = refl
any_entry (Never site) = refl
any_entry (Frame site) = refl
any_entry (Recur word depth) = refl
any_entry (Scratch site) = refl

pub all_entries : (es : List Entry) → AllByRecursion (λ e. is_admitted true e ≡ true) es
all_entries [] = tt
all_entries (e ∷ es) = (any_entry e, all_entries es)

-- ---- by the version

-- The version that is read from the first line of a text. Where the text says its device, that is the second.
abbrev pub version_read : Bool → Version → Version
version_read true version = Two
version_read false version = version

-- the first entries of a version
abbrev pub firsts : Version → List Entry
firsts One = []
firsts Two = []
firsts Three = Pairs ∷ []

pub firsts_count : (version : Version) → length (firsts version) ≡ least_entries version
firsts_count One = refl
firsts_count Two = refl
firsts_count Three = refl

pub firsts_mode : (version : Version) → is_third version ≡ has_pairs (firsts version)
unfolding has_pairs
firsts_mode One = refl
firsts_mode Two = refl
firsts_mode Three = refl

pairs_fit : (device : Device) → fits_device device Pairs ≡ true
unfolding fits_device
pairs_fit device = refl

pub firsts_are : (device : Device) (version : Version) → AreEntriesOf device (firsts version)
firsts_are device One = none_are_entries device
firsts_are device Two = none_are_entries device
firsts_are device Three = pushed device [] Pairs (none_are_entries device) (record { room = omega arith; formed = and_from (is_entry Pairs) (fits_device device Pairs) refl (pairs_fit device); above = refl })

pub record BeginsWith (paired : Bool) (version : Version) (es : List Entry) : Type 0 where
  pub rest : List Entry
  pub all : es ≡ firsts version ++ rest
  pub admitted : AllByRecursion (λ e. is_admitted paired e ≡ true) rest

behind_first : (x : Entry) (xs : List Entry) → are_in_order (x ∷ xs) ≡ true → has_line 0 (x ∷ xs) 0 ≡ true → BeginsWith true Three (x ∷ xs)
behind_first Pairs xs order e = record { rest = xs; all = refl; admitted = all_entries xs }
behind_first Masks xs order e = absurd (false≢true (sym (none_behind Masks xs order) ∙ e))
behind_first (Jump site words) xs order e = absurd (false≢true (sym (none_behind (Jump site words) xs order) ∙ e))
behind_first (Store site addresses) xs order e = absurd (false≢true (sym (none_behind (Store site addresses) xs order) ∙ e))
behind_first (Prove site) xs order e = absurd (false≢true (sym (none_behind (Prove site) xs order) ∙ e))
behind_first (Free site) xs order e = absurd (false≢true (sym (none_behind (Free site) xs order) ∙ e))
behind_first (Never site) xs order e = absurd (false≢true (sym (none_behind (Never site) xs order) ∙ e))
behind_first (Frame site) xs order e = absurd (false≢true (sym (none_behind (Frame site) xs order) ∙ e))
behind_first (Recur word depth) xs order e = absurd (false≢true (sym (none_behind (Recur word depth) xs order) ∙ e))
behind_first (Scratch site) xs order e = absurd (false≢true (sym (none_behind (Scratch site) xs order) ∙ e))

third_begins : (es : List Entry) → are_in_order es ≡ true → has_line 0 es 0 ≡ true → BeginsWith true Three es
third_begins [] order e = absurd (false≢true e)
third_begins (x ∷ xs) order e = behind_first x xs order e

-- a list of a version begins with these entries
begins : (version : Version) (es : List Entry) → AreEntries es → is_third version ≡ has_pairs es → BeginsWith (is_third version) version es
unfolding has_pairs
begins One es h mode = record { rest = es; all = refl; admitted = all_other es (sym mode) }
begins Two es h mode = record { rest = es; all = refl; admitted = all_other es (sym mode) }
begins Three es h mode = third_begins es h.in_order (sym mode)

-- the version that is read before the list
pub begins_read : (says : Bool) (version : Version) (es : List Entry) → AreEntries es → is_third version ≡ has_pairs es → BeginsWith (says || is_third (version_read says version)) (version_read says version) es
begins_read true version es h mode = record { rest = es; all = refl; admitted = all_entries es }
begins_read false version es h mode = begins version es h mode

-- ---- the version by the list

third_by : (paired : Bool) → is_third (written_by paired) ≡ paired
third_by true = refl
third_by false = refl

not_first : (paired : Bool) → is_first (written_by paired) ≡ false
not_first true = refl
not_first false = refl

pub with_mode : (says : Bool) (version : Version) (es : List Entry) → (says ≡ false → is_third version ≡ has_pairs es) → is_third (version_with says version es) ≡ has_pairs es
with_mode true version es h = third_by (has_pairs es)
with_mode false version es h = h refl

pub with_later : (says : Bool) (version : Version) (es : List Entry) → says ≡ true → is_first (version_with says version es) ≡ false
with_later true version es e = not_first (has_pairs es)
with_later false version es e = absurd (false≢true e)

-- the version of a certificate is the one that is read
pub version_settled : (says : Bool) (version : Version) (es : List Entry) → is_third version ≡ has_pairs es → (says ≡ true → is_first version ≡ false) → version_with says (version_read says version) es ≡ version
version_settled true One es mode later = absurd (false≢true (sym (later refl)))
version_settled true Two es mode later = ap written_by (sym mode)
version_settled true Three es mode later = ap written_by (sym mode)
version_settled false version es mode later = refl
