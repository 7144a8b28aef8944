-- Assumption lists: the result of reading is due, and the due answer is the result of reading.
use Rattle.std.proofs.Common.{◌≡◌, ◌≢◌, ◌+◌, ◌<◌, ◌≤◌, ℕ, List, [], ◌∷◌, ◌++◌, Bool, true, false, length, get_or, length-append, append_assoc, append-nil, refl, ap, ap₂, sym, suc, ◌∙◌, subst, arith, Option, Some, None, Result, Ok, Err, cond, ◌⊎◌, inl, inr, ltb, ltb-true, ltb-false}
use Rattle.std.specs.List.{All}
use Rattle.std.proofs.lemmas.Bool.{cases_Bool, and_from}
use Rattle.std.proofs.lemmas.Bool.Decides.{nat_tests}
use Rattle.std.proofs.lemmas.Grind.{flat_map-append}
use Rattle.basics.specs.Lists.{nil_not_cons, same_head_and_tail, chosen}
use Rattle.std.proofs.lemmas.Option.{same_Some, none-some}
use Rattle.text_base.proofs.Splitting.{lines_at, joined_lines}
use Rattle.avr_model.specs.declared.device.Device.{Device}
use Rattle.avr_model.specs.declared.assumption.Entry.{Entry}
use Rattle.avr_model.specs.declared.assumption.Entry.TheVariants.{Pairs, Masks, Jump, Store, Prove, Free, Never, Frame, Recur, Scratch}
use Rattle.text_base.specs.Answers.{Answers}
use Rattle.text_base.specs.Lines.{TextLine, lines_of, words_of, joined, bytes_of, spaced, Lacks}
use Rattle.line_reading.specs.Reading.{then_at}
use Rattle.line_reading.specs.Words.{WordLaws, whole}
use Rattle.vector_table.specs.Entries.{is_entry, fits_device, is_above_last, most_entries}
use Rattle.assumption_files.specs.declared.fault.AssumeText.{AssumeText}
use Rattle.assumption_files.specs.declared.fault.AssumeText.TheVariants.{Malformed, Order, Memory}
use Rattle.assumption_files.specs.Exact.{AreEntriesOf, StandsAt, BeginsWithNone, IsListDue, IsListDueUnlessMemory, ReadListIsDue, DueIsRead, RefusedListIsStuck, ListsHaveOneText}
use Rattle.assumption_files.specs.Reading.{numbered_in, is_entry_of, entry_in, entry_by, next_by, placed, with_line, entries_from, entries_in}
use Rattle.assumption_files.specs.Spelling.{entry_words, line_of, text_of}
use Rattle.assumption_files.proofs.Entries.{numbered_taken, entry_laws, entry_is_words}
use Rattle.assumption_files.proofs.Lists.{FollowsPart, follows, pushed, none_are_entries}

-- ---- one line

words_again : WordLaws → (d : Device) (e : Entry) → is_entry_of d e ≡ true → words_of (spaced (entry_words d e)) ≡ entry_words d e
words_again k d Pairs h = k.words_stand _ _ (entry_is_words k d Pairs h)
words_again k d Masks h = k.words_stand _ _ (entry_is_words k d Masks h)
words_again k d (Jump site words) h = k.words_stand _ _ (entry_is_words k d (Jump site words) h)
words_again k d (Store site addresses) h = k.words_stand _ _ (entry_is_words k d (Store site addresses) h)
words_again k d (Prove site) h = k.words_stand _ _ (entry_is_words k d (Prove site) h)
words_again k d (Free site) h = k.words_stand _ _ (entry_is_words k d (Free site) h)
words_again k d (Never site) h = k.words_stand _ _ (entry_is_words k d (Never site) h)
words_again k d (Frame site) h = k.words_stand _ _ (entry_is_words k d (Frame site) h)
words_again k d (Recur word depth) h = k.words_stand _ _ (entry_is_words k d (Recur word depth) h)
words_again k d (Scratch site) h = k.words_stand _ _ (entry_is_words k d (Scratch site) h)

-- reading the line of an entry gives the entry
line_taken : WordLaws → (device : Device) (e : Entry) → is_entry_of device e ≡ true → entry_by device (whole (entry_words device e)) ≡ Some e
line_taken k device e h = ap (entry_in device) (words_again k device e h) ∙ (entry_laws k).read device e h

-- a line that is read is that of the entry
line_takes : WordLaws → (device : Device) (l : TextLine) (e : Entry) → entry_by device l ≡ Some e → (l ≡ whole (entry_words device e)) × (is_entry_of device e ≡ true)
line_takes k device l e is = elim (chosen l.whole _ _ (Some e) is) [
  | inl h ↦
      let t = (entry_laws k).spelled device (words_of l.text) e h.1 in
      let text : l.text ≡ spaced (entry_words device e) = sym (k.line_words l.text) ∙ ap spaced t.0 in
      (rw (← text) (ap (λ (w : Bool). record { text = l.text; whole = w }) h.0), t.1)
  | inr h ↦ absurd (none-some e h.1)
]

lacks_end : WordLaws → (device : Device) (e : Entry) → is_entry_of device e ≡ true → Lacks 10 (spaced (entry_words device e))
lacks_end k device e h = (k.lines_stand (entry_words device e ∷ []) [] (entry_is_words k device e h, tt) tt).0

-- a text that begins with the line of an entry
first_line : WordLaws → (device : Device) (e : Entry) (rest : List ℕ) → is_entry_of device e ≡ true → lines_of (line_of device e ++ rest) ≡ whole (entry_words device e) ∷ lines_of rest
first_line k device e rest h = ap lines_of (append_assoc (spaced (entry_words device e)) (10 ∷ []) rest) ∙ lines_at (spaced (entry_words device e)) rest (lacks_end k device e h)

-- a text whose first line is read begins with the line of that entry
begins : WordLaws → (device : Device) (here : List ℕ) (l : TextLine) (ls : List TextLine) (e : Entry) → lines_of here ≡ l ∷ ls → entry_by device l ≡ Some e → here ≡ line_of device e ++ joined ls
begins k device here l ls e lines is =
    sym (joined_lines here) ∙ ap joined lines ∙ ap (λ (x : TextLine). bytes_of x ++ joined ls) (line_takes k device l e is).0

-- ---- the next line behind entries

next_with_room : (device : Device) (count : ℕ) (l : TextLine) → count < most_entries → next_by device count l ≡ entry_by device l
unfolding next_by
next_with_room device count l h = let room : ltb count most_entries ≡ true = grind (arith, nat_tests) in rw room refl

next_without_room : (device : Device) (count : ℕ) (l : TextLine) → count ≡ most_entries → next_by device count l ≡ None
unfolding next_by
next_without_room device count l h = let full : ltb count most_entries ≡ false = grind (arith, nat_tests) in rw full refl

-- an entry is found exactly if there is room and the line is that of the entry
next_some : (device : Device) (count : ℕ) (l : TextLine) (e : Entry) → next_by device count l ≡ Some e → (count < most_entries) × (entry_by device l ≡ Some e)
unfolding next_by
next_some device count l e is = elim (chosen (ltb count most_entries) _ _ (Some e) is) [
  | inl h ↦ (ltb-true count most_entries h.0, h.1)
  | inr h ↦ absurd (none-some e h.1)
]

none_stops : WordLaws → (device : Device) (count : ℕ) (here : List ℕ) (l : TextLine) (ls : List TextLine) → lines_of here ≡ l ∷ ls → count ≤ most_entries → next_by device count l ≡ None
    → (count ≡ most_entries) ⊎ BeginsWithNone device here
none_stops k device count here l ls lines few none = elim (cases_Bool (ltb count most_entries)) [
  | inl room ↦ inr (λ e rest h same.
      let lt = ltb-true count most_entries room in
      let first = same_head_and_tail l (whole (entry_words device e)) ls (lines_of rest) (sym lines ∙ ap lines_of same ∙ first_line k device e rest h) in
      none-some e (sym none ∙ next_with_room device count l lt ∙ ap (entry_by device) first.0 ∙ line_taken k device e h))
  | inr full ↦ let le = ltb-false count most_entries full in inl (omega arith)
]

stops_none : WordLaws → (device : Device) (count : ℕ) (here : List ℕ) (l : TextLine) (ls : List TextLine) → lines_of here ≡ l ∷ ls → (count ≡ most_entries) ⊎ BeginsWithNone device here
    → next_by device count l ≡ None
stops_none k device count here l ls lines (inl full) = next_without_room device count l full
stops_none k device count here l ls lines (inr none) = elim (next_by device count l) as (λ o. next_by device count l ≡ o → o ≡ None) [
  | None ↦ λ is. refl
  | Some e ↦ λ is.
      let found = next_some device count l e is in
      absurd (none e (joined ls) (line_takes k device l e found.1).1 (begins k device here l ls e lines found.1))
] refl

-- ---- what is read is due

text_pushed : (device : Device) (es : List Entry) (e : Entry) (rest : List ℕ) → text_of device (es ++ e ∷ []) ++ rest ≡ text_of device es ++ (line_of device e ++ rest)
text_pushed device es e rest =
    ap (λ (xs : List ℕ). xs ++ rest) (flat_map-append (line_of device) es (e ∷ []) ∙ ap (λ (xs : List ℕ). text_of device es ++ xs) (append-nil (line_of device e)))
    ∙ append_assoc (text_of device es) (line_of device e) rest

not_empty : (here : List ℕ) (l : TextLine) (ls : List TextLine) → lines_of here ≡ l ∷ ls → here ≢ []
not_empty here l ls lines = λ e. nil_not_cons l ls (sym (ap lines_of e) ∙ lines)

rest_lines : WordLaws → (device : Device) (here : List ℕ) (l : TextLine) (ls : List TextLine) (e : Entry) → lines_of here ≡ l ∷ ls → entry_by device l ≡ Some e → lines_of (joined ls) ≡ ls
rest_lines k device here l ls e lines is =
    let t = line_takes k device l e is in
    sym (same_head_and_tail l (whole (entry_words device e)) ls (lines_of (joined ls)) (sym lines ∙ ap lines_of (begins k device here l ls e lines is) ∙ first_line k device e (joined ls) t.1)).1

-- reading these lines gives the due answer
abbrev ReadsFrom : Device → List TextLine → Type 0
ReadsFrom device ls = (es : List Entry) (here : List ℕ) → lines_of here ≡ ls → AreEntriesOf device es → IsListDue device (text_of device es ++ here) (entries_from device es ls)

read_entry : WordLaws → (device : Device) (l : TextLine) (ls : List TextLine) → ReadsFrom device ls → (es : List Entry) (here : List ℕ) (e : Entry) → lines_of here ≡ l ∷ ls → AreEntriesOf device es → next_by device (length es) l ≡ Some e
    → (b : Bool) → is_above_last es e ≡ b
    → IsListDue device (text_of device es ++ here) (then_at (cond b (Ok (es ++ e ∷ [])) (Err (Order (length es + 1)))) (λ more. entries_from device more ls))
read_entry k device l ls on es here e lines fits is true up =
    let found = next_some device (length es) l e is in
    let text = begins k device here l ls e lines found.1 in
    let more = pushed device es e fits (record { room = found.0; formed = (line_takes k device l e found.1).1; above = up }) in
    subst (λ (t : List ℕ). IsListDue device t (entries_from device (es ++ e ∷ []) ls)) (text_pushed device es e (joined ls) ∙ ap (λ (xs : List ℕ). text_of device es ++ xs) (sym text))
    (on (es ++ e ∷ []) (joined ls) (rest_lines k device here l ls e lines found.1) more)
read_entry k device l ls on es here e lines fits is false low =
    let found = next_some device (length es) l e is in
    record {
      before = es;
      entry = e;
      rest = joined ls;
      at = record { fits = fits; bytes = ap (λ (xs : List ℕ). text_of device es ++ xs) (begins k device here l ls e lines found.1); number = refl };
      formed = (line_takes k device l e found.1).1;
      room = found.0;
      low = low;
    }

read_next : WordLaws → (device : Device) (l : TextLine) (ls : List TextLine) → ReadsFrom device ls → (es : List Entry) (here : List ℕ) → lines_of here ≡ l ∷ ls → AreEntriesOf device es → (o : Option Entry) → next_by device (length es) l ≡ o
    → IsListDue device (text_of device es ++ here) (then_at (placed es o) (λ more. entries_from device more ls))
read_next k device l ls on es here lines fits None is = record {
  before = es;
  here = here;
  at = record { fits = fits; bytes = refl; number = refl };
  some = not_empty here l ls lines;
  stop = none_stops k device (length es) here l ls lines fits.are.few is;
}
read_next k device l ls on es here lines fits (Some e) is = read_entry k device l ls on es here e lines fits is (is_above_last es e) refl

read_from : WordLaws → (device : Device) (ls : List TextLine) → ReadsFrom device ls
unfolding entries_from with_line
read_from k device [] = λ es here lines fits. record { fits = fits; bytes = ap (λ (xs : List ℕ). text_of device es ++ xs) (sym (joined_lines here) ∙ ap joined lines) ∙ append-nil (text_of device es) }
read_from k device (l ∷ ls) = λ es here lines fits. read_next k device l ls (read_from k device ls) es here lines fits (next_by device (length es) l) refl

pub read_is_due : WordLaws → ReadListIsDue
read_is_due k device text = read_from k device (lines_of text) [] text refl (none_are_entries device)

-- ---- what is due is read

one_read : WordLaws → (device : Device) (es : List Entry) (e : Entry) (rest : List ℕ) → FollowsPart device es e → entries_from device es (lines_of (line_of device e ++ rest)) ≡ entries_from device (es ++ e ∷ []) (lines_of rest)
unfolding entries_from with_line
one_read k device es e rest f =
    let next = next_with_room device (length es) (whole (entry_words device e)) f.room ∙ line_taken k device e f.formed in
    rw (first_line k device e rest f.formed)
    (ap (λ (o : Option Entry). then_at (placed es o) (λ more. entries_from device more (lines_of rest))) next
    ∙ ap (λ (b : Bool). then_at (cond b (Ok (es ++ e ∷ [])) (Err (Order (length es + 1)))) (λ more. entries_from device more (lines_of rest))) f.above)

-- entries whose lines are in a text are read
all_read : WordLaws → (device : Device) (more done : List Entry) (here : List ℕ) → AreEntriesOf device (done ++ more) → entries_from device done (lines_of (text_of device more ++ here)) ≡ entries_from device (done ++ more) (lines_of here)
all_read k device [] done here fits = ap (λ (es : List Entry). entries_from device es (lines_of here)) (sym (append-nil done))
all_read k device (e ∷ more) done here fits =
    let grown = sym (append_assoc done (e ∷ []) more) in
    ap (λ (t : List ℕ). entries_from device done (lines_of t)) (append_assoc (line_of device e) (text_of device more) here)
    ∙ one_read k device done e (text_of device more ++ here) (follows device done e more fits)
    ∙ all_read k device more (done ++ e ∷ []) here (subst (AreEntriesOf device) grown fits)
    ∙ ap (λ (es : List Entry). entries_from device es (lines_of here)) (sym grown)

from_start : WordLaws → (device : Device) (text : List ℕ) (number : ℕ) (es : List Entry) (here : List ℕ) → StandsAt device text number es here → entries_in device text ≡ entries_from device es (lines_of here)
from_start k device text number es here h = ap (entries_in device) h.bytes ∙ all_read k device es [] here h.fits

malformed_by : WordLaws → (device : Device) (es : List Entry) (here : List ℕ) (ls : List TextLine) → lines_of here ≡ ls → here ≢ [] → (length es ≡ most_entries) ⊎ BeginsWithNone device here
    → entries_from device es ls ≡ Err (Malformed (length es + 1))
unfolding entries_from with_line
malformed_by k device es here [] lines some stop = absurd (some (sym (joined_lines here) ∙ ap joined lines))
malformed_by k device es here (l ∷ ls) lines some stop =
    ap (λ (o : Option Entry). then_at (placed es o) (λ more. entries_from device more ls)) (stops_none k device (length es) here l ls lines stop)

disordered_by : WordLaws → (device : Device) (es : List Entry) (e : Entry) (rest : List ℕ) → is_entry_of device e ≡ true → length es < most_entries → is_above_last es e ≡ false
    → entries_from device es (lines_of (line_of device e ++ rest)) ≡ Err (Order (length es + 1))
unfolding entries_from with_line
disordered_by k device es e rest formed room low =
    let next = next_with_room device (length es) (whole (entry_words device e)) room ∙ line_taken k device e formed in
    rw (first_line k device e rest formed)
    (ap (λ (o : Option Entry). then_at (placed es o) (λ more. entries_from device more (lines_of rest))) next
    ∙ ap (λ (b : Bool). then_at (cond b (Ok (es ++ e ∷ [])) (Err (Order (length es + 1)))) (λ more. entries_from device more (lines_of rest))) low)

none_left : (device : Device) (es : List Entry) → entries_from device es [] ≡ Ok es
unfolding entries_from
none_left device es = refl

pub due_is_read : WordLaws → DueIsRead
due_is_read k device text (Ok es) h =
    ap (entries_in device) (h.bytes ∙ sym (append-nil (text_of device es))) ∙ all_read k device es [] [] h.fits ∙ none_left device es
due_is_read k device text (Err (Malformed number)) h =
    from_start k device text number h.before h.here h.at ∙ malformed_by k device h.before h.here (lines_of h.here) refl h.some h.stop
    ∙ ap (λ (n : ℕ). Err (Malformed n)) (sym h.at.number)
due_is_read k device text (Err (Order number)) h =
    from_start k device text number h.before (line_of device h.entry ++ h.rest) h.at ∙ disordered_by k device h.before h.entry h.rest h.formed h.room h.low
    ∙ ap (λ (n : ℕ). Err (Order n)) (sym h.at.number)
due_is_read k device text (Err Memory) h = absurd h

-- ---- a refusal

full_or_none : (device : Device) (before : List Entry) (here : List ℕ) → (length before ≡ most_entries) ⊎ BeginsWithNone device here → (e : Entry) (more : List Entry) (rest : List ℕ) → AreEntriesOf device (before ++ e ∷ more)
    → here ≢ line_of device e ++ rest
full_or_none device before here (inl full) e more rest fits = λ same. let room = (follows device before e more fits).room in omega arith
full_or_none device before here (inr none) e more rest fits = none e rest (follows device before e more fits).formed

-- a text begins with the line of at most one entry
one_entry : WordLaws → (device : Device) (a b : Entry) (xs ys : List ℕ) → is_entry_of device a ≡ true → is_entry_of device b ≡ true → line_of device a ++ xs ≡ line_of device b ++ ys → (a ≡ b) × (xs ≡ ys)
one_entry k device a b xs ys fa fb e =
    let lines = same_head_and_tail (whole (entry_words device a)) (whole (entry_words device b)) (lines_of xs) (lines_of ys) (sym (first_line k device a xs fa) ∙ ap lines_of e ∙ first_line k device b ys fb) in
    let words = sym (words_again k device a fa) ∙ ap (λ (l : TextLine). words_of l.text) lines.0 ∙ words_again k device b fb in (
      same_Some a b (sym (numbered_taken k device a fa) ∙ ap (numbered_in device) words ∙ numbered_taken k device b fb),
      sym (joined_lines xs) ∙ ap joined lines.1 ∙ joined_lines ys,
    )

low_and_above : (before : List Entry) (a b : Entry) → is_above_last before a ≡ false → is_above_last before b ≡ true → a ≡ b → ⊥
low_and_above before a b low up e = let bad : true ≡ false = sym up ∙ ap (is_above_last before) (sym e) ∙ low in cc

begins_some : (device : Device) (e : Entry) (rest : List ℕ) → line_of device e ++ rest ≢ []
begins_some device e rest = λ none. let n = ap length none in let a = length-append (line_of device e) rest in let b = length-append (spaced (entry_words device e)) (10 ∷ []) in omega arith

pub refused_is_stuck : WordLaws → RefusedListIsStuck
refused_is_stuck k = record {
  malformed = λ device text number h. record { before = h.before; here = h.here; at = h.at; some = h.some; stop = full_or_none device h.before h.here h.stop };
  out_of_order = λ device text number h. record {
    before = h.before;
    here = line_of device h.entry ++ h.rest;
    at = h.at;
    some = begins_some device h.entry h.rest;
    stop = λ e more rest fits same.
        let f = follows device h.before e more fits in
        low_and_above h.before h.entry e h.low f.above (one_entry k device h.entry e h.rest rest h.formed f.formed same).0;
  };
}

-- each entry is one of the device's lists
all_of : (device : Device) (es : List Entry) → AreEntriesOf device es → All (λ e. is_entry_of device e ≡ true) es
all_of device es h = λ n d lt. and_from (is_entry (get_or es n d)) (fits_device device (get_or es n d)) (h.are.each n d lt) (h.fit n d lt)

texts_tell : WordLaws → (device : Device) (a b : List Entry) → All (λ e. is_entry_of device e ≡ true) a → All (λ e. is_entry_of device e ≡ true) b → text_of device a ≡ text_of device b → a ≡ b
texts_tell k device [] [] fa fb e = refl
texts_tell k device [] (y ∷ ys) fa fb e = absurd (begins_some device y (text_of device ys) (sym e))
texts_tell k device (x ∷ xs) [] fa fb e = absurd (begins_some device x (text_of device xs) e)
texts_tell k device (x ∷ xs) (y ∷ ys) fa fb e =
    let first = one_entry k device x y (text_of device xs) (text_of device ys) (fa 0 x (omega arith)) (fb 0 y (omega arith)) e in
    let rest = texts_tell k device xs ys (λ n d lt. fa (suc n) d (omega arith)) (λ n d lt. fb (suc n) d (omega arith)) first.1 in
    ap₂ (λ (z : Entry) (zs : List Entry). z ∷ zs) first.0 rest

pub one_text : WordLaws → ListsHaveOneText
one_text k device a b fa fb e = texts_tell k device a b (all_of device a fa) (all_of device b fb) e

-- ---- the call that reads

pub told : ReadListIsDue → (device : Device) (text : List ℕ) (r : Result (List Entry) AssumeText) → Answers (λ a. a) Memory r (entries_in device text) → IsListDueUnlessMemory device text r
told law device text (Ok a) e = subst (λ (d : Result (List Entry) AssumeText). IsListDue device text d) e (law device text)
told law device text (Err Memory) e = tt
told law device text (Err (Malformed n)) e = subst (λ (d : Result (List Entry) AssumeText). IsListDue device text d) (e (λ same. cc)) (law device text)
told law device text (Err (Order n)) e = subst (λ (d : Result (List Entry) AssumeText). IsListDue device text d) (e (λ same. cc)) (law device text)

pub due : DueIsRead → (device : Device) (text : List ℕ) (r due : Result (List Entry) AssumeText) → Answers (λ a. a) Memory r (entries_in device text) → IsListDue device text due → Answers (λ a. a) Memory r due
due law device text r d e h = subst (λ (x : Result (List Entry) AssumeText). Answers (λ a. a) Memory r x) (law device text d h) e
