-- Reading and spelling of entries are inverse.
use Rattle.std.proofs.Common.{◌≡◌, ◌<◌, ◌^◌, ℕ, List, [], ◌∷◌, Bool, true, refl, ap, sym, ◌∙◌, arith, Option, Some, None, cond, inl, inr, codes, option_map, ltb-true, ◌&&◌}
use Rattle.std.specs.List.{AllByRecursion, list_all}
use Rattle.std.proofs.lemmas.Bool.{and_parts}
use Rattle.std.proofs.lemmas.Bool.Decides.{nat_tests}
use Rattle.std.proofs.lemmas.Slice.Eq.{bytes_eq-Decides}
use Rattle.std.specs.Str.{bytes_eq}
use Rattle.std.specs.Prelude.{nat_le, length, decimal, ◌≤◌}
use Rattle.avr_model.specs.State.{SIZE}
use Rattle.basics.specs.Lists.{chosen, same_tail}
use Rattle.std.proofs.lemmas.Option.{same_Some, none-some}
use Rattle.line_reading.proofs.AllLaws.{map_some, bind_some, no_words}
use Rattle.avr_model.specs.declared.device.Device.{Device}
use Rattle.avr_model.specs.Devices.{limit_of, word_digits, depth_of}
use Rattle.avr_model.specs.Vectors.{is_protected}
use Rattle.avr_model.proofs.AllLaws.{devices_are_alike}
use Rattle.avr_model.specs.declared.assumption.Entry.{Entry}
use Rattle.avr_model.specs.declared.assumption.Entry.TheVariants.{Pairs, Masks, Jump, Store, Prove, Free, Never, Frame, Recur, Scratch}
use Rattle.text_base.specs.Digits.{hex_digits}
use Rattle.line_reading.specs.Reading.{◌>>=◌, hex_at, dec_at, is_over}
use Rattle.line_reading.specs.Words.{IsWord, WordLaws}
use Rattle.vector_table.specs.Entries.{is_entry, fits_device, is_word, is_word_of, is_io, ascends}
use Rattle.assumption_files.specs.Exact.{EntryWords}
use Rattle.assumption_files.specs.Reading.{word_address_at, numbers_in, listed_in, depth_in, alone_in, bare_in, alone_by, numbered_in, is_entry_of, admitted, entry_in}
use Rattle.assumption_files.specs.Spelling.{word_address_text, number_words, jump_words, store_words, entry_words}

-- ---- the numbers of an entry fit their digits

io_small : (a : ℕ) → is_io a ≡ true → a < 16 ^ 4
io_small a h = let small = ltb-true a 0x1005 h in omega (arith, small)

word_fits : (d : Device) (a : ℕ) → is_word_of d a ≡ true → a < 16 ^ word_digits d
word_fits d a h = let small = ltb-true a (limit_of d) h in let fits = devices_are_alike.in_digits d in omega (arith, small, fits)

-- numbers of at most so many digits
abbrev AreShort : ℕ → List ℕ → Type 0
AreShort digits ns = AllByRecursion (λ n. n < 16 ^ digits) ns

all_short : (digits : ℕ) (p : ℕ → Bool) → ((n : ℕ) → p n ≡ true → n < 16 ^ digits) → (ns : List ℕ) → list_all p ns ≡ true → AreShort digits ns
all_short digits p small [] h = tt
all_short digits p small (n ∷ ns) h = let b = and_parts (p n) (list_all p ns) h in (small n b.0, all_short digits p small ns b.1)

-- the site and the items
jump_short : (d : Device) (site : ℕ) (words : List ℕ) → is_entry_of d (Jump site words) ≡ true → (site < 16 ^ word_digits d) × AreShort (word_digits d) words
unfolding fits_device
jump_short d site words h =
    let fits = and_parts (is_word_of d site) (list_all (is_word_of d) words) (and_parts (is_entry (Jump site words)) (fits_device d (Jump site words)) h).1 in
    (word_fits d site fits.0, all_short (word_digits d) (is_word_of d) (word_fits d) words fits.1)

store_short : (d : Device) (site : ℕ) (addresses : List ℕ) → is_entry_of d (Store site addresses) ≡ true → (site < 16 ^ word_digits d) × AreShort 4 addresses
unfolding fits_device
store_short d site ns h =
    let parts = and_parts (is_entry (Store site ns)) (fits_device d (Store site ns)) h in
    let fits = and_parts (is_word_of d site) (list_all (is_protected d) ns) parts.1 in
    let site_and = and_parts (is_word site) (nat_le 1 (length ns) && nat_le (length ns) 64 && ascends ns && list_all is_io ns) parts.0 in
    let each = and_parts (nat_le 1 (length ns) && nat_le (length ns) 64 && ascends ns) (list_all is_io ns) site_and.1 in
    (word_fits d site fits.0, all_short 4 is_io io_small ns each.1)

site_short : (d : Device) (site : ℕ) → (is_word site && is_word_of d site) ≡ true → site < 16 ^ word_digits d
site_short d site h = word_fits d site (and_parts (is_word site) (is_word_of d site) h).1

recur_short : (d : Device) (word depth : ℕ) → is_entry_of d (Recur word depth) ≡ true → (word < 16 ^ word_digits d) × (depth ≤ SIZE)
unfolding fits_device
recur_short d word depth h =
    let parts = and_parts (is_entry (Recur word depth)) (fits_device d (Recur word depth)) h in
    let fits = and_parts (is_word_of d word) (nat_le depth (depth_of d)) parts.1 in
    let small = (and_parts (is_word word) (nat_le depth SIZE) parts.0).1 in
    (word_fits d word fits.0, grind (arith, nat_tests))

-- ---- numbers

numbers_taken : WordLaws → (digits : ℕ) (ns : List ℕ) → AreShort digits ns → numbers_in digits (number_words digits ns) ≡ Some ns
numbers_taken k digits [] h = refl
numbers_taken k digits (n ∷ ns) h = rw (k.hex_taken digits n (number_words digits ns) h.0, numbers_taken k digits ns h.1) refl

numbers_takes : WordLaws → (digits : ℕ) (ws : List (List ℕ)) (ns : List ℕ) → numbers_in digits ws ≡ Some ns → ws ≡ number_words digits ns
numbers_takes k digits [] ns e = ap (number_words digits) (same_Some [] ns e)
numbers_takes k digits (w ∷ ws) ns e =
    let n = bind_some (hex_at digits (w ∷ ws)) _ ns e in
    let rest = map_some (numbers_in digits ws) _ ns n.2 in
    let t = k.hex_takes digits n.0.0 (w ∷ ws) n.0.1 n.1 in
    let same = same_tail w (hex_digits n.0.0 digits) ws n.0.1 t.0 in
    t.0 ∙ ap (λ (v : List (List ℕ)). hex_digits n.0.0 digits ∷ v) (sym same ∙ numbers_takes k digits ws rest.0 rest.1) ∙ ap (number_words digits) rest.2

-- a site, and numbers of so many digits
abbrev listed_words : Device → ℕ → ℕ → List ℕ → List (List ℕ)
listed_words d digits site ns = word_address_text d site ∷ number_words digits ns

listed_taken : WordLaws → (d : Device) (digits site : ℕ) (ns : List ℕ) → site < 16 ^ word_digits d → AreShort digits ns → listed_in d digits (listed_words d digits site ns) ≡ Some (site, ns)
listed_taken k d digits site ns h each = rw (k.hex_taken (word_digits d) site (number_words digits ns) h, numbers_taken k digits ns each) refl

listed_takes : WordLaws → (d : Device) (digits : ℕ) (ws : List (List ℕ)) (l : ℕ × List ℕ) → listed_in d digits ws ≡ Some l → ws ≡ listed_words d digits l.0 l.1
listed_takes k d digits ws l e =
    let s = bind_some (word_address_at d ws) _ l e in
    let rest = map_some (numbers_in digits s.0.1) _ l s.2 in
    let t = k.hex_takes (word_digits d) s.0.0 ws s.0.1 s.1 in
    t.0 ∙ ap (λ (v : List (List ℕ)). word_address_text d s.0.0 ∷ v) (numbers_takes k digits s.0.1 rest.0 rest.1)
    ∙ ap (λ (x : ℕ × List ℕ). listed_words d digits x.0 x.1) rest.2

depth_taken : WordLaws → (d : Device) (word depth : ℕ) → word < 16 ^ word_digits d → depth ≤ SIZE → depth_in d (word_address_text d word ∷ decimal depth ∷ []) ≡ Some (word, depth)
depth_taken k d word depth h small = rw (k.hex_taken (word_digits d) word (decimal depth ∷ []) h, k.dec_taken SIZE depth [] (omega arith) small) refl

depth_takes : WordLaws → (d : Device) (ws : List (List ℕ)) (l : ℕ × ℕ) → depth_in d ws ≡ Some l → ws ≡ word_address_text d l.0 ∷ decimal l.1 ∷ []
depth_takes k d ws l e =
    let w = bind_some (word_address_at d ws) _ l e in
    let n = bind_some (dec_at SIZE w.0.1) _ l w.2 in
    let t = k.hex_takes (word_digits d) w.0.0 ws w.0.1 w.1 in
    let u = k.dec_takes SIZE n.0.0 w.0.1 n.0.1 (omega arith) n.1 in
    elim (chosen (is_over n.0.1) _ _ (Some l) n.2) [
      | inl h ↦
          t.0 ∙ ap (λ (v : List (List ℕ)). word_address_text d w.0.0 ∷ v) (u.0 ∙ ap (λ (v : List (List ℕ)). decimal n.0.0 ∷ v) (no_words n.0.1 h.0))
          ∙ ap (λ (x : ℕ × ℕ). word_address_text d x.0 ∷ decimal x.1 ∷ []) (same_Some (w.0.0, n.0.0) l h.1)
      | inr h ↦ absurd (none-some l h.1)
    ]

alone_taken : WordLaws → (d : Device) (site : ℕ) → site < 16 ^ word_digits d → alone_in d (word_address_text d site ∷ []) ≡ Some site
alone_taken k d site h = rw (k.hex_taken (word_digits d) site [] h) refl

alone_takes : WordLaws → (d : Device) (ws : List (List ℕ)) (site : ℕ) → alone_in d ws ≡ Some site → ws ≡ word_address_text d site ∷ []
alone_takes k d ws site e =
    let s = bind_some (word_address_at d ws) _ site e in
    let t = k.hex_takes (word_digits d) s.0.0 ws s.0.1 s.1 in
    elim (chosen (is_over s.0.1) _ _ (Some site) s.2) [
      | inl h ↦
          t.0 ∙ ap (λ (v : List (List ℕ)). word_address_text d s.0.0 ∷ v) (no_words s.0.1 h.0)
          ∙ ap (λ (n : ℕ). word_address_text d n ∷ []) (same_Some s.0.0 site h.1)
      | inr h ↦ absurd (none-some site h.1)
    ]

-- ---- entries

kind_is : (w : List ℕ) (ws vs : List (List ℕ)) (kind : List ℕ) → bytes_eq w kind ≡ true → ws ≡ vs → w ∷ ws ≡ kind ∷ vs
kind_is w ws vs kind e f = rw ((bytes_eq-Decides w kind).0 e, f) refl

-- the words of an entry of a kind with a site and nothing else
kind_takes : WordLaws → (d : Device) (kind : List ℕ) (make : ℕ → Entry) → ((site : ℕ) → entry_words d (make site) ≡ kind ∷ word_address_text d site ∷ []) → (w : List ℕ) (ws : List (List ℕ)) (e : Entry)
    → bytes_eq w kind ≡ true → option_map make (alone_in d ws) ≡ Some e → w ∷ ws ≡ entry_words d e
kind_takes k d kind make words w ws e is read =
    let s = map_some (alone_in d ws) make e read in
    kind_is w ws (word_address_text d s.0 ∷ []) kind is (alone_takes k d ws s.0 s.1) ∙ sym (words s.0) ∙ ap (entry_words d) s.2

-- the words of an entry that is one word
bare_takes : (d : Device) (kind : List ℕ) (entry : Entry) → entry_words d entry ≡ kind ∷ [] → (w : List ℕ) (ws : List (List ℕ)) (e : Entry)
    → bytes_eq w kind ≡ true → bare_in entry ws ≡ Some e → w ∷ ws ≡ entry_words d e
bare_takes d kind entry words w ws e is read = elim (chosen (is_over ws) _ _ (Some e) read) [
  | inl h ↦ kind_is w ws [] kind is (no_words ws h.0) ∙ sym words ∙ ap (entry_words d) (same_Some entry e h.1)
  | inr h ↦ absurd (none-some e h.1)
]

alone_by_takes : WordLaws → (d : Device) (w : List ℕ) (ws : List (List ℕ)) (e : Entry) → alone_by d w ws ≡ Some e → w ∷ ws ≡ entry_words d e
unfolding alone_by
alone_by_takes k d w ws e is = elim (chosen (bytes_eq w (codes "prove")) _ _ (Some e) is) [
  | inl h ↦ kind_takes k d (codes "prove") (λ s. Prove s) (λ s. refl) w ws e h.0 h.1
  | inr other ↦ elim (chosen (bytes_eq w (codes "free")) _ _ (Some e) other.1) [
    | inl h ↦ kind_takes k d (codes "free") (λ s. Free s) (λ s. refl) w ws e h.0 h.1
    | inr more ↦ elim (chosen (bytes_eq w (codes "never")) _ _ (Some e) more.1) [
      | inl h ↦ kind_takes k d (codes "never") (λ s. Never s) (λ s. refl) w ws e h.0 h.1
      | inr last ↦ elim (chosen (bytes_eq w (codes "frame")) _ _ (Some e) last.1) [
        | inl h ↦ kind_takes k d (codes "frame") (λ s. Frame s) (λ s. refl) w ws e h.0 h.1
        | inr none ↦ elim (chosen (bytes_eq w (codes "scratch")) _ _ (Some e) none.1) [
          | inl h ↦ kind_takes k d (codes "scratch") (λ s. Scratch s) (λ s. refl) w ws e h.0 h.1
          | inr left ↦ absurd (none-some e left.1)
        ]
      ]
    ]
  ]
]

numbered_takes : WordLaws → (d : Device) (ws : List (List ℕ)) (e : Entry) → numbered_in d ws ≡ Some e → ws ≡ entry_words d e
unfolding numbered_in
numbered_takes k d [] e is = absurd (none-some e is)
numbered_takes k d (w ∷ ws) e is = elim (chosen (bytes_eq w (codes "pairs")) _ _ (Some e) is) [
  | inl pairs ↦ bare_takes d (codes "pairs") Pairs refl w ws e pairs.0 pairs.1
  | inr next ↦ elim (chosen (bytes_eq w (codes "masks")) _ _ (Some e) next.1) [
    | inl masks ↦ bare_takes d (codes "masks") Masks refl w ws e masks.0 masks.1
    | inr more ↦ elim (chosen (bytes_eq w (codes "jump")) _ _ (Some e) more.1) [
      | inl jump ↦
          let l = map_some (listed_in d (word_digits d) ws) _ e jump.1 in
          kind_is w ws (jump_words d l.0.0 l.0.1) (codes "jump") jump.0 (listed_takes k d (word_digits d) ws l.0 l.1) ∙ ap (entry_words d) l.2
      | inr other ↦ elim (chosen (bytes_eq w (codes "store")) _ _ (Some e) other.1) [
        | inl store ↦
            let l = map_some (listed_in d 4 ws) _ e store.1 in
            kind_is w ws (store_words d l.0.0 l.0.1) (codes "store") store.0 (listed_takes k d 4 ws l.0 l.1) ∙ ap (entry_words d) l.2
        | inr neither ↦ elim (chosen (bytes_eq w (codes "recur")) _ _ (Some e) neither.1) [
          | inl recur ↦
              let l = map_some (depth_in d ws) _ e recur.1 in
              kind_is w ws (word_address_text d l.0.0 ∷ decimal l.0.1 ∷ []) (codes "recur") recur.0 (depth_takes k d ws l.0 l.1) ∙ ap (entry_words d) l.2
          | inr alone ↦ alone_by_takes k d w ws e alone.1
        ]
      ]
    ]
  ]
]

pub numbered_taken : WordLaws → (d : Device) (e : Entry) → is_entry_of d e ≡ true → numbered_in d (entry_words d e) ≡ Some e
unfolding numbered_in alone_by fits_device
numbered_taken k d Pairs h = refl
numbered_taken k d Masks h = refl
numbered_taken k d (Jump site words) h = let s = jump_short d site words h in ap (option_map (λ l. Jump l.0 l.1)) (listed_taken k d (word_digits d) site words s.0 s.1)
numbered_taken k d (Store site addresses) h = let s = store_short d site addresses h in ap (option_map (λ l. Store l.0 l.1)) (listed_taken k d 4 site addresses s.0 s.1)
numbered_taken k d (Prove site) h = ap (option_map (λ s. Prove s)) (alone_taken k d site (site_short d site h))
numbered_taken k d (Free site) h = ap (option_map (λ s. Free s)) (alone_taken k d site (site_short d site h))
numbered_taken k d (Never site) h = ap (option_map (λ s. Never s)) (alone_taken k d site (site_short d site h))
numbered_taken k d (Frame site) h = ap (option_map (λ s. Frame s)) (alone_taken k d site (site_short d site h))
numbered_taken k d (Recur word depth) h = let s = recur_short d word depth h in ap (option_map (λ l. Recur l.0 l.1)) (depth_taken k d word depth s.0 s.1)
numbered_taken k d (Scratch site) h = ap (option_map (λ s. Scratch s)) (alone_taken k d site (site_short d site h))

entry_taken : WordLaws → (device : Device) (e : Entry) → is_entry_of device e ≡ true → entry_in device (entry_words device e) ≡ Some e
unfolding entry_in
entry_taken k device e h =
    ap (λ (o : Option Entry). o >>= admitted device) (numbered_taken k device e h) ∙ ap (λ (b : Bool). cond b (Some e) None) h

entry_takes : WordLaws → (device : Device) (ws : List (List ℕ)) (e : Entry) → entry_in device ws ≡ Some e → (ws ≡ entry_words device e) × (is_entry_of device e ≡ true)
unfolding entry_in
entry_takes k device ws e is =
    let n = bind_some (numbered_in device ws) (admitted device) e is in
    elim (chosen (is_entry_of device n.0) _ _ (Some e) n.2) [
      | inl h ↦
          let same = same_Some n.0 e h.1 in
          (numbered_takes k device ws n.0 n.1 ∙ ap (entry_words device) same, ap (is_entry_of device) (sym same) ∙ h.0)
      | inr h ↦ absurd (none-some e h.1)
    ]

pub entry_laws : WordLaws → EntryWords
entry_laws k = record { read = entry_taken k; spelled = entry_takes k }

-- ---- words without spaces and line feeds

are_words : WordLaws → (digits : ℕ) (ns : List ℕ) → AreShort digits ns → AllByRecursion IsWord (number_words digits ns)
are_words k digits [] h = tt
are_words k digits (n ∷ ns) h = (k.hex_word n digits h.0, are_words k digits ns h.1)

is_site : WordLaws → (d : Device) (site : ℕ) → site < 16 ^ word_digits d → IsWord (word_address_text d site)
is_site k d site h = k.hex_word site (word_digits d) h

pub entry_is_words : WordLaws → (d : Device) (e : Entry) → is_entry_of d e ≡ true → AllByRecursion IsWord (entry_words d e)
unfolding fits_device
entry_is_words k d Pairs h = (((refl, (refl, (refl, (refl, (refl, tt))))), (refl, (refl, (refl, (refl, (refl, tt)))))), tt)
entry_is_words k d Masks h = (((refl, (refl, (refl, (refl, (refl, tt))))), (refl, (refl, (refl, (refl, (refl, tt)))))), tt)
entry_is_words k d (Jump site words) h = let s = jump_short d site words h in (((refl, (refl, (refl, (refl, tt)))), (refl, (refl, (refl, (refl, tt))))), (is_site k d site s.0, are_words k (word_digits d) words s.1))
entry_is_words k d (Store site addresses) h =
    let s = store_short d site addresses h in
    (((refl, (refl, (refl, (refl, (refl, tt))))), (refl, (refl, (refl, (refl, (refl, tt)))))), (is_site k d site s.0, are_words k 4 addresses s.1))
entry_is_words k d (Prove site) h =
    (((refl, (refl, (refl, (refl, (refl, tt))))), (refl, (refl, (refl, (refl, (refl, tt)))))), (is_site k d site (site_short d site h), tt))
entry_is_words k d (Free site) h = (((refl, (refl, (refl, (refl, tt)))), (refl, (refl, (refl, (refl, tt))))), (is_site k d site (site_short d site h), tt))
entry_is_words k d (Never site) h =
    (((refl, (refl, (refl, (refl, (refl, tt))))), (refl, (refl, (refl, (refl, (refl, tt)))))), (is_site k d site (site_short d site h), tt))
entry_is_words k d (Frame site) h =
    (((refl, (refl, (refl, (refl, (refl, tt))))), (refl, (refl, (refl, (refl, (refl, tt)))))), (is_site k d site (site_short d site h), tt))
entry_is_words k d (Recur word depth) h =
    let s = recur_short d word depth h in
    (((refl, (refl, (refl, (refl, (refl, tt))))), (refl, (refl, (refl, (refl, (refl, tt)))))), (is_site k d word s.0, (k.dec_word depth (omega (arith, s.1)), tt)))
entry_is_words k d (Scratch site) h =
    (((refl, (refl, (refl, (refl, (refl, (refl, (refl, tt))))))), (refl, (refl, (refl, (refl, (refl, (refl, (refl, tt)))))))), (is_site k d site (site_short d site h), tt))
