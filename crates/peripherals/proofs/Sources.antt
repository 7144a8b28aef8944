-- Reading and spelling of sources are inverse.
use Rattle.std.proofs.Common.{ℕ, ◌+◌, ◌-◌, ◌^◌, ◌≤◌, ◌<◌, ◌≡◌, ◌&&◌, List, [], ◌∷◌, ◌++◌, true, false, refl, ap, sym, ◌∙◌, arith, Option, Some, None, Result, Ok, Err, inl, inr, cond, codes, nat_le, map, length, lit<, subst, option_map}
use Rattle.std.proofs.lemmas.Bool.Decides.{nat_tests}
use Rattle.std.proofs.lemmas.Slice.Eq.{bytes_eq-Decides}
use Rattle.std.specs.List.{AllByRecursion}
use Rattle.std.specs.Fmt.{decimal}
use Rattle.std.specs.Str.{bytes_eq}
use Rattle.basics.specs.Lists.{chosen, nil_not_cons, same_head_and_tail}
use Rattle.std.proofs.lemmas.Option.{same_Some as some_is, none-some}
use Rattle.std.proofs.lemmas.Bool.{and_parts}
use Rattle.witness_replay.proofs.Runs.{map_none}
use Rattle.avr_model.specs.declared.device.Device.{Device}
use Rattle.avr_model.specs.Vectors.{last_vector}
use Rattle.avr_model.proofs.AllLaws.{devices_are_alike}
use Rattle.text_base.specs.Digits.{hex_digits}
use Rattle.text_base.specs.Lines.{TextLine, Position, size_of, words_of, spaced}
use Rattle.line_reading.specs.Reading.{hex_at, dec_at, is_over, first_by}
use Rattle.line_reading.specs.Words.{IsWord, whole, Passes, WordLaws}
use Rattle.peripherals.specs.declared.reading.Times.{Times}
use Rattle.peripherals.specs.declared.peripherals.SourceKind.{SourceKind}
use Rattle.peripherals.specs.declared.peripherals.SourceKind.TheVariants.{Timer, Bytes}
use Rattle.peripherals.specs.declared.peripherals.Source.{Source}
use Rattle.peripherals.specs.Spelling.{most_bytes, most_steps, IsSource, source_words, ending}
use Rattle.peripherals.specs.Reading.{times_at, bytes_in, source_of, timer_in, receiver_by, receiver_in, source_in, source_by, part_by, with_front, with_part, sources_from}
use Rattle.line_reading.proofs.AllLaws.{ok_is, err_ok, err_is, bind_some, no_words, first_some, passes_none, passes_one, passes_more, passes_tail, passes_end}

-- the lines of sources
abbrev pub source_lines : List Source → List (List (List ℕ))
source_lines ss = map source_words ss ++ ending ∷ []

module _ (device : Device) where
  -- ---- the words of a source

  record IsTimes (t : Times) : Type 0 where
    pub vector_from : 2 ≤ t.vector
    pub vector_to : t.vector ≤ last_vector device
    pub first : t.first ≤ most_steps
    pub period_from : 1 ≤ t.period
    pub period_to : t.period ≤ most_steps

  abbrev times_words : Times → List (List ℕ) → List (List ℕ)
  times_words t rest = decimal t.vector ∷ decimal t.first ∷ decimal t.period ∷ rest

  record IsTimesRead (ws : List (List ℕ)) (t : Times) (rest : List (List ℕ)) : Type 0 where
    pub words : ws ≡ times_words t rest
    pub fit : IsTimes t

  times_end : (v f p : ℕ) (ws : List (List ℕ)) (y : Times × List (List ℕ)) → cond (nat_le 2 v && nat_le 1 p) (Some (record { vector = v; first = f; period = p }, ws)) None ≡ Some y
      → (2 ≤ v) × (1 ≤ p) × ((record { vector = v; first = f; period = p }, ws) ≡ y)
  times_end v f p ws y e = elim (chosen (nat_le 2 v && nat_le 1 p) _ _ (Some y) e) [
    | inl h ↦ let t = and_parts (nat_le 2 v) (nat_le 1 p) h.0 in (grind (arith, nat_tests, t.0), grind (arith, nat_tests, t.1), some_is {A = Times × List (List ℕ)} (record { vector = v; first = f; period = p }, ws) y h.1)
    | inr h ↦ absurd (none-some y h.1)
  ]

  few : last_vector device < 2 ^ 64
  few = let most = devices_are_alike.most_vectors device in omega (arith, most)

  small_vector : (v : ℕ) → v ≤ last_vector device → v < 2 ^ 64
  small_vector v le = let most = devices_are_alike.most_vectors device in omega (arith, most, le)

  times_takes : WordLaws → (ws : List (List ℕ)) (y : Times × List (List ℕ)) → times_at device ws ≡ Some y → IsTimesRead ws y.0 y.1
  unfolding times_at
  times_takes k ws y e =
      let v = bind_some (dec_at (last_vector device) ws) _ y e in
      let f = bind_some (dec_at most_steps v.0.1) _ y v.2 in
      let p = bind_some (dec_at most_steps f.0.1) _ y f.2 in
      let last = times_end v.0.0 f.0.0 p.0.0 p.0.1 y p.2 in
      let dv = k.dec_takes (last_vector device) v.0.0 ws v.0.1 few v.1 in
      let df = k.dec_takes most_steps f.0.0 v.0.1 f.0.1 (lit< tt) f.1 in
      let dp = k.dec_takes most_steps p.0.0 f.0.1 p.0.1 (lit< tt) p.1 in
      let P : Times × List (List ℕ) → Type 0 = λ z. IsTimesRead ws z.0 z.1 in
      subst P last.2 (record {
        words = dv.0 ∙ ap (λ x. decimal v.0.0 ∷ x) (df.0 ∙ ap (λ x. decimal f.0.0 ∷ x) dp.0);
        fit = record { vector_from = last.0; vector_to = dv.1; first = df.1; period_from = last.1; period_to = dp.1 };
      })

  times_again : WordLaws → (t : Times) (rest : List (List ℕ)) → IsTimes t → times_at device (times_words t rest) ≡ Some (t, rest)
  unfolding times_at
  times_again k t rest h =
      let dv = k.dec_taken (last_vector device) t.vector (decimal t.first ∷ decimal t.period ∷ rest) few h.vector_to in
      let df = k.dec_taken most_steps t.first (decimal t.period ∷ rest) (lit< tt) h.first in
      let dp = k.dec_taken most_steps t.period rest (lit< tt) h.period_to in
      let low : nat_le 2 t.vector ≡ true = grind (arith, nat_tests, h.vector_from) in
      let some : nat_le 1 t.period ≡ true = grind (arith, nat_tests, h.period_from) in
      rw (dv, df, dp, low, some) refl

  -- ---- bytes

  abbrev bytes_words : List ℕ → List (List ℕ)
  bytes_words bs = map (λ b. hex_digits b 2) bs

  mapped : {A B : Type 0} (f : A → B) (o : Option A) (y : B) → option_map f o ≡ Some y → (x : A) × (o ≡ Some x) × (f x ≡ y)
  mapped f (Some x) y e = (x, refl, some_is (f x) y e)
  mapped f None y e = absurd (none-some y e)

  record AreBytesRead (ws : List (List ℕ)) (bs : List ℕ) : Type 0 where
    pub words : ws ≡ bytes_words bs
    pub small : AllByRecursion (λ b. b < 256) bs

  bytes_take : WordLaws → (ws : List (List ℕ)) (bs : List ℕ) → bytes_in ws ≡ Some bs → AreBytesRead ws bs
  bytes_take k [] bs e = let P : List ℕ → Type 0 = λ x. AreBytesRead [] x in subst P (some_is [] bs e) (record { words = refl; small = tt })
  bytes_take k (w ∷ ws) bs e =
      let b = bind_some (hex_at 2 (w ∷ ws)) _ bs e in
      let m = mapped (λ xs. b.0.0 ∷ xs) (bytes_in ws) bs b.2 in
      let t = k.hex_takes 2 b.0.0 (w ∷ ws) b.0.1 b.1 in
      let c = same_head_and_tail w (hex_digits b.0.0 2) ws b.0.1 t.0 in
      let more = bytes_take k ws m.0 m.1 in
      let P : List ℕ → Type 0 = λ x. AreBytesRead (w ∷ ws) x in
      subst P m.2 (record { words = ap (λ x. x ∷ ws) c.0 ∙ ap (λ x. hex_digits b.0.0 2 ∷ x) more.words; small = (omega (arith, t.1), more.small) })

  bytes_again : WordLaws → (bs : List ℕ) → AllByRecursion (λ b. b < 256) bs → bytes_in (bytes_words bs) ≡ Some bs
  bytes_again k [] h = refl
  bytes_again k (b ∷ bs) h =
      let t = k.hex_taken 2 b (bytes_words bs) (omega (arith, h.0)) in
      let more = bytes_again k bs h.1 in
      rw (t, more) refl

  bytes_are_words : WordLaws → (bs : List ℕ) → AllByRecursion (λ b. b < 256) bs → AllByRecursion IsWord (bytes_words bs)
  bytes_are_words k [] h = tt
  bytes_are_words k (b ∷ bs) h = (k.hex_word b 2 (omega (arith, h.0)), bytes_are_words k bs h.1)

  -- ---- sources

  record IsSourceRead (ws : List (List ℕ)) (s : Source) : Type 0 where
    pub words : ws ≡ source_words s
    pub fits : IsSource device s

  fits_timer : (t : Times) → IsTimes t → IsSource device (source_of t Timer)
  fits_timer t h = record { vector_from = h.vector_from; vector_to = h.vector_to; first = h.first; period_from = h.period_from; period_to = h.period_to; kind = tt }

  timer_takes : WordLaws → (ws : List (List ℕ)) (s : Source) → timer_in device ws ≡ Some s → IsSourceRead (codes "timer" ∷ ws) s
  timer_takes k ws s e =
      let t = bind_some (times_at device ws) _ s e in
      let read = times_takes k ws t.0 t.1 in
      elim (chosen (is_over t.0.1) _ _ (Some s) t.2) [
        | inl h ↦
            let P : Source → Type 0 = λ x. IsSourceRead (codes "timer" ∷ ws) x in
            subst P (some_is (source_of t.0.0 Timer) s h.1) (record {
              words = ap (λ x. codes "timer" ∷ x) (read.words ∙ ap (times_words t.0.0) (no_words t.0.1 h.0));
              fits = fits_timer t.0.0 read.fit;
            })
        | inr h ↦ absurd (none-some s h.1)
      ]

  receiver_end : (t : Times) (bs : List ℕ) (s : Source) → receiver_by t bs ≡ Some s → (1 ≤ length bs) × (length bs ≤ most_bytes) × (source_of t (Bytes bs) ≡ s)
  receiver_end t bs s e = elim (chosen (nat_le 1 (length bs) && nat_le (length bs) most_bytes) _ _ (Some s) e) [
    | inl h ↦
        let b = and_parts (nat_le 1 (length bs)) (nat_le (length bs) most_bytes) h.0 in
        (grind (arith, nat_tests, b.0), grind (arith, nat_tests, b.1), some_is (source_of t (Bytes bs)) s h.1)
    | inr h ↦ absurd (none-some s h.1)
  ]

  receiver_takes : WordLaws → (ws : List (List ℕ)) (s : Source) → receiver_in device ws ≡ Some s → IsSourceRead (codes "bytes" ∷ ws) s
  receiver_takes k ws s e =
      let t = bind_some (times_at device ws) _ s e in
      let read = times_takes k ws t.0 t.1 in
      let b = bind_some (bytes_in t.0.1) (receiver_by t.0.0) s t.2 in
      let bytes = bytes_take k t.0.1 b.0 b.1 in
      let last = receiver_end t.0.0 b.0 s b.2 in
      let P : Source → Type 0 = λ x. IsSourceRead (codes "bytes" ∷ ws) x in
      subst P last.2 (record {
        words = ap (λ x. codes "bytes" ∷ x) (read.words ∙ ap (times_words t.0.0) bytes.words);
        fits = record { vector_from = read.fit.vector_from; vector_to = read.fit.vector_to; first = read.fit.first; period_from = read.fit.period_from; period_to = read.fit.period_to; kind = (last.0, last.1, bytes.small) };
      })

  headed : (w v : List ℕ) (ws : List (List ℕ)) (s : Source) → w ≡ v → IsSourceRead (v ∷ ws) s → IsSourceRead (w ∷ ws) s
  headed w v ws s e h = record { words = ap (λ x. x ∷ ws) e ∙ h.words; fits = h.fits }

  source_takes : WordLaws → (ws : List (List ℕ)) (s : Source) → source_in device ws ≡ Some s → IsSourceRead ws s
  unfolding source_in
  source_takes k [] s e = absurd (none-some s e)
  source_takes k (w ∷ ws) s e = elim (chosen (bytes_eq w (codes "timer")) _ _ (Some s) e) [
    | inl h ↦ headed w (codes "timer") ws s ((bytes_eq-Decides w (codes "timer")).0 h.0) (timer_takes k ws s h.1)
    | inr h ↦ elim (chosen (bytes_eq w (codes "bytes")) _ _ (Some s) h.1) [
      | inl g ↦ headed w (codes "bytes") ws s ((bytes_eq-Decides w (codes "bytes")).0 g.0) (receiver_takes k ws s g.1)
      | inr g ↦ absurd (none-some s g.1)
    ]
  ]

  times_fit : (t : Times) (kind : SourceKind) → IsSource device (source_of t kind) → IsTimes t
  times_fit t kind h = record { vector_from = h.vector_from; vector_to = h.vector_to; first = h.first; period_from = h.period_from; period_to = h.period_to }

  kind_again : WordLaws → (t : Times) (kind : SourceKind) → IsSource device (source_of t kind) → source_in device (source_words (source_of t kind)) ≡ Some (source_of t kind)
  unfolding source_in
  kind_again k t Timer h = let times = times_again k t [] (times_fit t Timer h) in rw times refl
  kind_again k t (Bytes bs) h =
      let times = times_again k t (bytes_words bs) (times_fit t (Bytes bs) h) in
      let bytes = bytes_again k bs h.kind.2 in
      let some : nat_le 1 (length bs) ≡ true = grind (arith, nat_tests, h.kind.0) in
      let few : nat_le (length bs) most_bytes ≡ true = grind (arith, nat_tests, h.kind.1) in
      rw (times, bytes, some, few) refl

  pub source_again : WordLaws → (s : Source) → IsSource device s → source_in device (source_words s) ≡ Some s
  source_again k s h = kind_again k (record { vector = s.vector; first = s.first; period = s.period }) s.kind h

  kind_words : WordLaws → (t : Times) (kind : SourceKind) → IsSource device (source_of t kind) → AllByRecursion IsWord (source_words (source_of t kind))
  kind_words k t Timer h = (
    ((refl, (refl, (refl, (refl, (refl, tt))))), (refl, (refl, (refl, (refl, (refl, tt)))))),
    (k.dec_word t.vector (small_vector t.vector h.vector_to), (k.dec_word t.first (omega (arith, h.first)), (k.dec_word t.period (omega (arith, h.period_to)), tt))),
  )
  kind_words k t (Bytes bs) h = (
    ((refl, (refl, (refl, (refl, (refl, tt))))), (refl, (refl, (refl, (refl, (refl, tt)))))),
    (k.dec_word t.vector (small_vector t.vector h.vector_to), (k.dec_word t.first (omega (arith, h.first)), (k.dec_word t.period (omega (arith, h.period_to)), bytes_are_words k bs h.kind.2))),
  )

  pub are_words : WordLaws → (s : Source) → IsSource device s → AllByRecursion IsWord (source_words s)
  are_words k s h = kind_words k (record { vector = s.vector; first = s.first; period = s.period }) s.kind h

  -- ---- a line behind the fill byte

  pub record IsSourceLine (left : ℕ) (text : List ℕ) (s : Source) : Type 0 where
    pub line : text ≡ spaced (source_words s)
    pub fits : IsSource device s
    pub room : 1 ≤ left

  pub part_source : WordLaws → (left : ℕ) (text : List ℕ) (s : Source) → part_by device left text ≡ Some (Some s) → IsSourceLine left text s
  unfolding part_by
  part_source k left text s e = elim (chosen (bytes_eq text (codes "end")) _ _ (Some (Some s)) e) [
    | inl g ↦ absurd (none-some s (some_is None (Some s) g.1))
    | inr g ↦
        let m = mapped Some (source_by device left text) (Some s) g.1 in
        elim (chosen (nat_le 1 left) _ _ (Some m.0) m.1) [
          | inl h ↦
              let t = source_takes k (words_of text) m.0 h.1 in
              let P : Source → Type 0 = λ x. IsSourceLine left text x in
              subst P (some_is m.0 s m.2) (record { line = sym (k.line_words text) ∙ ap spaced t.words; fits = t.fits; room = grind (arith, nat_tests, h.0) })
          | inr h ↦ absurd (none-some m.0 h.1)
        ]
  ]

  pub part_end : (left : ℕ) (text : List ℕ) → part_by device left text ≡ Some None → text ≡ codes "end"
  unfolding part_by
  part_end left text e = elim (chosen (bytes_eq text (codes "end")) _ _ (Some None) e) [
    | inl g ↦ (bytes_eq-Decides text (codes "end")).0 g.0
    | inr g ↦ absurd (map_none (source_by device left text) g.1)
  ]

  -- no source's line is the last one
  not_last : (kind : SourceKind) (rest : List (List ℕ)) (s : Source) → s.kind ≡ kind → bytes_eq (spaced (source_words s)) (codes "end") ≡ false
  not_last Timer rest s e = rw e refl
  not_last (Bytes bs) rest s e = rw e refl

  words_again : WordLaws → (s : Source) → IsSource device s → source_in device (words_of (spaced (source_words s))) ≡ Some s
  words_again k s h = ap (source_in device) (k.words_stand _ _ (are_words k s h)) ∙ source_again k s h

  pub part_again : WordLaws → (left : ℕ) (s : Source) → IsSource device s → 1 ≤ left → part_by device left (spaced (source_words s)) ≡ Some (Some s)
  unfolding part_by
  part_again k left s h room =
      let read = words_again k s h in
      let some : nat_le 1 left ≡ true = grind (arith, nat_tests, room) in
      rw (not_last s.kind [] s refl, some, read) refl

  pub end_again : (left : ℕ) → part_by device left (codes "end") ≡ Some None
  unfolding part_by
  end_again left = refl

  -- ---- the lines up to the last

  pub record SourcesRead (left at : ℕ) (ls : List TextLine) (ss : List Source) (q : Position) : Type 0 where
    pub fit : AllByRecursion (IsSource device) ss
    pub room : length ss ≤ left
    pub passes : Passes (record { at = at; rest = ls }) (map whole (source_lines ss)) q

  front_ok : (s : Source) (d : Result (List Source × Position) Position) (ss : List Source) (q : Position) → with_front (s ∷ []) d ≡ Ok (ss, q) → (ts : List Source) × (d ≡ Ok (ts, q)) × (s ∷ ts ≡ ss)
  front_ok s (Ok x) ss q e =
      let p : ◌≡◌ {A = List Source × Position} (s ∷ x.0, x.1) (ss, q) = ok_is {A = List Source × Position} (s ∷ x.0, x.1) (ss, q) e in
      (x.0, ap (λ (z : List Source × Position). Ok (x.0, z.1)) p, ap (λ (z : List Source × Position). z.0) p)
  front_ok s (Err at) ss q e = absurd (err_ok {A = List Source × Position} at (ss, q) e)

  one_take : WordLaws → (left at : ℕ) (l : TextLine) (ls : List TextLine) (ss : List Source) (q : Position) (d : Option (Option Source)) → first_by (part_by device left) (l ∷ ls) ≡ d
      → ((ts : List Source) → sources_from device (left - 1) (at + size_of l) ls ≡ Ok (ts, q) → SourcesRead (left - 1) (at + size_of l) ls ts q)
      → with_part d (record { at = at; rest = l ∷ ls }) (record { at = at + size_of l; rest = ls }) (λ s. sources_from device (left - 1) (at + size_of l) ls) ≡ Ok (ss, q)
      → SourcesRead left at (l ∷ ls) ss q
  one_take k left at l ls ss q None is f e = absurd (err_ok {A = List Source × Position} (record { at = at; rest = l ∷ ls }) (ss, q) e)
  one_take k left at l ls ss q (Some None) is f e =
      let pair = ok_is {A = List Source × Position} ([], record { at = at + size_of l; rest = ls }) (ss, q) e in
      let here = first_some (part_by device left) l ls None is in
      let last : l ≡ whole ending = here.0 ∙ ap (λ (t : List ℕ). record { text = t; whole = true }) (part_end left l.text here.1) in
      let P : List Source × Position → Type 0 = λ z. SourcesRead left at (l ∷ ls) z.0 z.1 in
      subst P pair (record { fit = tt; room = omega arith; passes = passes_one at l (whole ending) ls last })
  one_take k left at l ls ss q (Some (Some s)) is f e =
      let front = front_ok s (sources_from device (left - 1) (at + size_of l) ls) ss q e in
      let here = first_some (part_by device left) l ls (Some s) is in
      let one = part_source k left l.text s here.1 in
      let line : l ≡ whole (source_words s) = here.0 ∙ ap (λ (t : List ℕ). record { text = t; whole = true }) one.line in
      let more = f front.0 front.1 in
      let P : List Source → Type 0 = λ xs. SourcesRead left at (l ∷ ls) xs q in
      subst P front.2 (record {
        fit = (one.fits, more.fit);
        room = omega (arith, more.room, one.room);
        passes = passes_more (record { at = at; rest = l ∷ ls }) (record { at = at + size_of l; rest = ls }) q (whole (source_words s) ∷ []) (map whole (source_lines front.0)) (passes_one at l (whole (source_words s)) ls line) more.passes;
      })

  -- lines that are read as sources are their lines
  pub sources_take : WordLaws → (left at : ℕ) (ls : List TextLine) (ss : List Source) (q : Position) → sources_from device left at ls ≡ Ok (ss, q) → SourcesRead left at ls ss q
  unfolding sources_from
  sources_take k left at [] ss q e = absurd (err_ok {A = List Source × Position} (record { at = at; rest = [] }) (ss, q) e)
  sources_take k left at (l ∷ ls) ss q e =
      one_take k left at l ls ss q (first_by (part_by device left) (l ∷ ls)) refl (λ ts h. sources_take k (left - 1) (at + size_of l) ls ts q h) e

  -- ---- a refusal

  -- the next line is neither that of a source with a line left for it, nor the last one
  abbrev pub NoSource : ℕ → List TextLine → Type 0
  NoSource left [] = Unit {0}
  NoSource left (l ∷ ls) = ((s : Source) → IsSource device s → 1 ≤ left → l ≡ whole (source_words s) → ⊥) × (l ≡ whole ending → ⊥)

  pub record SourcesStuck (left at : ℕ) (ls : List TextLine) (q : Position) : Type 0 where
    pub sources : List Source
    pub fit : AllByRecursion (IsSource device) sources
    pub room : length sources ≤ left
    pub passes : Passes (record { at = at; rest = ls }) (map whole (map source_words sources)) q
    pub stop : NoSource (left - length sources) q.rest

  none_come : WordLaws → (left : ℕ) (l : TextLine) (ls : List TextLine) → first_by (part_by device left) (l ∷ ls) ≡ None → NoSource (left - 0) (l ∷ ls)
  none_come k left l ls e = (
    λ s fits room is. none-some (Some s) (sym e ∙ ap (λ (x : TextLine). first_by (part_by device left) (x ∷ ls)) is ∙ part_again k left s fits (omega (arith, room))),
    λ is. none-some None (sym e ∙ ap (λ (x : TextLine). first_by (part_by device left) (x ∷ ls)) is ∙ end_again left),
  )

  front_err : (s : Source) (d : Result (List Source × Position) Position) (q : Position) → with_front (s ∷ []) d ≡ Err q → d ≡ Err q
  front_err s (Ok y) q e = absurd (err_ok {A = List Source × Position} q (s ∷ y.0, y.1) (sym e))
  front_err s (Err at) q e = e

  one_stuck : WordLaws → (left at : ℕ) (l : TextLine) (ls : List TextLine) (q : Position) (d : Option (Option Source)) → first_by (part_by device left) (l ∷ ls) ≡ d
      → (sources_from device (left - 1) (at + size_of l) ls ≡ Err q → SourcesStuck (left - 1) (at + size_of l) ls q)
      → with_part d (record { at = at; rest = l ∷ ls }) (record { at = at + size_of l; rest = ls }) (λ s. sources_from device (left - 1) (at + size_of l) ls) ≡ Err q
      → SourcesStuck left at (l ∷ ls) q
  one_stuck k left at l ls q None is f e =
      let same = err_is {A = List Source × Position} (record { at = at; rest = l ∷ ls }) q e in
      let P : Position → Type 0 = λ z. SourcesStuck left at (l ∷ ls) z in
      subst P same (record { sources = []; fit = tt; room = omega arith; passes = passes_none (record { at = at; rest = l ∷ ls }); stop = none_come k left l ls is })
  one_stuck k left at l ls q (Some None) is f e = absurd (err_ok {A = List Source × Position} q ([], record { at = at + size_of l; rest = ls }) (sym e))
  one_stuck k left at l ls q (Some (Some s)) is f e =
      let stuck = f (front_err s (sources_from device (left - 1) (at + size_of l) ls) q e) in
      let here = first_some (part_by device left) l ls (Some s) is in
      let one = part_source k left l.text s here.1 in
      let line : l ≡ whole (source_words s) = here.0 ∙ ap (λ (t : List ℕ). record { text = t; whole = true }) one.line in
      let less : left - 1 - length stuck.sources ≡ left - length (s ∷ stuck.sources) = omega arith in
      record {
        sources = s ∷ stuck.sources;
        fit = (one.fits, stuck.fit);
        room = omega (arith, stuck.room, one.room);
        passes = passes_more (record { at = at; rest = l ∷ ls }) (record { at = at + size_of l; rest = ls }) q (whole (source_words s) ∷ []) (map whole (map source_words stuck.sources)) (passes_one at l (whole (source_words s)) ls line) stuck.passes;
        stop = let P : ℕ → Type 0 = λ n. NoSource n q.rest in subst P less stuck.stop;
      }

  -- if sources are refused, neither a source nor the end may follow
  pub sources_stuck : WordLaws → (left at : ℕ) (ls : List TextLine) (q : Position) → sources_from device left at ls ≡ Err q → SourcesStuck left at ls q
  unfolding sources_from
  sources_stuck k left at [] q e =
      let same = err_is {A = List Source × Position} (record { at = at; rest = [] }) q e in
      let P : Position → Type 0 = λ z. SourcesStuck left at [] z in
      subst P same (record { sources = []; fit = tt; room = omega arith; passes = passes_none (record { at = at; rest = [] }); stop = tt })
  sources_stuck k left at (l ∷ ls) q e =
      one_stuck k left at l ls q (first_by (part_by device left) (l ∷ ls)) refl (λ h. sources_stuck k (left - 1) (at + size_of l) ls q h) e

  -- ---- what is spelled is read

  pub sources_again : WordLaws → (left at : ℕ) (ls : List TextLine) (ss : List Source) (q : Position) → AllByRecursion (IsSource device) ss → length ss ≤ left
      → Passes (record { at = at; rest = ls }) (map whole (source_lines ss)) q → sources_from device left at ls ≡ Ok (ss, q)
  unfolding sources_from
  sources_again k left at [] [] q fit room h = absurd (nil_not_cons (whole ending) q.rest h.lines)
  sources_again k left at [] (s ∷ ss) q fit room h = absurd (nil_not_cons (whole (source_words s)) (map whole (source_lines ss) ++ q.rest) h.lines)
  sources_again k left at (l ∷ ls) [] q fit room h =
      let t = passes_tail at l (whole ending) ls [] q h in
      let read : first_by (part_by device left) (l ∷ ls) ≡ Some None = ap (λ (x : TextLine). first_by (part_by device left) (x ∷ ls)) t.0 ∙ end_again left in
      ap (λ (d : Option (Option Source)). with_part d (record { at = at; rest = l ∷ ls }) (record { at = at + size_of l; rest = ls }) (λ s. sources_from device (left - 1) (at + size_of l) ls)) read
      ∙ ap (λ (z : Position). Ok ([], z)) (passes_end (record { at = at + size_of l; rest = ls }) q t.1)
  sources_again k left at (l ∷ ls) (s ∷ ss) q fit room h =
      let t = passes_tail at l (whole (source_words s)) ls (map whole (source_lines ss)) q h in
      let read : first_by (part_by device left) (l ∷ ls) ≡ Some (Some s) = ap (λ (x : TextLine). first_by (part_by device left) (x ∷ ls)) t.0 ∙ part_again k left s fit.0 (omega (arith, room)) in
      let more = sources_again k (left - 1) (at + size_of l) ls ss q fit.1 (omega (arith, room)) t.1 in
      ap (λ (d : Option (Option Source)). with_part d (record { at = at; rest = l ∷ ls }) (record { at = at + size_of l; rest = ls }) (λ x. sources_from device (left - 1) (at + size_of l) ls)) read
      ∙ ap (with_front (s ∷ [])) more
