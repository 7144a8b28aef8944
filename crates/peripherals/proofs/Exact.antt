-- The text of a setup: reading and spelling are inverse, and if nothing is read no setup continues.
use Rattle.std.proofs.Common.{ℕ, ◌+◌, ◌-◌, ◌<◌, ◌≤◌, ◌≡◌, List, [], ◌∷◌, ◌++◌, refl, ap, sym, ◌∙◌, arith, Option, Some, None, Result, Ok, Err, length, ◌⊎◌, inl, inr, codes, map, lit<, lit≤, subst, append-nil}
use Rattle.std.proofs.lemmas.Slice.Eq.{bytes_eq-Decides}
use Rattle.std.specs.List.{AllByRecursion}
use Rattle.std.specs.Str.{bytes_eq}
use Rattle.basics.specs.Lists.{chosen, nil_not_cons, same_head_and_tail}
use Rattle.std.proofs.lemmas.Option.{none-some}
use Rattle.witness_replay.specs.Reading.{fill_by}
use Rattle.witness_replay.specs.Spelling.{filling}
use Rattle.witness_replay.proofs.Exact.{as_words, fill_again, fill_takes, filling_words}
use Rattle.text_base.specs.Answers.{Answers}
use Rattle.text_base.specs.Lines.{TextLine, Position, joined, lines_of, spaced}
use Rattle.line_reading.specs.Reading.{first_by, this_by, line_by}
use Rattle.line_reading.specs.Words.{IsWord, whole, Passes, WordLaws}
use Rattle.avr_model.specs.declared.device.Device.{Device}
use Rattle.peripherals.specs.declared.peripherals.SourceKind.{SourceKind}
use Rattle.peripherals.specs.declared.peripherals.SourceKind.TheVariants.{Timer, Bytes}
use Rattle.peripherals.specs.declared.peripherals.Source.{Source}
use Rattle.peripherals.specs.declared.peripherals.PeripheralsFault.{PeripheralsFault}
use Rattle.peripherals.specs.declared.peripherals.PeripheralsFault.TheVariants.{Malformed, Memory}
use Rattle.peripherals.specs.Spelling.{Setup, IsSource, IsSetup, most_sources, name_of, source_words, header, ending, setup_lines, text_of}
use Rattle.peripherals.specs.Reading.{sources_from, if_last, setup_at, malformed, setup_in}
use Rattle.peripherals.specs.Exact.{IsSetupReading, BeginsSetup, NoSetupGoesOn, IsSetupStuck, IsSetupDueUnlessMemory, ReadSetupIsSpelled, SpelledSetupIsRead, RefusedSetupIsStuck, SetupsHaveOneText}
use Rattle.line_reading.proofs.AllLaws.{ok_is, err_ok, line_takes, line_refuses, line_again, passes_none, passes_more, passes_split, then_ok, then_err}
use Rattle.peripherals.proofs.Sources.{source_lines, sources_take, NoSource, sources_stuck, sources_again, are_words}

abbrev header_by : List ℕ → Option (Unit {0})
header_by text = this_by (codes "devices 1") text

abbrev start : List ℕ → Position
start text = record { at = 0; rest = lines_of text }

-- ---- the first two lines

header_is : (text : List ℕ) (u : Unit {0}) → header_by text ≡ Some u → text ≡ spaced header
header_is text u e = elim (chosen (bytes_eq text (codes "devices 1")) _ _ (Some u) e) [
  | inl h ↦ (bytes_eq-Decides text (codes "devices 1")).0 h.0
  | inr h ↦ absurd (none-some u h.1)
]

header_again : header_by (spaced header) ≡ Some tt
header_again = refl

pub malformed_ok : {A : Type 0} (d : Result A Position) (x : A) → malformed d ≡ Ok x → d ≡ Ok x
malformed_ok (Ok y) x e = let same : y ≡ x = cc in rw same refl
malformed_ok (Err q) x e = cc

module _ (device : Device) where
  -- ---- words of all lines

  sources_words : WordLaws → (ss : List Source) → AllByRecursion (IsSource device) ss → AllByRecursion (AllByRecursion IsWord) (source_lines ss)
  sources_words k [] fit = ((((refl, (refl, (refl, tt))), (refl, (refl, (refl, tt)))), tt), tt)
  sources_words k (s ∷ ss) fit = (are_words device k s fit.0, sources_words k ss fit.1)

  setup_words : WordLaws → (setup : Setup) → IsSetup device setup → AllByRecursion (AllByRecursion IsWord) (setup_lines setup)
  setup_words k setup h = (
    ((((refl, (refl, (refl, (refl, (refl, (refl, (refl, tt))))))), (refl, (refl, (refl, (refl, (refl, (refl, (refl, tt)))))))), (((refl, tt), (refl, tt)), tt))),
    (filling_words k setup.fill h.fill_is_byte, sources_words k setup.sources h.all),
  )

  -- ---- what is read is spelled so

  record StandsWhole (p : Position) (setup : Setup) : Type 0 where
    pub fits : IsSetup device setup
    pub end : Position
    pub nothing : end.rest ≡ []
    pub lines : Passes p (map whole (setup_lines setup)) end

  last_ok : (ls : List TextLine) (s setup : Setup) (p : Position) → if_last ls s p ≡ Ok setup → (ls ≡ []) × (s ≡ setup)
  last_ok [] s setup p e = (refl, ok_is s setup e)
  last_ok (l ∷ ls) s setup p e = absurd (err_ok p setup e)

  read_stands : WordLaws → (p : Position) (setup : Setup) → setup_at device p ≡ Ok setup → StandsWhole p setup
  unfolding setup_at
  read_stands k p setup e =
      let h = then_ok (line_by header_by p) _ setup e in
      let f = then_ok (line_by fill_by h.0.1) _ setup h.2 in
      let r = then_ok (sources_from device most_sources f.0.1.at f.0.1.rest) _ setup f.2 in
      let last = last_ok r.0.1.rest (record { fill = f.0.0; sources = r.0.0 }) setup r.0.1 r.2 in
      let first = line_takes header_by p h.0.0 h.0.1 h.1 in
      let second = line_takes fill_by h.0.1 f.0.0 f.0.1 f.1 in
      let byte = fill_takes k second.text f.0.0 second.read in
      let sources = sources_take device k most_sources f.0.1.at f.0.1.rest r.0.0 r.0.1 r.1 in
      let top = as_words header_by p h.0.0 h.0.1 first header (header_is first.text h.0.0 first.read) in
      let fill = as_words fill_by h.0.1 f.0.0 f.0.1 second (filling f.0.0) byte.0 in
      subst (StandsWhole p) last.1 (record {
        fits = record { fill_is_byte = byte.1; count = sources.room; all = sources.fit };
        end = r.0.1;
        nothing = last.0;
        lines = passes_more p h.0.1 r.0.1 (whole header ∷ []) (whole (filling f.0.0) ∷ map whole (source_lines r.0.0)) top
            (passes_more h.0.1 f.0.1 r.0.1 (whole (filling f.0.0) ∷ []) (map whole (source_lines r.0.0)) fill sources.passes);
      })

  joined_none : (q : Position) → q.rest ≡ [] → joined q.rest ≡ []
  joined_none q e = ap joined e

  read_spelled : WordLaws → (text : List ℕ) (setup : Setup) → setup_in device text ≡ Ok setup → IsSetupReading device text setup
  unfolding setup_in
  read_spelled k text setup e =
      let s = read_stands k (start text) setup (malformed_ok (setup_at device (start text)) setup e) in
      let t = k.lines_text (start text) (setup_lines setup) s.end s.lines in
      record {
        fits = s.fits;
        bytes = sym (k.text_joined text) ∙ t.bytes ∙ ap (λ (xs : List ℕ). text_of setup ++ xs) (joined_none s.end s.nothing) ∙ append-nil (text_of setup);
      }

  -- ---- what is spelled is read

  stands_read : WordLaws → (p : Position) (setup : Setup) (q : Position) → IsSetup device setup → q.rest ≡ [] → Passes p (map whole (setup_lines setup)) q → setup_at device p ≡ Ok setup
  unfolding setup_at
  stands_read k p setup q fits none lines =
      let a = passes_split p q (whole header) (whole (filling setup.fill) ∷ map whole (source_lines setup.sources)) lines in
      let b = passes_split a.0 q (whole (filling setup.fill)) (map whole (source_lines setup.sources)) a.2 in
      let top = line_again header_by p a.0 (spaced header) tt header_again a.1 in
      let fill = line_again fill_by a.0 b.0 (spaced (filling setup.fill)) setup.fill (fill_again k setup.fill fits.fill_is_byte) b.1 in
      let sources = sources_again device k most_sources b.0.at b.0.rest setup.sources q fits.all fits.count b.2 in
      rw (top, fill, sources, none) refl

  spelled_read : WordLaws → (text : List ℕ) (setup : Setup) → IsSetupReading device text setup → setup_in device text ≡ Ok setup
  unfolding setup_in
  spelled_read k text setup h =
      let q : Position = record { at = 0 + length (text_of setup); rest = [] } in
      let bytes : joined (lines_of text) ≡ text_of setup ++ [] = k.text_joined text ∙ h.bytes ∙ sym (append-nil (text_of setup)) in
      let lines = k.text_lines (start text) (setup_lines setup) q (setup_words k setup h.fits) (k.are_lines text) tt (record { bytes = bytes; offset = refl }) in
      ap malformed (stands_read k (start text) setup q h.fits refl lines)

  same_text : WordLaws → (a b : Setup) → IsSetup device a → IsSetup device b → text_of a ≡ text_of b → a ≡ b
  same_text k a b fa fb e =
      let ra = spelled_read k (text_of a) a (record { fits = fa; bytes = refl }) in
      let rb = spelled_read k (text_of a) b (record { fits = fb; bytes = e }) in
      let same : ◌≡◌ {A = Result Setup PeripheralsFault} (Ok a) (Ok b) = sym ra ∙ rb in
      cc

  -- ---- a refusal

  -- a source, if a line is left for it
  record NextSource (left : ℕ) (ws : List (List ℕ)) : Type 0 where
    pub source : Source
    pub fits : IsSource device source
    pub room : 1 ≤ left
    pub words : ws ≡ source_words source

  end_is_no_kind : (kind : SourceKind) → codes "end" ≡ name_of kind → ⊥
  end_is_no_kind Timer e = cc
  end_is_no_kind (Bytes bs) e = cc

  end_is_no_source : (s : Source) → ending ≡ source_words s → ⊥
  end_is_no_source s e = end_is_no_kind s.kind (same_head_and_tail _ _ _ _ e).0

  -- after these sources a line of other sources is the end, or a source with a line left for it
  last_or_source : (left : ℕ) (sources others : List Source) (ws : List (List ℕ)) (more : List (List (List ℕ))) → length others ≤ left → AllByRecursion (IsSource device) others
      → source_lines others ≡ (map source_words sources ++ ws ∷ []) ++ more → (ws ≡ ending) ⊎ NextSource (left - length sources) ws
  last_or_source left [] [] ws more few fit e = inl (sym (same_head_and_tail ending ws [] more e).0)
  last_or_source left [] (s ∷ ss) ws more few fit e = inr (record { source = s; fits = fit.0; room = omega (arith, few); words = sym (same_head_and_tail (source_words s) ws (source_lines ss) more e).0 })
  last_or_source left (r ∷ rs) [] ws more few fit e = absurd (end_is_no_source r (same_head_and_tail ending (source_words r) [] ((map source_words rs ++ ws ∷ []) ++ more) e).0)
  last_or_source left (r ∷ rs) (s ∷ ss) ws more few fit e =
      let c = same_head_and_tail (source_words s) (source_words r) (source_lines ss) ((map source_words rs ++ ws ∷ []) ++ more) e in
      elim (last_or_source (left - 1) rs ss ws more (omega (arith, few)) fit.1 c.1) [
        | inl h ↦ inl h
        | inr h ↦ inr (record { source = h.source; fits = h.fits; room = omega (arith, h.room); words = h.words })
      ]

  -- sources alone are no whole text
  no_end : (sources others : List Source) → source_lines others ≡ map source_words sources ++ [] → ⊥
  no_end [] [] e = nil_not_cons ending [] (sym e)
  no_end [] (s ∷ ss) e = nil_not_cons (source_words s) (source_lines ss) (sym e)
  no_end (r ∷ rs) [] e = end_is_no_source r (same_head_and_tail ending (source_words r) [] (map source_words rs ++ []) e).0
  no_end (r ∷ rs) (s ∷ ss) e = no_end rs ss (same_head_and_tail (source_words s) (source_words r) (source_lines ss) (map source_words rs ++ []) e).1

  -- nothing follows the last line
  no_more : (sources others : List Source) (ws : List (List ℕ)) (more : List (List (List ℕ))) → source_lines others ≡ (source_lines sources ++ ws ∷ []) ++ more → ⊥
  no_more [] [] ws more e = nil_not_cons ws more (same_head_and_tail ending ending [] (ws ∷ more) e).1
  no_more [] (s ∷ ss) ws more e = end_is_no_source s (sym (same_head_and_tail (source_words s) ending (source_lines ss) (ws ∷ more) e).0)
  no_more (r ∷ rs) [] ws more e = end_is_no_source r (same_head_and_tail ending (source_words r) [] ((source_lines rs ++ ws ∷ []) ++ more) e).0
  no_more (r ∷ rs) (s ∷ ss) ws more e = no_more rs ss ws more (same_head_and_tail (source_words s) (source_words r) (source_lines ss) ((source_lines rs ++ ws ∷ []) ++ more) e).1

  abbrev bare : ℕ → Setup
  bare b = record { fill = b; sources = [] }

  bare_fits : (b : ℕ) → b < 256 → IsSetup device (bare b)
  bare_fits b small = record { fill_is_byte = small; count = lit≤ tt; all = tt }

  stop_header : (ls : List TextLine) → first_by header_by ls ≡ None → NoSetupGoesOn device [] ls
  stop_header [] e = λ b. nil_not_cons _ _ (sym b.all)
  stop_header (l ∷ ls) e = λ ws more is b.
      let c = same_head_and_tail header ws _ more b.all in
      none-some tt (sym e ∙ ap (λ (x : TextLine). first_by header_by (x ∷ ls)) (is ∙ ap whole (sym c.0)) ∙ header_again)

  stop_fill : WordLaws → (ls : List TextLine) → first_by fill_by ls ≡ None → NoSetupGoesOn device (header ∷ []) ls
  stop_fill k [] e = λ b. nil_not_cons _ _ (sym (same_head_and_tail header header _ [] b.all).1)
  stop_fill k (l ∷ ls) e = λ ws more is b.
      let c = same_head_and_tail header header _ (ws ∷ more) b.all in
      let d = same_head_and_tail (filling b.setup.fill) ws _ more c.1 in
      none-some b.setup.fill (sym e ∙ ap (λ (x : TextLine). first_by fill_by (x ∷ ls)) (is ∙ ap whole (sym d.0)) ∙ fill_again k b.setup.fill b.fits.fill_is_byte)

  stop_sources : (fill : ℕ) (sources : List Source) (ls : List TextLine) → NoSource device (most_sources - length sources) ls → NoSetupGoesOn device (header ∷ filling fill ∷ map source_words sources) ls
  stop_sources fill sources [] none = λ b.
      let c = same_head_and_tail header header _ (filling fill ∷ (map source_words sources ++ [])) b.all in
      no_end sources b.setup.sources (same_head_and_tail (filling b.setup.fill) (filling fill) (source_lines b.setup.sources) (map source_words sources ++ []) c.1).1
  stop_sources fill sources (l ∷ ls) none = λ ws more is b.
      let c = same_head_and_tail header header _ (filling fill ∷ ((map source_words sources ++ ws ∷ []) ++ more)) b.all in
      let d = same_head_and_tail (filling b.setup.fill) (filling fill) (source_lines b.setup.sources) ((map source_words sources ++ ws ∷ []) ++ more) c.1 in
      elim (last_or_source most_sources sources b.setup.sources ws more b.fits.count b.fits.all d.1) [
        | inl h ↦ none.1 (is ∙ ap whole h)
        | inr h ↦ none.0 h.source h.fits h.room (is ∙ ap whole h.words)
      ]

  stop_end : (setup : Setup) (l : TextLine) (ls : List TextLine) → NoSetupGoesOn device (setup_lines setup) (l ∷ ls)
  stop_end setup l ls = λ ws more is b.
      let c = same_head_and_tail header header _ (filling setup.fill ∷ ((source_lines setup.sources ++ ws ∷ []) ++ more)) b.all in
      let d = same_head_and_tail (filling b.setup.fill) (filling setup.fill) (source_lines b.setup.sources) ((source_lines setup.sources ++ ws ∷ []) ++ more) c.1 in
      no_more setup.sources b.setup.sources ws more d.1

  -- the refusal of a text, by position
  record StuckAt (p q : Position) : Type 0 where
    pub before : List (List (List ℕ))
    pub passed : Passes p (map whole before) q
    pub more : List (List (List ℕ))
    pub begins : BeginsSetup device before more
    pub stop : NoSetupGoesOn device before q.rest

  header_stuck : (p q : Position) → line_by header_by p ≡ Err q → StuckAt p q
  header_stuck p q e =
      let r = line_refuses header_by p q e in
      subst (StuckAt p) r.1 (record {
        before = [];
        passed = passes_none p;
        more = setup_lines (bare 0);
        begins = record { setup = bare 0; fits = bare_fits 0 (lit< tt); all = refl };
        stop = stop_header p.rest r.0;
      })

  fill_stuck : WordLaws → (p h q : Position) → Passes p (whole header ∷ []) h → line_by fill_by h ≡ Err q → StuckAt p q
  fill_stuck k p h q top e =
      let r = line_refuses fill_by h q e in
      subst (StuckAt p) r.1 (record {
        before = header ∷ [];
        passed = top;
        more = filling 0 ∷ ending ∷ [];
        begins = record { setup = bare 0; fits = bare_fits 0 (lit< tt); all = refl };
        stop = stop_fill k h.rest r.0;
      })

  sources_are_stuck : WordLaws → (p h f q : Position) (b : ℕ) → Passes p (whole header ∷ []) h → Passes h (whole (filling b) ∷ []) f → b < 256 → sources_from device most_sources f.at f.rest ≡ Err q → StuckAt p q
  sources_are_stuck k p h f q b top fill small e =
      let stuck = sources_stuck device k most_sources f.at f.rest q e in
      record {
        before = header ∷ filling b ∷ map source_words stuck.sources;
        passed = passes_more p h q (whole header ∷ []) (whole (filling b) ∷ map whole (map source_words stuck.sources)) top
            (passes_more h f q (whole (filling b) ∷ []) (map whole (map source_words stuck.sources)) fill stuck.passes);
        more = ending ∷ [];
        begins = record { setup = record { fill = b; sources = stuck.sources }; fits = record { fill_is_byte = small; count = stuck.room; all = stuck.fit }; all = refl };
        stop = stop_sources b stuck.sources q.rest stuck.stop;
      }

  end_stuck : WordLaws → (p h f r q : Position) (b : ℕ) (ss : List Source) → Passes p (whole header ∷ []) h → Passes h (whole (filling b) ∷ []) f → b < 256 → sources_from device most_sources f.at f.rest ≡ Ok (ss, r)
      → (rest : List TextLine) → r.rest ≡ rest → if_last rest (record { fill = b; sources = ss }) r ≡ Err q → StuckAt p q
  end_stuck k p h f r q b ss top fill small e [] is last = absurd (err_ok q (record { fill = b; sources = ss }) (sym last))
  end_stuck k p h f r q b ss top fill small e (l ∷ ls) is last =
      let sources = sources_take device k most_sources f.at f.rest ss r e in
      let setup : Setup = record { fill = b; sources = ss } in
      let same : r ≡ q = let bad : ◌≡◌ {A = Result Setup Position} (Err r) (Err q) = last in cc in
      let stop : NoSetupGoesOn device (setup_lines setup) r.rest = let P : List TextLine → Type 0 = λ xs. NoSetupGoesOn device (setup_lines setup) xs in subst P (sym is) (stop_end setup l ls) in
      subst (StuckAt p) same (record {
        before = setup_lines setup;
        passed = passes_more p h r (whole header ∷ []) (whole (filling b) ∷ map whole (source_lines ss)) top
            (passes_more h f r (whole (filling b) ∷ []) (map whole (source_lines ss)) fill sources.passes);
        more = [];
        begins = record { setup = setup; fits = record { fill_is_byte = small; count = sources.room; all = sources.fit }; all = sym (append-nil (setup_lines setup)) };
        stop = stop;
      })

  refused_at : WordLaws → (p q : Position) → setup_at device p ≡ Err q → StuckAt p q
  unfolding setup_at
  refused_at k p q e = elim (then_err (line_by header_by p) _ q e) [
    | inl h ↦ header_stuck p q h
    | inr h ↦
        let first = line_takes header_by p h.0.0 h.0.1 h.1 in
        let top = as_words header_by p h.0.0 h.0.1 first header (header_is first.text h.0.0 first.read) in
        elim (then_err (line_by fill_by h.0.1) _ q h.2) [
          | inl g ↦ fill_stuck k p h.0.1 q top g
          | inr g ↦
              let second = line_takes fill_by h.0.1 g.0.0 g.0.1 g.1 in
              let byte = fill_takes k second.text g.0.0 second.read in
              let fill = as_words fill_by h.0.1 g.0.0 g.0.1 second (filling g.0.0) byte.0 in
              elim (then_err (sources_from device most_sources g.0.1.at g.0.1.rest) _ q g.2) [
                | inl s ↦ sources_are_stuck k p h.0.1 g.0.1 q g.0.0 top fill byte.1 s
                | inr s ↦ end_stuck k p h.0.1 g.0.1 s.0.1 q g.0.0 s.0.0 top fill byte.1 s.1 s.0.1.rest refl s.2
              ]
        ]
  ]

  malformed_err : (d : Result Setup Position) (at : ℕ) → malformed d ≡ Err (Malformed at) → (q : Position) × (d ≡ Err q) × (q.at ≡ at)
  malformed_err (Ok s) at e = cc
  malformed_err (Err q) at e = (q, refl, let same : Malformed q.at ≡ Malformed at = cc in cc)

  refused_stuck : WordLaws → (text : List ℕ) (at : ℕ) → setup_in device text ≡ Err (Malformed at) → IsSetupStuck device text at
  unfolding setup_in
  refused_stuck k text at e =
      let q = malformed_err (setup_at device (start text)) at e in
      let s = refused_at k (start text) q.0 q.1 in
      record { before = s.before; position = q.0; offset = q.2; passed = s.passed; more = s.more; begins = s.begins; stop = s.stop }

-- ---- laws

pub read_is_spelled : WordLaws → ReadSetupIsSpelled
read_is_spelled k device text setup e = read_spelled device k text setup e

pub spelled_is_read : WordLaws → SpelledSetupIsRead
spelled_is_read k device text setup h = spelled_read device k text setup h

pub one_text : WordLaws → SetupsHaveOneText
one_text k device a b fa fb e = same_text device k a b fa fb e

pub refused_is_stuck : WordLaws → RefusedSetupIsStuck
refused_is_stuck k device text at e = refused_stuck device k text at e

-- ---- the call that reads

pub due : ReadSetupIsSpelled → RefusedSetupIsStuck → (device : Device) (text : List ℕ) (r : Result Setup PeripheralsFault) → Answers (λ d. d) Memory r (setup_in device text) → IsSetupDueUnlessMemory device text r
due read refused device text (Ok d) e = read device text d e
due read refused device text (Err Memory) e = tt
due read refused device text (Err (Malformed at)) e = refused device text at (e (λ bad. cc))

pub answers_spelled : SpelledSetupIsRead → (device : Device) (text : List ℕ) (r : Result Setup PeripheralsFault) (setup : Setup) → Answers (λ d. d) Memory r (setup_in device text) → IsSetupReading device text setup → Answers (λ d. d) Memory r (Ok setup)
answers_spelled law device text r setup e h = let P : Result Setup PeripheralsFault → Type 0 = λ d. Answers (λ x. x) Memory r d in subst P (law device text setup h) e
