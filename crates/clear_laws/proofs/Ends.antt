-- The verdict is unique, and no run of a clear firmware is flagged.
use Rattle.std.proofs.Common.{◌≡◌, refl, sym, ap, ap₂, ◌∙◌, subst, ℕ, ◌<◌, ⊎_elim, inl, inr, true, List, [], ◌∷◌, map, Some, slice_get, Contains, arith}
use Rattle.std.specs.Prelude.{◌↔◌}
use Rattle.std.proofs.lemmas.Bool.{cases_lt}
use Rattle.std.proofs.lemmas.Option.{same_Some}
use Rattle.basics.specs.Items.{none_in, first_in, further_in, first_or_further}
use Rattle.avr_model.specs.declared.choice.Choice.{Choice}
use Rattle.avr_model.specs.declared.choice.Flag.{Flag}
use Rattle.avr_model.specs.declared.choice.Flag.TheVariants.{Live, Protected, Transfer, Moved}
use Rattle.avr_model.specs.State.{State}
use Rattle.avr_model.specs.Assumptions.{is_never}
use Rattle.avr_model.specs.Devices.{device_of}
use Rattle.avr_model.specs.Vectors.{vector_word}
use Rattle.local_rules.specs.declared.local.Node.{Node}
use Rattle.edge_rules.specs.Expansion.{IsFilled}
use Rattle.edge_laws.proofs.ExpansionLaws.{filled_or_missing}
use Rattle.frame_laws.proofs.AllLaws.{sound_families_bound_every_run}
use Rattle.clear_laws.specs.Clear.{IsClear, MayBeFlagged, MayBeTaken, EndsByTake, word_of_flag}
use Rattle.clear_laws.specs.Causes.{MayWriteProtected, MayWriteLive, MayGoUnlisted, MayMove, HasCause, MayFlag}
use Rattle.clear_laws.proofs.Caused.{places_have_causes, may_be_flagged}
use Rattle.clear_laws.proofs.Runs.{flagged_runs_are_told}
use Rattle.certificate.specs.Claims.{Claim}
use Rattle.certificate.specs.Valid.{family_of}
use Rattle.certificate.proofs.AllLaws.{conditions_make_families_sound}
use Rattle.clear_laws.specs.declared.verdict.ClearVerdict.TheVariants.{Clear, Unclear}
use Rattle.clear_laws.specs.declared.place.FlaggedPlace.{FlaggedPlace}
use Rattle.clear_laws.specs.Verdict.{AreAllClear, IsFirstUnclear, AreNevers}
use Rattle.clear_laws.specs.Places.{word_of, IsPlaceOf, ArePlaces, TellsCause, AllTellCauses, AreToldOf}
use Rattle.clear_laws.specs.CertificateLaws.{ClearVerdictsAreOne, ClearFirmwaresAreNeverFlagged, EndsByTakeAt, FlaggedRunsEndAtSites, FlaggedRunsEndAtPlaces}
use Rattle.clear_laws.proofs.Places.{contains_at}
use Rattle.local_rules.specs.Site.{Task, bare}

module _ (task : Task) (c : Claim) where
  pub not_both : (j pc : ℕ) → AreAllClear task c → IsFirstUnclear task c j pc → ⊥
  not_both j pc all first =
      let same = filled_or_missing.one task c.nodes all.nodes first.nodes all.expanded first.expanded in
      first.unclear
      (subst (λ (nodes : List Node). (n : Node) → Contains nodes n → IsClear task (family_of c nodes) n) same all.clear first.node
      (contains_at first.nodes j first.node first.is))

  not_before : (i j pc pc' : ℕ) → IsFirstUnclear task c i pc → IsFirstUnclear task c j pc' → i < j → ⊥
  not_before i j pc pc' a b lt =
      let same = filled_or_missing.one task c.nodes b.nodes a.nodes b.expanded a.expanded in
      a.unclear
      (subst (λ (nodes : List Node). (i : ℕ) (n : Node) → slice_get nodes i ≡ Some n → i < j → IsClear task (family_of c nodes) n) same b.earlier i a.node a.is lt)

  pub one_first : (i j pc pc' : ℕ) → IsFirstUnclear task c i pc → IsFirstUnclear task c j pc' → (i ≡ j) × (pc ≡ pc')
  one_first i j pc pc' a b = (numbers, sym a.word ∙ ap (λ (n : Node). n.key.pc) nodes_same ∙ b.word)
    where
      numbers : i ≡ j
      numbers =
          ⊎_elim (λ lt. absurd (not_before i j pc pc' a b lt))
          (λ le. ⊎_elim (λ lt. absurd (not_before j i pc' pc b a lt)) (λ ge. omega (arith, le, ge)) (cases_lt j i)) (cases_lt i j)

      nodes_same : a.node ≡ b.node
      nodes_same =
          let same = filled_or_missing.one task c.nodes a.nodes b.nodes a.expanded b.expanded in
          same_Some a.node b.node (sym a.is ∙ ap (slice_get a.nodes) numbers ∙ ap (λ (nodes : List Node). slice_get nodes j) same ∙ b.is)

pub clear_verdicts_are_one : ClearVerdictsAreOne
clear_verdicts_are_one words c Clear Clear a b = refl
clear_verdicts_are_one words c Clear (Unclear j pc) a b = absurd (not_both (bare words) c j pc a b)
clear_verdicts_are_one words c (Unclear j pc) Clear a b = absurd (not_both (bare words) c j pc b a)
clear_verdicts_are_one words c (Unclear i pc) (Unclear j pc') a b = let same = one_first (bare words) c i j pc pc' a b in ap₂ (λ x y. Unclear x y) same.0 same.1

-- the empty list has no `never` line
no_line : (word : ℕ) → is_never [] word ≡ true → ⊥
unfolding is_never
no_line word e = cc

pub clear_firmwares_are_never_flagged : ClearFirmwaresAreNeverFlagged
clear_firmwares_are_never_flagged words c sized claim sound all =
    let same = filled_or_missing.one (bare words) c.nodes all.nodes sound.nodes all.expanded sound.expanded in
    let family = conditions_make_families_sound (bare words) c sound.nodes claim sound.expanded sound.meets in
    let clear = subst (λ (nodes : List Node). (n : Node) → Contains nodes n → IsClear (bare words) (family_of c nodes) n) same all.clear in
    record {
      bounded = sound_families_bound_every_run (bare words) (family_of c sound.nodes) sized family;
      never = flagged_runs_are_told.never (bare words) (family_of c sound.nodes) sized family clear (λ word taken. no_line word taken.never);
    }

-- a take that a node may do is at one of the listed words
take_at : (task : Task) (c : Claim) (nodes : List Node) (nevers : List ℕ) (m : State) (choices : List Choice) → IsFilled task c.nodes nodes
    → AreNevers task c nevers → EndsByTake task nodes m choices → EndsByTakeAt task nevers m choices
take_at task c nodes nevers m choices filled all at =
    let alike = filled_or_missing.one task c.nodes nodes all.nodes filled all.expanded in
    record {
      before = at.before;
      vector = at.vector;
      clears = at.clears;
      rest = at.rest;
      are = at.are;
      passes = at.passes;
      word = (all.exact (vector_word (device_of task.flash) at.vector)).1
          (subst (λ (nodes : List Node). MayBeTaken task nodes (vector_word (device_of task.flash) at.vector)) alike at.taken);
    }

pub flagged_runs_end_at_sites : FlaggedRunsEndAtSites
flagged_runs_end_at_sites task c sites nevers sized claim sound are all m choices flag reset run ends =
    let same = filled_or_missing.one task c.nodes sound.nodes are.nodes sound.expanded are.expanded in
    let family = conditions_make_families_sound task c sound.nodes claim sound.expanded sound.meets in
    ⊎_elim
    (λ at. inl ((are.exact (word_of_flag flag)).1 (subst (λ (nodes : List Node). MayBeFlagged task (family_of c nodes) (word_of_flag flag)) same at)))
    (λ at. inr (take_at task c sound.nodes nevers m choices sound.expanded all at))
    (flagged_runs_are_told.told task (family_of c sound.nodes) m choices flag sized family reset run ends)

-- ---- with what may happen there

in_words : (places : List FlaggedPlace) (place : FlaggedPlace) → Contains places place → Contains (map word_of places) place.word
in_words [] place h = absurd (none_in place h)
in_words (p ∷ ps) place h =
    ⊎_elim (λ e. subst (λ (x : FlaggedPlace). Contains (p.word ∷ map word_of ps) x.word) (sym e) (first_in p.word (map word_of ps)))
    (λ more. further_in p.word place.word (map word_of ps) (in_words ps place more)) (first_or_further p place ps h)

place_in : (places : List FlaggedPlace) (pc : ℕ) → Contains (map word_of places) pc → (place : FlaggedPlace) × (Contains places place × (place.word ≡ pc))
place_in [] pc h = absurd (none_in pc h)
place_in (p ∷ ps) pc h =
    ⊎_elim (λ e. (p, (first_in p ps, sym e))) (λ more. let q = place_in ps pc more in (q.0, (further_in p q.0 ps q.1.0, q.1.1)))
    (first_or_further p.word pc (map word_of ps) h)

module _ (task : Task) (c : Claim) (places : List FlaggedPlace) (are : ArePlaces task c places) where
  -- the words are those of the same nodes
  words_told : (pc : ℕ) → Contains (map word_of places) pc ↔ MayBeFlagged task (family_of c are.nodes) pc
  words_told pc =
      let same = filled_or_missing.one task c.nodes are.sites.nodes are.nodes are.sites.expanded are.expanded in
      subst (λ (nodes : List Node). Contains (map word_of places) pc ↔ MayBeFlagged task (family_of c nodes) pc) same (are.sites.exact pc)

  some_cause : AllTellCauses places
  some_cause place present = by ((places_have_causes task (family_of c are.nodes) place.word).0 ((words_told place.word).0 (in_words places place present)))
    where
      is : IsPlaceOf task (family_of c are.nodes) place
      is = are.each place present

      by : HasCause task (family_of c are.nodes) place.word → TellsCause place
      by (inl p) = inl (λ none. none_in p.0 (subst (λ (xs : List ℕ). Contains xs p.0) none ((is.protected p.0).1 p.1)))
      by (inr (inl l)) = inr (inl (is.live.1 l))
      by (inr (inr (inl t))) = inr (inr (inl (is.transfer.1 t)))
      by (inr (inr (inr v))) = inr (inr (inr (is.moves.1 v)))

  told_by : (flag : Flag) → MayFlag task (family_of c are.nodes) flag → AreToldOf places flag
  told_by flag caused = by flag caused (place_in places (word_of_flag flag) ((words_told (word_of_flag flag)).1 (may_be_flagged task (family_of c are.nodes) flag caused)))
    where
      by : (flag : Flag) → MayFlag task (family_of c are.nodes) flag → (place : FlaggedPlace) × (Contains places place × (place.word ≡ word_of_flag flag)) → AreToldOf places flag
      by (Live pc a) caused p =
          record { place = p.0; present = p.1.0; told = (p.1.1, (are.each p.0 p.1.0).live.1 (subst (MayWriteLive task (family_of c are.nodes)) (sym p.1.1) caused)) }
      by (Protected pc a) caused p =
          record {
            place = p.0;
            present = p.1.0;
            told = (p.1.1, ((are.each p.0 p.1.0).protected a).1 (subst (λ w. MayWriteProtected task (family_of c are.nodes) w a) (sym p.1.1) caused));
          }
      by (Transfer pc target) caused p =
          record { place = p.0; present = p.1.0; told = (p.1.1, (are.each p.0 p.1.0).transfer.1 (subst (MayGoUnlisted task (family_of c are.nodes)) (sym p.1.1) caused)) }
      by (Moved pc) caused p =
          record { place = p.0; present = p.1.0; told = (p.1.1, (are.each p.0 p.1.0).moves.1 (subst (MayMove task (family_of c are.nodes)) (sym p.1.1) caused)) }

pub flagged_runs_end_at_places : FlaggedRunsEndAtPlaces
flagged_runs_end_at_places =
    record {
      ends = λ task c places nevers sized claim sound are all m choices flag reset run ends.
          let same = filled_or_missing.one task c.nodes sound.nodes are.nodes sound.expanded are.expanded in
          let family = conditions_make_families_sound task c sound.nodes claim sound.expanded sound.meets in
          ⊎_elim (λ caused. inl (told_by task c places are flag (subst (λ (nodes : List Node). MayFlag task (family_of c nodes) flag) same caused)))
          (λ at. inr (take_at task c sound.nodes nevers m choices sound.expanded all at))
          (flagged_runs_are_told.caused task (family_of c sound.nodes) m choices flag sized family reset run ends);
      told = some_cause;
    }
