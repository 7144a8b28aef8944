-- The statements of answers, by command.
use Rattle.std.proofs.Common.{◌≡◌, ◌≤◌, ◌*◌, ◌%◌, inl, inr, ℕ, Bool, true, false, List, [], ◌∷◌, map, length, Option, Some, None, Result, Ok, Err, refl, sym, ap, ◌∙◌, subst, arith}
use Rattle.std.specs.Prelude.{◌↔◌, ◌⊎◌, Contains}
use Rattle.std.specs.Option.{is_some}
use Rattle.basics.specs.Items.{none_in}
use Rattle.avr_model.specs.declared.assumption.Entry.{Entry}
use Rattle.avr_model.specs.declared.choice.Choice.{Choice}
use Rattle.avr_model.specs.declared.choice.Flag.{Flag}
use Rattle.avr_model.specs.declared.device.Device.{Device}
use Rattle.avr_model.specs.Devices.{Image, device_of, limit_of}
use Rattle.avr_model.specs.State.{State}
use Rattle.avr_model.specs.Vectors.{vector_word}
use Rattle.avr_model.specs.Image.{IsRawImage, raw_words}
use Rattle.flash_image.specs.Narrowing.{NarrowingIsExact}
use Rattle.flash_image.specs.Naming.{Named}
use Rattle.assumption_files.specs.Exact.{ReadingIsExact}
use Rattle.local_rules.specs.Machine.{AreWords}
use Rattle.witness_replay.specs.Runs.{ReplaysAreRuns}
use Rattle.certificate.specs.Claims.{Claim}
use Rattle.cert_format.specs.Exact.{ReadCertificateIsSpelled, SpelledCertificateIsRead}
use Rattle.cert_check.specs.Laws.{VerdictsAreOne, SoundCertificatesBoundEveryRun}
use Rattle.round_laws.specs.Laws.{RoundsAreLeast, SolutionsAreValid}
use Rattle.round_rules.specs.Solutions.{AllFit}
use Rattle.round_solutions.specs.Answers.{AnswersAreOne}
use Rattle.witness_search.specs.Laws.{WaypointsAreOne}
use Rattle.demo_image.specs.Image.{demo_program}
use Rattle.certificate.specs.Valid.{IsSound, IsValid}
use Rattle.peripherals.specs.declared.peripherals.PeripheralsFault.{PeripheralsFault}
use Rattle.peripherals.specs.Spelling.{Setup}
use Rattle.peripherals.specs.Reading.{setup_in}
use Rattle.peripherals.specs.Exact.{IsSetupReading as ArePeripherals, ReadSetupIsSpelled as PeripheralsAreSpelled, SpelledSetupIsRead as PeripheralsAreRead}
use Rattle.peripherals.specs.Simulating.{simulation_of}
use Rattle.peripherals.specs.Laws.{SimulationsAreBounded}
use Rattle.chain_explain.specs.Laws.{ExplanationsTell}
use Rattle.clear_laws.specs.Clear.{word_of_flag}
use Rattle.clear_laws.specs.declared.verdict.ClearVerdict.{ClearVerdict}
use Rattle.clear_laws.specs.declared.verdict.ClearVerdict.TheVariants as clear
use Rattle.clear_laws.specs.Verdict.{AreAllClear, IsClearVerdict, AreSites}
use Rattle.clear_laws.specs.declared.place.FlaggedPlace.{FlaggedPlace}
use Rattle.clear_laws.specs.Places.{word_of, AreToldOf}
use Rattle.clear_laws.specs.CertificateLaws.{ClearVerdictsAreOne, ClearFirmwaresAreNeverFlagged, FlaggedRunsEndAtSites, FlaggedRunsEndAtPlaces, EndsByTakeAt}
use Rattle.clear_laws.specs.ListLaws.{ClearWhereNoSites}
use Rattle.cert_writing.specs.Sizes.{TextsFit}
use Rattle.guided_trials.specs.Laws.{TrialsAreLed}
use Rattle.commands.specs.Commands.{Work, Check, Analyse, Run, Report, Explain, Clear, Premises, Attain, Simulate, Command, On, Demo, About}
use Rattle.replies.specs.declared.status.Status.{Status}
use Rattle.replies.specs.declared.status.Status.TheVariants as exit
use Rattle.replies.specs.Firmware.{IsFirmware, firmware_image, firmware_names}
use Rattle.replies.specs.Texts.{peripherals_refused, accepted, run_text}
use Rattle.replies.specs.Reading.{Whole, Contents, certificate_cap}
use Rattle.replies.specs.Reply.{Reply, WithOptional, WithImage, WithList, ClearSays, ClearReply, PlacesReply, AcceptedReply, AnalyseReply, SimulateReply, DemoReply, IsReply}
use Rattle.replies.specs.Headline.{AreLoaded, IsListOf, StandFor, Shows, HoldsAsRead, IsLeastAsRead, IsAttainedAsRead, IsSimulatedAsRead, IsMeasured, WorkHeadline, SaysWhether, AcceptsExactly, AnswersRounds, AnswersPeripherals, IsWorkExact, AcceptingRepliesHold, RepliesAreExact}
use Rattle.replies.proofs.Accepting.{zero_file, zero_optional, zero_image, zero_list, zero_refused, not_rejected, IsJudged, file_read, optional_read, Accepting, IsReplyJudged, HoldsOf, judgement_holds, image_read, list_read, judged_by, valid_judged}
use Rattle.replies.proofs.Attaining.{written_attained}
use Rattle.replies.proofs.Least.{AnalysesFit, analysis_best, best_bounds, Ends, analyse_ends, says_ends, not_written}
use Rattle.local_rules.specs.Site.{Task, task_with, bare}

not_peripherals : ◌≡◌ {A = Status} exit.Done exit.BadPeripherals → ⊥
not_peripherals e = cc

not_unclear : ◌≡◌ {A = Status} exit.Done exit.Unclear → ⊥
not_unclear e = cc

rejected_apart_from_unclear : ◌≡◌ {A = Status} exit.Rejected exit.Unclear → ⊥
rejected_apart_from_unclear e = cc

-- reading and spelling of peripherals are inverse
pub record PeripheralsAreExact : Type 0 where
  pub read : PeripheralsAreSpelled
  pub spelled : PeripheralsAreRead

-- the clear certificates, and the flags of runs under others
pub record ClearIsTold : Type 0 where
  pub one : ClearVerdictsAreOne
  pub never : ClearFirmwaresAreNeverFlagged
  pub ends : FlaggedRunsEndAtSites
  pub places : FlaggedRunsEndAtPlaces
  pub empty : ClearWhereNoSites

-- without words there are no places
no_words : (places : List FlaggedPlace) → map word_of places ≡ [] → places ≡ []
no_words [] e = refl
no_words (p ∷ ps) e = absurd (cc)

-- a list that is read fits the device
none_fit : (device : Device) → AllFit device []
none_fit device k d lt = absurd (omega (arith, lt))

list_fits : (device : Device) (list : Option (List ℕ)) (A : List Entry) → IsListOf device list A → AllFit device A
list_fits device None A h = subst (AllFit device) (sym h) (none_fit device)
list_fits device (Some bytes) A h = h.fits.fit

means_fit : (device : Device) (firmware : List ℕ) (list : Option (List ℕ)) (task : Task) → IsFirmware device firmware task.flash → IsListOf device list task.assumptions
    → AllFit (device_of task.flash) task.assumptions
means_fit device firmware list task image listed = subst (λ (d : Device). AllFit d task.assumptions) (sym image.narrowed.is) (list_fits device list task.assumptions listed)

abbrev request : Device → List ℕ → Option (List ℕ) → Work → Command
request device fw assume work = On (record { device = device; firmware = fw; assume = assume; work = work })

module _
    (raw : (device : Device) (bytes words : List ℕ) → IsRawImage device bytes words → words ≡ raw_words device bytes)
    (images : (device : Device) (bytes : List ℕ) → length bytes % 2 ≡ 0 → length bytes ≤ 2 * limit_of device → IsRawImage device bytes (raw_words device bytes))
    (narrowing : NarrowingIsExact)
    (lists : ReadingIsExact)
    (read : ReadCertificateIsSpelled)
    (spelled : SpelledCertificateIsRead)
    (verdicts : VerdictsAreOne)
    (bounds : SoundCertificatesBoundEveryRun)
    (answers : AnswersAreOne)
    (chains : WaypointsAreOne)
    (rounds : RoundsAreLeast)
    (solutions : SolutionsAreValid)
    (runs : ReplaysAreRuns)
    (fit : AnalysesFit)
    (peripherals : PeripheralsAreExact)
    (simulations : SimulationsAreBounded)
    (explanations : ExplanationsTell)
    (told_clear : ClearIsTold)
    (led : TrialsAreLed)
    (texts_fit : TextsFit) where
  -- ---- commands that judge

  holds_as : (device : Device) (work : Work) (assume : Option (List ℕ)) (seen : Contents) (text : List ℕ) (h : HoldsOf raw images narrowing lists read spelled bounds device (AcceptedReply device work) assume seen text)
      → Shows device work h.firmware h.task h.claim text → HoldsAsRead device work assume seen text
  holds_as device work assume seen text h shows =
      record {
        firmware = h.firmware;
        certificate = h.certificate;
        list = h.list;
        read = h.are_read;
        holds = record { task = h.task; claim = h.claim; stand = h.stand; bounded = h.bounded; told = h.told; shows = shows };
      }

  explained_as : (device : Device) (cert : List ℕ) (assume : Option (List ℕ)) (seen : Contents) (text : List ℕ)
      → HoldsOf raw images narrowing lists read spelled bounds device (AcceptedReply device (Explain cert)) assume seen text → HoldsAsRead device (Explain cert) assume seen text
  explained_as device cert assume seen text h =
      holds_as device (Explain cert) assume seen text h
      (record {
        explanation = h.told.explanation;
        is = h.told.is;
        tells = explanations h.task h.claim h.told.explanation h.valid.sound h.told.is;
        told = h.told.says.1;
      })

  attained_as : (device : Device) (cert : List ℕ) (assume : Option (List ℕ)) (trials : ℕ) (seen : Contents) (text : List ℕ)
      → HoldsOf raw images narrowing lists read spelled bounds device (AcceptedReply device (Attain cert trials)) assume seen text → IsAttainedAsRead device cert assume trials seen text
  attained_as device cert assume trials seen text h =
      let shows = written_attained led texts_fit h.task trials h.claim runs text h.told h.stand.fits h.valid in
      let stand : StandFor device h.firmware text h.list h.task shows.claim = record { mean = h.stand.mean; made_for = ap (λ (x : Claim). x.device) shows.completed.same ∙ h.stand.made_for; fits = shows.fits; bytes = shows.told } in
      record {
        holds = record {
          firmware = h.firmware;
          certificate = h.certificate;
          list = h.list;
          read = h.are_read;
          holds = record { task = h.task; claim = h.claim; stand = h.stand; bounded = h.bounded; told = h.told; shows = shows };
        };
        again = λ name other.
            valid_judged raw images narrowing lists read spelled bounds device (AcceptedReply device (Check other)) name other assume (record seen { second = Whole text }) h.firmware text h.list h.task shows.claim
            (record { loaded = record { firmware_read = h.are_read.loaded.firmware_read; list_read = h.are_read.loaded.list_read }; second_read = refl }) stand exit.Done (accepted shows.claim.bound (is_some shows.claim.witness)) shows.valid (refl, refl);
      }

  -- a command that answers 0 if a certificate is valid
  record SaysValid (task : Task) (c : Claim) (status : Status) : Type 0 where
    accepted : (status ≡ exit.Done) ↔ IsValid task c
    unclear : status ≡ exit.Unclear → ⊥
    rejected : (status ≡ exit.Rejected) ↔ (IsValid task c → ⊥)

  accepts_by : (task : Task) (next : Claim → Reply) (c : Claim) (status : Status) (text : List ℕ) → ((s : Status) (t : List ℕ) → next c s t → s ≡ exit.Done) → IsJudged task next c status text
      → SaysValid task c status
  accepts_by task next c status text zero (inl h) =
      let z = zero status text h.1 in
      record { accepted = (λ e. h.0, λ v. z); unclear = λ e. not_unclear (sym z ∙ e); rejected = (λ e. absurd (not_rejected (sym z ∙ e)), λ n. absurd (n h.0)) }
  accepts_by task next c status text zero (inr h) =
      record { accepted = (λ e. absurd (not_rejected (sym e ∙ h.1)), λ v. absurd (h.0 v)); unclear = λ e. rejected_apart_from_unclear (sym h.1 ∙ e); rejected = (λ e. h.0, λ n. h.1) }

  accepts_valid : (device : Device) (work : Work) (fw cert : List ℕ) (assume : Option (List ℕ)) (seen : Contents) (status : Status) (text : List ℕ)
      → ((bytes : List ℕ) (task : Task) (c : Claim) (s : Status) (t : List ℕ) → AcceptedReply device work bytes task c s t → s ≡ exit.Done)
      → ((task : Task) (c : Claim) (s : Status) → SaysValid task c s → SaysWhether work task c s)
      → IsReplyJudged device (AcceptedReply device work) fw cert assume seen status text → AcceptsExactly device work assume seen status
  accepts_valid device work fw cert assume seen status text zero says h firmware certificate list task claim are stand =
      says task claim status
      (accepts_by task (AcceptedReply device work firmware task) claim status text (zero firmware task claim)
      (judged_by raw images narrowing lists read spelled bounds device (AcceptedReply device work) fw cert assume seen firmware certificate list task claim are stand verdicts status text h))

  -- ---- clear and premises

  none_apart : (node pc : ℕ) → ◌≡◌ {A = ClearVerdict} clear.Clear (clear.Unclear node pc) → ⊥
  none_apart node pc e = cc

  clear_by : (image : Image) (c : Claim) (status : Status) (text : List ℕ) (v : ClearVerdict) → IsClearVerdict image c v → ClearSays image c v status text → IsValid (bare image) c
      → (cert : List ℕ) → SaysWhether (Clear cert) (bare image) c status
  clear_by image c status text clear.Clear is says valid cert =
      record {
        accepted = (λ e. (valid, is), λ a. says.0);
        unclear = (
          λ e. absurd (not_unclear (sym says.0 ∙ e)),
          λ b. absurd (none_apart b.1.0 b.1.1 (told_clear.one image c clear.Clear (clear.Unclear b.1.0 b.1.1) is b.1.2)),
        );
        rejected = (λ e. absurd (not_rejected (sym says.0 ∙ e)), λ n. absurd (n valid));
      }
  clear_by image c status text (clear.Unclear node pc) is says valid cert =
      record {
        accepted = (λ e. absurd (not_unclear (sym e ∙ says.0)), λ a. absurd (none_apart node pc (told_clear.one image c clear.Clear (clear.Unclear node pc) a.1 is)));
        unclear = (λ e. (valid, (node, pc, is)), λ b. says.0);
        rejected = (λ e. absurd (rejected_apart_from_unclear (sym e ∙ says.0)), λ n. absurd (n valid));
      }

  clear_says : (image : Image) (c : Claim) (status : Status) (text cert : List ℕ) → IsJudged (bare image) (ClearReply image) c status text → SaysWhether (Clear cert) (bare image) c status
  clear_says image c status text cert (inl h) = clear_by image c status text h.1.verdict h.1.is h.1.says h.0 cert
  clear_says image c status text cert (inr h) =
      record {
        accepted = (λ e. absurd (not_rejected (sym e ∙ h.1)), λ a. absurd (h.0 a.0));
        unclear = (λ e. absurd (rejected_apart_from_unclear (sym h.1 ∙ e)), λ b. absurd (h.0 b.0));
        rejected = (λ e. h.0, λ n. h.1);
      }

  no_list : (device : Device) (list : Option (List ℕ)) (A : List Entry) → list ≡ None → IsListOf device list A → [] ≡ A
  no_list device None A e h = sym h
  no_list device (Some bytes) A e h = absurd (let wrong = e in cc)

  clear_read : (device : Device) (fw cert : List ℕ) (seen : Contents) (status : Status) (text : List ℕ) → IsReplyJudged device (AcceptedReply device (Clear cert)) fw cert None seen status text
      → AcceptsExactly device (Clear cert) None seen status
  clear_read device fw cert seen status text h firmware certificate list task claim are stand =
      let empty : [] ≡ task.assumptions = no_list device list task.assumptions are.loaded.list_read stand.mean.assumptions in
      let judged = judged_by raw images narrowing lists read spelled bounds device (AcceptedReply device (Clear cert)) fw cert None seen firmware certificate list task claim are stand verdicts status text h in
      subst (λ B. SaysWhether (Clear cert) (task_with task.flash B) claim status) empty
      (clear_says task.flash claim status text cert (subst (λ B. IsJudged (task_with task.flash B) (ClearReply task.flash) claim status text) (sym empty) judged))

  all_clear : (image : Image) (c : Claim) (text : List ℕ) (v : ClearVerdict) → IsClearVerdict image c v → ClearSays image c v exit.Done text → AreAllClear (bare image) c
  all_clear image c text clear.Clear is says = is
  all_clear image c text (clear.Unclear node pc) is says = absurd (not_unclear says.0)

  clear_as : (device : Device) (cert : List ℕ) (seen : Contents) (text : List ℕ)
      → HoldsOf raw images narrowing lists read spelled bounds device (AcceptedReply device (Clear cert)) None seen text → HoldsAsRead device (Clear cert) None seen text
  clear_as device cert seen text h =
      let empty : [] ≡ h.task.assumptions = no_list device h.list h.task.assumptions h.are_read.loaded.list_read h.stand.mean.assumptions in
      holds_as device (Clear cert) None seen text h
      (told_clear.never h.task.flash h.claim h.fit h.stand.fits.claim (subst (λ B. IsSound (task_with h.task.flash B) h.claim) (sym empty) h.valid.sound) (all_clear h.task.flash h.claim text h.told.verdict h.told.is h.told.says))

  none_ends : (task : Task) (m : State) (choices : List Choice) (word : ℕ) → Contains [] word ⊎ EndsByTakeAt task [] m choices → ⊥
  none_ends task m choices word (inl h) = none_in word h
  none_ends task m choices word (inr h) = none_in (vector_word (device_of task.flash) h.vector) h.word

  premises_as : (device : Device) (cert : List ℕ) (assume : Option (List ℕ)) (seen : Contents) (text : List ℕ)
      → HoldsOf raw images narrowing lists read spelled bounds device (AcceptedReply device (Premises cert false)) assume seen text
      → HoldsAsRead device (Premises cert false) assume seen text
  premises_as device cert assume seen text h =
      let ends = told_clear.ends h.task h.claim h.told.sites h.told.nevers h.fit h.stand.fits.claim h.valid.sound h.told.are h.told.are_nevers in
      holds_as device (Premises cert false) assume seen text h
      (record {
        sites = h.told.sites;
        nevers = h.told.nevers;
        are = h.told.are;
        are_nevers = h.told.are_nevers;
        ends = ends;
        none_flagged = λ no_sites no_nevers m choices flag reset run stops.
            none_ends h.task m choices (word_of_flag flag)
            (subst (λ (xs : List ℕ). Contains xs (word_of_flag flag) ⊎ EndsByTakeAt h.task [] m choices) no_sites
            (subst (λ (xs : List ℕ). Contains h.told.sites (word_of_flag flag) ⊎ EndsByTakeAt h.task xs m choices) no_nevers (ends m choices flag reset run stops)));
        as_clear = λ none verdict is. told_clear.empty h.task.flash h.claim verdict h.told.sites is (subst (λ B. AreSites (task_with h.task.flash B) h.claim h.told.sites) none h.told.are);
        told = h.told.says.1;
      })

  none_told : (task : Task) (m : State) (choices : List Choice) (flag : Flag) (places : List FlaggedPlace) (nevers : List ℕ) → places ≡ [] → nevers ≡ []
      → AreToldOf places flag ⊎ EndsByTakeAt task nevers m choices → ⊥
  none_told task m choices flag places nevers no_places no_nevers (inl h) = none_in h.place (subst (λ (xs : List FlaggedPlace). Contains xs h.place) no_places h.present)
  none_told task m choices flag places nevers no_places no_nevers (inr h) =
      none_in (vector_word (device_of task.flash) h.vector) (subst (λ (xs : List ℕ). Contains xs (vector_word (device_of task.flash) h.vector)) no_nevers h.word)

  causes_as : (device : Device) (cert : List ℕ) (assume : Option (List ℕ)) (seen : Contents) (text : List ℕ)
      → HoldsOf raw images narrowing lists read spelled bounds device (AcceptedReply device (Premises cert true)) assume seen text
      → HoldsAsRead device (Premises cert true) assume seen text
  causes_as device cert assume seen text h =
      let ends = told_clear.places.ends h.task h.claim h.told.places h.told.nevers h.fit h.stand.fits.claim h.valid.sound h.told.are h.told.are_nevers in
      holds_as device (Premises cert true) assume seen text h
      (record {
        places = h.told.places;
        nevers = h.told.nevers;
        are = h.told.are;
        are_nevers = h.told.are_nevers;
        causes = told_clear.places.told h.task h.claim h.told.places h.told.are;
        ends = ends;
        none_flagged = λ no_places no_nevers m choices flag reset run stops.
            none_told h.task m choices flag h.told.places h.told.nevers no_places no_nevers (ends m choices flag reset run stops);
        as_clear = λ none verdict is.
            let same =
            told_clear.empty h.task.flash h.claim verdict (map word_of h.told.places) is (subst (λ B. AreSites (task_with h.task.flash B) h.claim (map word_of h.told.places)) none h.told.are.sites) in
            (λ e. no_words h.told.places (same.0 e), λ e. same.1 (ap (map word_of) e));
        told = h.told.says.1;
      })

  places_zero : (why : Bool) (names : List Named) (task : Task) (c : Claim) (status : Status) (text : List ℕ) → PlacesReply why names task c status text → status ≡ exit.Done
  places_zero false names task c status text k = k.says.0
  places_zero true names task c status text k = k.says.0

  places_as : (why : Bool) (device : Device) (cert : List ℕ) (assume : Option (List ℕ)) (seen : Contents) (text : List ℕ)
      → HoldsOf raw images narrowing lists read spelled bounds device (AcceptedReply device (Premises cert why)) assume seen text
      → HoldsAsRead device (Premises cert why) assume seen text
  places_as false device cert assume seen text h = premises_as device cert assume seen text h
  places_as true device cert assume seen text h = causes_as device cert assume seen text h

  no_reply : Accepting
  no_reply bytes task c status text = ⊥

  -- ---- analyse

  abbrev AfterAnalysis : Device → Option ℕ → List ℕ → Option (List ℕ) → Reply
  AfterAnalysis device steps firmware list = WithImage device firmware (λ words. WithList device list (λ A. AnalyseReply (task_with words A) steps))

  least_text : (device : Device) (assume : Option (List ℕ)) (steps : Option ℕ) (seen : Contents) (text firmware : List ℕ) (list : Option (List ℕ)) (A : List Entry) → AreLoaded assume seen firmware list
      → IsFirmware device firmware (firmware_image device firmware) → IsListOf device list A → AreWords (firmware_image device firmware) → AnalyseReply (task_with (firmware_image device firmware) A) steps exit.Done text → IsLeastAsRead device assume seen text
  least_text device assume steps seen text firmware list A loaded image listed has (inr h) = absurd (not_written answers rounds solutions bounds runs (task_with (firmware_image device firmware) A) steps
      (means_fit device firmware list (task_with (firmware_image device firmware) A) image listed) text h)
  least_text device assume steps seen text firmware list A loaded image listed has (inl h) =
      let best = analysis_best answers rounds solutions bounds runs (task_with (firmware_image device firmware) A) steps h.claim h.analysis in
      let stand : StandFor device firmware text list (task_with (firmware_image device firmware) A) h.claim = record { mean = record { image = image; assumptions = listed }; made_for = best.valid.sound.meets.device; fits = best.fits; bytes = h.says.1 } in
      record {
        firmware = firmware;
        list = list;
        read = loaded;
        certificate = record {
          task = task_with (firmware_image device firmware) A;
          claim = h.claim;
          stand = stand;
          valid = best.valid;
          least = best.least;
          bounded = best_bounds answers rounds solutions bounds runs (task_with (firmware_image device firmware) A) steps h.claim has best;
          reached = best.reached;
          trials = best.trials;
          short = subst (λ (t : List ℕ). length t ≤ certificate_cap) (sym h.says.1) (fit (task_with (firmware_image device firmware) A) steps h.claim h.analysis best.fits);
        };
        again = λ fw cert.
            valid_judged raw images narrowing lists read spelled bounds device (AcceptedReply device (Check cert)) fw cert assume (record seen { second = Whole text }) firmware text list (task_with (firmware_image device firmware) A) h.claim
            (record { loaded = record { firmware_read = loaded.firmware_read; list_read = loaded.list_read }; second_read = refl }) stand exit.Done (accepted h.claim.bound (is_some h.claim.witness)) best.valid (refl, refl);
      }

  zero_analysis : (device : Device) (fw : List ℕ) (assume : Option (List ℕ)) (steps : Option ℕ) (seen : Contents) (text : List ℕ) → ((firmware : List ℕ) → seen.firmware ≡ Whole firmware → AreWords (firmware_image device firmware))
      → IsReply (request device fw assume (Analyse steps)) seen exit.Done text → IsLeastAsRead device assume seen text
  zero_analysis device fw assume steps seen text has h =
      let first = zero_file fw seen.firmware _ text h in
      let second = zero_optional assume seen.assumptions (AfterAnalysis device steps first.0) text first.2 in
      let image = zero_image raw images narrowing device first.0 (λ ws. WithList device second.0 (λ B. AnalyseReply (task_with ws B) steps)) text second.2 in
      let list = zero_list lists device second.0 (λ B. AnalyseReply (task_with (firmware_image device first.0) B) steps) text image.1 in
      least_text device assume steps seen text first.0 second.0 list.0 (record { firmware_read = first.1; list_read = second.1 }) image.0 list.1 (has first.0 first.1) list.2

  analysis_read : (device : Device) (fw : List ℕ) (assume : Option (List ℕ)) (steps : Option ℕ) (seen : Contents) (status : Status) (text : List ℕ) → IsReply (request device fw assume (Analyse steps)) seen status text → AnswersRounds device assume steps seen status
  analysis_read device fw assume steps seen status text h firmware list task loaded mean =
      let first : WithOptional assume seen.assumptions (AfterAnalysis device steps firmware) status text = file_read fw seen.firmware firmware (λ b. WithOptional assume seen.assumptions (AfterAnalysis device steps b)) status text loaded.firmware_read h in
      let second = optional_read assume seen.assumptions list (AfterAnalysis device steps firmware) status text loaded.list_read first in
      let image = image_read raw images narrowing lists read spelled bounds device no_reply firmware task.flash (λ ws. WithList device list (λ B. AnalyseReply (task_with ws B) steps)) status text mean.image second in
      says_ends answers rounds solutions bounds runs task steps (means_fit device firmware list task mean.image mean.assumptions) status text
      (analyse_ends answers rounds solutions bounds runs task steps status text (list_read raw images narrowing lists read spelled bounds device no_reply list task.assumptions (λ B. AnalyseReply (task_with task.flash B) steps) status text mean.assumptions image))

  -- ---- simulate

  abbrev AfterPeripherals : Device → ℕ → List ℕ → List ℕ → Option (List ℕ) → Reply
  AfterPeripherals device steps firmware peripherals list = WithImage device firmware (λ words. WithList device list (λ A. SimulateReply (task_with words A) steps (setup_in (device_of words) peripherals)))

  -- status 0 comes with a setup, and a setup gives status 0
  zero_setup : (task : Task) (steps : ℕ) (x : Result Setup PeripheralsFault) (text : List ℕ) → SimulateReply task steps x exit.Done text
      → (setup : Setup) × (x ≡ Ok setup) × (text ≡ run_text (device_of task.flash) (simulation_of task.flash task.assumptions setup steps))
  zero_setup task steps (Err fault) text h = absurd (zero_refused exit.BadPeripherals not_peripherals (peripherals_refused fault) text h)
  zero_setup task steps (Ok setup) text h = (setup, refl, h.1)

  zero_simulation : (device : Device) (fw dev : List ℕ) (assume : Option (List ℕ)) (steps : ℕ) (seen : Contents) (text : List ℕ) → ((firmware : List ℕ) → seen.firmware ≡ Whole firmware → AreWords (firmware_image device firmware))
      → IsReply (request device fw assume (Simulate dev steps)) seen exit.Done text → IsSimulatedAsRead device assume steps seen text
  zero_simulation device fw dev assume steps seen text has h =
      let first = zero_file fw seen.firmware _ text h in
      let second = zero_file dev seen.second _ text first.2 in
      let third = zero_optional assume seen.assumptions (AfterPeripherals device steps first.0 second.0) text second.2 in
      let image : Image = firmware_image device first.0 in
      let loaded = zero_image raw images narrowing device first.0 (λ ws. WithList device third.0 (λ B. SimulateReply (task_with ws B) steps (setup_in (device_of ws) second.0))) text third.2 in
      let list = zero_list lists device third.0 (λ B. SimulateReply (task_with image B) steps (setup_in (device_of image) second.0)) text loaded.1 in
      let setup = zero_setup (task_with image list.0) steps (setup_in (device_of image) second.0) text list.2 in
      let reads = peripherals.read device second.0 setup.0 setup.1 in
      record {
        firmware = first.0;
        peripherals = second.0;
        list = third.0;
        read = record { loaded = record { firmware_read = first.1; list_read = third.1 }; second_read = second.1 };
        simulated = record {
          task = task_with image list.0;
          setup = setup.0;
          mean = record { image = loaded.0; assumptions = list.1 };
          reads = reads;
          told = setup.2;
          within = λ c claim valid. simulations device image list.0 setup.0 steps c.bound reads.fits (bounds (task_with image list.0) c (has first.0 first.1) claim valid.sound);
        };
      }

  simulated_by : (task : Task) (steps : ℕ) (text bytes : List ℕ) (status : Status) → SimulateReply task steps (setup_in (device_of task.flash) bytes) status text → (status ≡ exit.Done) ↔ ((setup : Setup) × ArePeripherals (device_of task.flash) bytes setup)
  simulated_by task steps text bytes status h = (
    λ zero. let s = zero_setup task steps (setup_in (device_of task.flash) bytes) text (subst (λ x. SimulateReply task steps (setup_in (device_of task.flash) bytes) x text) zero h) in (s.0, peripherals.read (device_of task.flash) bytes s.0 s.1),
    λ s. (subst (λ x. SimulateReply task steps x status text) (peripherals.spelled (device_of task.flash) bytes s.0 s.1) h).0,
  )

  simulation_read : (device : Device) (fw dev : List ℕ) (assume : Option (List ℕ)) (steps : ℕ) (seen : Contents) (status : Status) (text : List ℕ) → IsReply (request device fw assume (Simulate dev steps)) seen status text → AnswersPeripherals device assume seen status
  simulation_read device fw dev assume steps seen status text h firmware peripherals list task are mean =
      let first = file_read fw seen.firmware firmware _ status text are.loaded.firmware_read h in
      let second = file_read dev seen.second peripherals _ status text are.second_read first in
      let third = optional_read assume seen.assumptions list (AfterPeripherals device steps firmware peripherals) status text are.loaded.list_read second in
      let image = image_read raw images narrowing lists read spelled bounds device no_reply firmware task.flash (λ ws. WithList device list (λ B. SimulateReply (task_with ws B) steps (setup_in (device_of ws) peripherals))) status text mean.image third in
      subst (λ (d : Device). (status ≡ exit.Done) ↔ ((setup : Setup) × ArePeripherals d peripherals setup)) mean.image.narrowed.is
      (simulated_by task steps text peripherals status
      (list_read raw images narrowing lists read spelled bounds device no_reply list task.assumptions (λ B. SimulateReply (task_with task.flash B) steps (setup_in (device_of task.flash) peripherals)) status text mean.assumptions image))

  -- ---- demo

  measured : (size : ℕ) (text : List ℕ) → DemoReply size exit.Done text → IsMeasured size text
  measured size text (inl h) = record { claim = h.claim; fits = h.fits; answer = h.answer; told = h.says.1 }
  measured size text (inr k) = absurd (not_written answers rounds solutions bounds runs (bare (demo_program size)) None (none_fit (device_of (demo_program size))) text k)

  demo_ends : (size : ℕ) (status : Status) (text : List ℕ) → DemoReply size status text → Ends answers rounds solutions bounds runs (bare (demo_program size)) None status text
  demo_ends size status text (inl h) = inl (record { claim = h.claim; fits = h.fits; answer = h.answer; zero = h.says.0 })
  demo_ends size status text (inr k) = inr k

  -- ---- all

  -- a work whose reply is by the verdict on its certificate
  judged_holds : (device : Device) (fw cert : List ℕ) (assume : Option (List ℕ)) (work : Work) (seen : Contents) (status : Status) (text : List ℕ) → IsReplyJudged device (AcceptedReply device work) fw cert assume seen status text
      → (status ≡ exit.Done → (firmware : List ℕ) → seen.firmware ≡ Whole firmware → AreWords (firmware_image device firmware)) → status ≡ exit.Done
      → HoldsOf raw images narrowing lists read spelled bounds device (AcceptedReply device work) assume seen text
  judged_holds device fw cert assume work seen status text h has zero =
      judgement_holds raw images narrowing lists read spelled bounds device (AcceptedReply device work) fw cert assume seen text (has zero) (subst (λ s. IsReplyJudged device (AcceptedReply device work) fw cert assume seen s text) zero h)

  work_holds : (device : Device) (fw : List ℕ) (assume : Option (List ℕ)) (work : Work) (seen : Contents) (status : Status) (text : List ℕ) → IsReply (request device fw assume work) seen status text
      → (status ≡ exit.Done → (firmware : List ℕ) → seen.firmware ≡ Whole firmware → AreWords (firmware_image device firmware)) → WorkHeadline device assume work seen status text
  work_holds device fw assume (Check cert) seen status text h has = λ zero. holds_as device (Check cert) assume seen text (judged_holds device fw cert assume (Check cert) seen status text h has zero) tt
  work_holds device fw assume (Analyse steps) seen status text h has =
      λ zero. zero_analysis device fw assume steps seen text (has zero) (subst (λ s. IsReply (request device fw assume (Analyse steps)) seen s text) zero h)
  work_holds device fw assume (Run schedule) seen status text h has = tt
  work_holds device fw assume (Report cert json) seen status text h has =
      λ zero. holds_as device (Report cert json) assume seen text (judged_holds device fw cert assume (Report cert json) seen status text h has zero) tt
  work_holds device fw assume (Explain cert) seen status text h has = λ zero. explained_as device cert assume seen text (judged_holds device fw cert assume (Explain cert) seen status text h has zero)
  work_holds device fw assume (Clear cert) seen status text h has = λ zero. clear_as device cert seen text (judged_holds device fw cert None (Clear cert) seen status text h has zero)
  work_holds device fw assume (Premises cert why) seen status text h has =
      λ zero. places_as why device cert assume seen text (judged_holds device fw cert assume (Premises cert why) seen status text h has zero)
  work_holds device fw assume (Attain cert trials) seen status text h has =
      λ zero. attained_as device cert assume trials seen text (judged_holds device fw cert assume (Attain cert trials) seen status text h has zero)
  work_holds device fw assume (Simulate dev steps) seen status text h has =
      λ zero. zero_simulation device fw dev assume steps seen text (has zero) (subst (λ s. IsReply (request device fw assume (Simulate dev steps)) seen s text) zero h)

  pub replies_hold : AcceptingRepliesHold
  replies_hold (On r) seen status text h has = work_holds r.device r.firmware r.assume r.work seen status text h has
  replies_hold (Demo size) seen status text h has = λ zero. measured size text (subst (λ s. IsReply (Demo size) seen s text) zero h)
  replies_hold (About topic) seen status text h has = h.1

  work_is_exact : (device : Device) (fw : List ℕ) (assume : Option (List ℕ)) (work : Work) (seen : Contents) (status : Status) (text : List ℕ) → IsReply (request device fw assume work) seen status text
      → IsWorkExact device assume work seen status
  work_is_exact device fw assume (Check cert) seen status text h =
      accepts_valid device (Check cert) fw cert assume seen status text (λ bytes task c s t k. k.0) (λ task c s k. record { accepted = k.accepted; unclear = (k.unclear, λ b. absurd b); rejected = k.rejected }) h
  work_is_exact device fw assume (Analyse steps) seen status text h = analysis_read device fw assume steps seen status text h
  work_is_exact device fw assume (Run schedule) seen status text h = tt
  work_is_exact device fw assume (Report cert json) seen status text h =
      accepts_valid device (Report cert json) fw cert assume seen status text (λ bytes task c s t k. k.0) (λ task c s k. record { accepted = k.accepted; unclear = (k.unclear, λ b. absurd b); rejected = k.rejected }) h
  work_is_exact device fw assume (Explain cert) seen status text h =
      accepts_valid device (Explain cert) fw cert assume seen status text (λ bytes task c s t k. k.says.0) (λ task c s k. record { accepted = k.accepted; unclear = (k.unclear, λ b. absurd b); rejected = k.rejected }) h
  work_is_exact device fw assume (Clear cert) seen status text h = clear_read device fw cert seen status text h
  work_is_exact device fw assume (Premises cert why) seen status text h =
      accepts_valid device (Premises cert why) fw cert assume seen status text (λ bytes task c s t k. places_zero why (firmware_names device bytes) task c s t k) (λ task c s k. record { accepted = k.accepted; unclear = (k.unclear, λ b. absurd b); rejected = k.rejected }) h
  work_is_exact device fw assume (Attain cert trials) seen status text h =
      accepts_valid device (Attain cert trials) fw cert assume seen status text (λ bytes task c s t k. k.says.0) (λ task c s k. record { accepted = k.accepted; unclear = (k.unclear, λ b. absurd b); rejected = k.rejected }) h
  work_is_exact device fw assume (Simulate dev steps) seen status text h = simulation_read device fw dev assume steps seen status text h

  pub replies_are_exact : RepliesAreExact
  replies_are_exact (On r) seen status text h = work_is_exact r.device r.firmware r.assume r.work seen status text h
  replies_are_exact (Demo size) seen status text h = says_ends answers rounds solutions bounds runs (bare (demo_program size)) None (none_fit (device_of (demo_program size))) status text (demo_ends size status text h)
  replies_are_exact (About topic) seen status text h = h.0
