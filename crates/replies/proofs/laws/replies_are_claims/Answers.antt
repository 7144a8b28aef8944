use Rattle.replies.proofs.Codes.{codes_apart}
use Rattle.replies.proofs.One.{replies_are_one}
use Rattle.replies.proofs.Least.{AnalysesFit, analyses_fit}
use Rattle.replies.proofs.All.{PeripheralsAreExact, ClearIsTold, replies_hold, replies_are_exact}
use Rattle.replies.proofs.laws.replies_are_claims.Goals as goal

pub returns : goal.returns
returns c =
    let raw = c.raw_images_are_their_words.ensures in
    let narrowing = c.narrowing_is_exact.ensures in
    let texts = c.certificate_texts.ensures in
    let lists = c.reading_is_exact.ensures in
    let verdicts = c.verdicts_are_one.ensures in
    let bounds = c.sound_certificates_bound_every_run.ensures in
    let answers = c.answers_are_one.ensures in
    let chains = c.trials_are_due.ensures.one in
    let rounds = c.rounds_are_least.ensures in
    let solutions = c.solutions_are_valid.ensures in
    let runs = c.replays_are_runs.ensures.runs in
    let fit : AnalysesFit = analyses_fit c.texts_fit.ensures c.trials_are_due.ensures.short in
    let peripherals : PeripheralsAreExact = record { read = c.reading_is_exact-2.ensures.read; spelled = c.reading_is_exact-2.ensures.spelled } in
    let simulations = c.simulations_are_runs.ensures.bounded in
    let explanations = c.explanations_tell.ensures.tells in
    let told_clear : ClearIsTold =
    record { one = c.clear_answers_are_one.ensures.verdicts; never = c.flagged_runs_end_as_told.ensures.never; ends = c.flagged_runs_end_as_told.ensures.sites; places = c.flagged_runs_end_as_told.ensures.places; empty = c.clear_answers_are_one.ensures.clear } in
    record {
      one = replies_are_one texts.read verdicts answers chains c.explanations_tell.ensures.one c.clear_answers_are_one.ensures.verdicts c.clear_answers_are_one.ensures.sites c.clear_answers_are_one.ensures.places c.clear_answers_are_one.ensures.nevers;
      holds = replies_hold raw.one raw.some narrowing lists texts.read texts.spelled verdicts bounds answers chains rounds solutions runs fit peripherals simulations explanations told_clear c.trials_are_led.ensures c.texts_fit.ensures;
      exact = replies_are_exact raw.one raw.some narrowing lists texts.read texts.spelled verdicts bounds answers chains rounds solutions runs fit peripherals simulations explanations told_clear c.trials_are_led.ensures c.texts_fit.ensures;
      codes = codes_apart;
    }
