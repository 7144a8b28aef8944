use Rattle.std.proofs.Common.{sym, ◌∙◌, codes}
use Rattle.clap.specs.Words.{found_of}
use Rattle.clap.proofs.WalkLemmas.{first_value-rows, one_text-rows}
use Rattle.commands.proofs.Found.{text_is, mark_is}
use Rattle.commands.proofs.words.line_in.Goals as goal

pub returns : goal.returns
returns c = λ l t.
    let found = found_of c.args.matches.now in
    let first = text_is c.get_str.result ∙ c.get_str.ensures ∙ first_value-rows found (codes "first") ∙ t.first in
    let second = text_is c.get_str-2.result ∙ c.get_str-2.ensures ∙ first_value-rows found (codes "second") ∙ t.second in
    let assume = text_is c.get_str-3.result ∙ c.get_str-3.ensures ∙ first_value-rows found (codes "assume") ∙ t.assume in
    let steps = text_is c.get_str-4.result ∙ c.get_str-4.ensures ∙ first_value-rows found (codes "steps") ∙ t.steps in
    let device = text_is c.get_str-5.result ∙ c.get_str-5.ensures ∙ first_value-rows found (codes "device") ∙ t.device in
    let trials = text_is c.get_str-6.result ∙ c.get_str-6.ensures ∙ first_value-rows found (codes "trials") ∙ t.trials in
    let json_rows = one_text-rows found (codes "json") in
    let why_rows = one_text-rows found (codes "why") in
    let json = mark_is l.json c.get_flag.result _ t.json (λ e. c.get_flag.ensures.none (json_rows ∙ e)) (λ e. c.get_flag.ensures.value (json_rows ∙ e)) (λ e. c.get_flag.ensures.other (json_rows ∙ e)) in
    let why = mark_is l.why c.get_flag-2.result _ t.why (λ e. c.get_flag-2.ensures.none (why_rows ∙ e)) (λ e. c.get_flag-2.ensures.value (why_rows ∙ e)) (λ e. c.get_flag-2.ensures.other (why_rows ∙ e)) in
    let waits = sym t.waits in
    λ i. record {
      first = first i;
      second = second i;
      assume = assume i;
      steps = steps i;
      device = device i;
      trials = trials i;
      json = json i;
      why = why i;
      waits = waits i;
    }
