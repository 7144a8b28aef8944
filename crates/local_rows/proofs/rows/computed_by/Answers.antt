use Rattle.std.proofs.Common.{◌∙◌, sym, ap, true, false, Some}
use Rattle.local_rules.specs.Registers.{wide_after, going_with}
use Rattle.local_rules.specs.Local.{row_of}
use Rattle.local_rules.specs.Site.{site_at}
use Rattle.local_rows.specs.Sections.{computed_by}
use Rattle.local_rows.proofs.rows.computed_by.Goals as goal

pub returns-in-Adiw-clause-value : goal.returns-in-Adiw-clause-value
returns-in-Adiw-clause-value c =
    let is = c.wide-computed.ensures ∙ (λ p. wide_after c.args.view c.args.state.now true (c.doubled-in-Adiw.ensures p) (c.get.ensures.value p)) in
    ap Some is ∙ ap (computed_by c.args.view c.args.line c.args.state.now) (sym c.in-Adiw.is)

pub returns-in-Adiw-clause-row : goal.returns-in-Adiw-clause-row
returns-in-Adiw-clause-row c task scratch device k seen line =
    let is = c.wide-computed.ensures ∙ (λ p. wide_after (seen p) c.args.state.now true (c.doubled-in-Adiw.ensures p) (c.get.ensures.value p)) in
    ap (row_of task scratch (site_at device k c.args.state.now)) c.in-Adiw.is ∙ ap (going_with (site_at device k c.args.state.now)) (sym is)

pub returns-in-Sbiw-clause-value : goal.returns-in-Sbiw-clause-value
returns-in-Sbiw-clause-value c =
    let is = c.wide-computed-in-Sbiw.ensures ∙ (λ p. wide_after c.args.view c.args.state.now false (c.doubled-in-Sbiw.ensures p) (c.get-in-Sbiw.ensures.value p)) in
    ap Some is ∙ ap (computed_by c.args.view c.args.line c.args.state.now) (sym c.in-Sbiw.is)

pub returns-in-Sbiw-clause-row : goal.returns-in-Sbiw-clause-row
returns-in-Sbiw-clause-row c task scratch device k seen line =
    let is = c.wide-computed-in-Sbiw.ensures ∙ (λ p. wide_after (seen p) c.args.state.now false (c.doubled-in-Sbiw.ensures p) (c.get-in-Sbiw.ensures.value p)) in
    ap (row_of task scratch (site_at device k c.args.state.now)) c.in-Sbiw.is ∙ ap (going_with (site_at device k c.args.state.now)) (sym is)
