use Rattle.std.proofs.Common.{◌≡◌, ◌∙◌, length, subst, sym, arith}
use Rattle.row_tests.specs.Told.{IsTold}
use Rattle.row_tests.proofs.Told.{told_more}
use Rattle.row_tests.proofs.tell.Goals as goal

pub loop-name-preserved : goal.loop-name-preserved
loop-name-preserved g c = (
  λ none.
      told_more g.R.WorkedRow.IsRight (λ rows. rows.now) c.args.tables.now c.loop-name.name-index c.loop-name-item.result c.loop-name-test.true c.loop-name-item.is
      c.loop-name.told.wrong c.tell_row.new.told.wrong c.wrong_row.result (c.loop-name.invariant.0 none) c.wrong_row.ensures.inside c.wrong_row.ensures.earlier c.wrong_row.ensures.none
      c.tell_row.ensures.first c.tell_row.ensures.kept,
  λ some. let same = c.loop-name.invariant.1 some in c.tell_row.ensures.kept (λ none. some (sym same ∙ none)) ∙ same,
)

pub returns-clause-first : goal.returns-clause-first
returns-clause-first g c none =
    let full : c.loop-name.name-index ≡ length c.args.tables.now = omega (arith, c.loop-name-test.false, c.loop-name.auto.name-index-end) in
    subst (λ n. IsTold g.R.WorkedRow.IsRight (λ rows. rows.now) c.args.tables.now n c.loop-name.told.wrong) full (c.loop-name.invariant.0 none)
