use Rattle.std.proofs.Common.{length, sym, ap, ◌∙◌}
use Rattle.line_reading.proofs.Digits.{no_letter, one_letter}
use Rattle.line_reading.proofs.letters.Letters.byte.Goals as goal

pub returns-in_default : goal.returns-in_default
returns-in_default c = no_letter _ (ap length (sym c.self.view_is) ∙ c.in_default.ensures.cases)

pub returns-in_default-split_first : goal.returns-in_default-split_first
returns-in_default-split_first c = one_letter _ _ _ (sym c.self.view_is ∙ c.in-Some.ensures.cases.0) c.in_default-split_first.ensures.cases
