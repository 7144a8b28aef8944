use Rattle.std.proofs.Common.{◌≡◌, ◌≤◌, drop}
use Rattle.text_base.specs.Digits.{number_from}
use Rattle.text_base.proofs.digits.dec_number.Given as goal

abbrev pub invariant-loop-digit : goal.invariant-loop-digit
invariant-loop-digit l = (number_from 10 l.number (drop l.digit-index l.digits) ≡ number_from 10 0 l.digits) × (l.number ≤ l.most)
