use Rattle.std.proofs.Common.{arith, inl, inr}
use Rattle.cert_words.proofs.Any.{any_one, any_two}
use Rattle.cert_words.proofs.values.are_any.Goals as goal

pub returns-in-48 : goal.returns-in-48
returns-in-48 c is tag = rw c.in-One.is (any_one c.args.letters.now (omega arith) (omega arith) (omega arith) (omega arith) (omega arith) tag)

pub returns-in-48-matches : goal.returns-in-48-matches
returns-in-48-matches c is tag =
    let long = any_two c.args.letters.now (omega arith) (omega arith) (omega arith) (omega arith) (omega arith) (omega arith) (omega arith) (omega arith) (omega arith) tag in
    elim c.in-Two.is [
      | inl h ↦ rw h long
      | inr h ↦ rw h long
    ]
