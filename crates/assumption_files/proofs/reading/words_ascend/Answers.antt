use Rattle.std.proofs.Common.{rules}
use Rattle.std.specs.Prelude.{nat_lt}
use Rattle.std.proofs.lemmas.List.Sorted.{answers_always}
use Rattle.assumption_files.proofs.Numbers.{ascends_answer}
use Rattle.assumption_files.proofs.reading.words_ascend.Goals as goal

pub returns : goal.returns
returns c =
    ascends_answer c.args.items.now c.is_sorted_by.result (c.is_sorted_by.ensures.cases nat_lt (answers_always _ _ _ (λ f a r g k. search rules)))
