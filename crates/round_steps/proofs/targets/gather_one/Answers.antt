use Rattle.std.proofs.Common.{refl, inl, inr}
use Rattle.round_steps.proofs.Gathers.{on_ok}
use Rattle.round_steps.proofs.targets.gather_one.Goals as goal

pub returns-then-covers : goal.returns-then-covers
returns-then-covers c = inl (c.covers.ensures.0 c.if-covers.true, refl)

pub returns : goal.returns
returns c = on_ok c.raise.result c.raise.ensures (λ is. inr (λ l. absurd (let t = c.covers.ensures.1 l in let f = c.if-covers.false in cc), is))

pub covers-requires : goal.covers-requires
covers-requires c = c.requires.1.formed.count_slots

pub raise-requires : goal.raise-requires
raise-requires c = c.requires.1.formed.count_slots
