use Rattle.std.proofs.Common.{◌∙◌, sym, ap, ◌/◌}
use Rattle.pair_domain.specs.Narrow.{narrow}
use Rattle.pair_domain.specs.PairSets.{narrow_pair}
use Rattle.pair_cuts.specs.declared.places.CutPlace.{CutPlace}
use Rattle.pair_cuts.specs.Places.{on_byte, narrow_at}
use Rattle.pair_cuts.proofs.Written.{is_cut}
use Rattle.pair_cuts.proofs.places.narrow_at.Goals as goal

pub returns-in-Byte : goal.returns-in-Byte
returns-in-Byte c =
    is_cut (on_byte c.in-Byte.r (λ b. narrow b c.args.interval.low c.args.interval.high)) c.args.state.now (c.in-Byte.r / 2) _ _ _ _ c.bytes_at-pair.ensures c.narrow_byte.ensures c.put.ensures
    ∙ sym (ap (λ (p : CutPlace). narrow_at p c.args.interval c.args.state.now) c.in-Byte.is)

pub returns-in-Pair : goal.returns-in-Pair
returns-in-Pair c =
    is_cut (λ p. narrow_pair p c.args.interval) c.args.state.now (c.in-Pair.r / 2) _ _ _ _ c.bytes_at-pair-in-Pair.ensures c.narrow.ensures c.put-in-Pair.ensures
    ∙ sym (ap (λ (p : CutPlace). narrow_at p c.args.interval c.args.state.now) c.in-Pair.is)
