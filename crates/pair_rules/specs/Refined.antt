-- The state after an instruction if pairs are followed: the state by the plain rules, refined by the transfer function of pairs.
-- Branches, skips and picks of a jump table have their own cuts. Source: own.
use Rattle.std.specs.Prelude.{ℕ, List, Option, Some, None}
use Rattle.avr_model.specs.declared.instruction.Instr.{Instr}
use Rattle.avr_model.specs.Written.{written}
use Rattle.avr_model.specs.Devices.{Image}
use Rattle.pair_domain.specs.declared.intervals.Interval.{Interval}
use Rattle.pair_domain.specs.declared.facts.PairFacts.{PairFacts}
use Rattle.pair_domain.specs.Intervals.{interval_meet}
use Rattle.pair_domain.specs.PairSets.{PairSet, with_interval, narrow_pair}
use Rattle.pair_domain.specs.Marks.{outward}
use Rattle.abs_state.specs.declared.state.AbsState.{AbsState}
use Rattle.abs_state.specs.Cuts.{cut_state}
use Rattle.pair_rules.specs.declared.told.Told.{Told}
use Rattle.pair_rules.specs.declared.told.Told.TheVariants as told
use Rattle.pair_rules.specs.Hulls.{all_hulled}
use Rattle.pair_rules.specs.Told.{told_by}
use Rattle.pair_rules.specs.Tags.{tagged}
use Rattle.pair_rules.specs.Values.{retold}

-- cuts the interval; the bytes stay
abbrev pub meet_pair : PairSet → Interval → Option PairSet
meet_pair p j = with_interval p (interval_meet p.interval j)

-- Cuts the state by the result of the transfer function; none if nothing is left.
abbrev pub cut_told : List ℕ → Told → AbsState → Option AbsState
cut_told marks told.Nothing t = Some t
cut_told marks (told.Kept n j) t = cut_state (λ p. meet_pair p j) t n
cut_told marks (told.Computed n j) t = cut_state (λ p. narrow_pair p (outward marks j)) t n

-- the intervals of written pairs become their hulls
abbrev pub with_hulls : List ℕ → AbsState → AbsState
with_hulls rs t = record t { facts = all_hulled t.registers rs t.facts }

abbrev pub with_tags : AbsState → PairFacts → Instr → AbsState → AbsState
with_tags s f instr t = record t { facts = tagged s.registers f instr t.facts }

-- refined values, then hulls, then the interval of the transfer function, then tags
abbrev pub tags_then : AbsState → PairFacts → Instr → Option AbsState → Option AbsState
tags_then s f instr None = None
tags_then s f instr (Some t) = Some (with_tags s f instr t)

abbrev pub told_then : List ℕ → AbsState → PairFacts → Instr → Option AbsState → Option AbsState
told_then marks s f instr None = None
told_then marks s f instr (Some t) = tags_then s f instr (cut_told marks (told_by s.registers f instr) (with_hulls (written instr) t))

abbrev pub refined_known : List ℕ → Image → Instr → AbsState → AbsState → Option PairFacts → Option AbsState
refined_known marks image instr s t None = Some t
refined_known marks image instr s t (Some f) = told_then marks s f instr (retold image s f instr t)

-- s is the state before an instruction, and the other the one after it by the plain rules, with the facts on written registers ended. For
-- a store it is the state before the byte is stored. None if no machine gets there.
abbrev pub refined : List ℕ → Image → Instr → AbsState → AbsState → Option AbsState
refined marks image instr s t = refined_known marks image instr s t s.facts
