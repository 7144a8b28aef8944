-- Conditions of branches and skips, which cut a state if pairs are followed.
use Rattle.std.specs.Prelude.{◌<◌, ⊤, Bool, not, [], ◌∷◌, Option}
use Rattle.avr_model.specs.Devices.{Image}
use Rattle.abs_state.specs.declared.state.AbsState.{AbsState}
use Rattle.pair_cuts.specs.Cuts.{flag_cut, bit_cut, equal_cut}
use Rattle.local_rules.specs.Raw.{Raw, all_of}
use Rattle.local_rules.specs.Site.{Site}
use Rattle.local_rules.specs.Flow.{going_where}
use Rattle.local_rules.specs.Local.{cut_skip}
use Rattle.abs_step.specs.declared.pairs.Ways.{Ways}
use Rattle.abs_step.specs.declared.pairs.PairTest.{PairTest}
use Rattle.abs_step.specs.declared.pairs.PairTest.TheVariants.{Flag, Bit, Equal}

-- I is in the key, and a byte has eight bits
abbrev pub IsTest : PairTest → Type 0
IsTest (Flag n) = n < 7
IsTest (Bit r b) = b < 8
IsTest (Equal d r) = ⊤

-- the state if the test has this outcome
abbrev pub cut_by : PairTest → Bool → AbsState → Option AbsState
cut_by (Flag n) on s = flag_cut n on s
cut_by (Bit r b) on s = bit_cut r b on s
cut_by (Equal d r) on s = equal_cut d r on s

-- to one word if the test has this outcome, and to the other if it has not
abbrev pub both_by : Site → PairTest → Bool → Ways → Raw
both_by at test on ways =
    all_of (going_where at.key (cut_by test on at.state) ways.pc ∷ going_where at.key (cut_by test (not on) at.state) ways.other ∷ [])

-- past the next instruction, unless the test has this outcome
abbrev pub skip_by : Image → Site → PairTest → Bool → Raw
skip_by image at test on = cut_skip image at (cut_by test (not on) at.state) (cut_by test on at.state)
