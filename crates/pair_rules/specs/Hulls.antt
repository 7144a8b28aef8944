-- The facts on pairs that survive an instruction, and the hulls that replace ended intervals. Source: own.
use Rattle.std.specs.Prelude.{ℕ, List, [], ◌∷◌, Option}
use Rattle.avr_model.specs.declared.instruction.Instr.{Instr}
use Rattle.avr_model.specs.Written.{written}
use Rattle.pair_domain.specs.declared.facts.PairFacts.{PairFacts}
use Rattle.abs_state.specs.declared.values.AbsByte.{AbsByte}
use Rattle.abs_state.specs.Ended.{is_one_of, ended, written_hull}
use Rattle.abs_state.specs.FlagsSet.{sets_flags, sets_carry}

-- the facts that the instruction does not end
abbrev pub ended_by : Instr → Option PairFacts → Option PairFacts
ended_by instr x = ended (is_one_of (written instr)) (sets_flags instr) (sets_carry instr) x

-- the interval of each of these registers' pairs becomes the hull of its bytes; RAMPZ is in no pair
abbrev pub all_hulled : List AbsByte → List ℕ → Option PairFacts → Option PairFacts
all_hulled registers [] x = x
all_hulled registers (r ∷ rs) x = all_hulled registers rs (written_hull registers r x)
