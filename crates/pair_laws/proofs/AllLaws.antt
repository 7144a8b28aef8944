-- The laws, each under the name of its public function. Crates above cite them from here.
use Rattle.pair_laws.specs.Laws.{OperandsFit, ValuesAreCovered}
use Rattle.pair_laws.proofs.Operands.{registers_there}
use Rattle.pair_laws.proofs.Doubled.{doubled_is_covered}
use Rattle.pair_laws.proofs.FlashJoin.{constant_covers, unknown_covers, pair_permits_it}
pub use Rattle.pair_laws.proofs.Flags.{flags_are_cut}
pub use Rattle.pair_laws.proofs.Registers.{bits_are_cut}
pub use Rattle.pair_laws.proofs.Equals.{equals_are_cut}
pub use Rattle.pair_laws.proofs.Picks.{picks_are_cut}
pub use Rattle.pair_laws.proofs.Refined.{refined_holds, refined_is_ordered}

pub operands_fit : OperandsFit
operands_fit = record { fit = registers_there }

pub values_are_covered : ValuesAreCovered
values_are_covered = record {
  doubled = λ bits flags carry. doubled_is_covered bits flags carry;
  constant = constant_covers;
  unknown = unknown_covers;
  permits = pair_permits_it;
}
