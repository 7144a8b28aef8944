-- The hulls of all register pairs are valid for reading intervals.
use Rattle.std.proofs.Common.{ℕ, ◌<◌, List}
use Rattle.bit_domain.specs.Ranges.{RangesFit}
use Rattle.abs_state.specs.declared.values.AbsByte.{AbsByte}
use Rattle.abs_state.specs.Values.{value_at}
use Rattle.abs_state.specs.Formed.{ByteFits}
use Rattle.pair_words.specs.Laws.{AreHulls}
use Rattle.certificate.specs.Hulls.{hulls_of}
use Rattle.certificate.proofs.AllLaws.{count_hulls, hull_fits}
pub use Rattle.certificate.proofs.AllLaws.{hull_here}

pub are_hulls : RangesFit → (registers : List AbsByte) → ((r : ℕ) → r < 32 → ByteFits (value_at registers r)) → AreHulls (hulls_of registers)
are_hulls g registers each = record { count = count_hulls registers; each = λ n h. hull_fits registers n h each }
