use Rattle.flash_image.proofs.Behind.{narrowed, none_outside, narrows, one_outside}
use Rattle.flash_image.proofs.laws.narrowing_is_exact.Goals as goal

pub returns : goal.returns
returns c = record { words = narrowed; none = none_outside; some = narrows; outside = one_outside }
