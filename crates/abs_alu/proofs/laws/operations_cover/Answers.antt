use Rattle.abs_alu.proofs.BitwiseCover.{all_bitwise_cover}
use Rattle.abs_alu.proofs.Monotone.{all_are_monotone}
use Rattle.abs_alu.proofs.ProductCover.{all_products_cover}
use Rattle.abs_alu.proofs.SumCover.{all_sums_cover}
use Rattle.abs_alu.proofs.WordCover.{all_words_cover}
use Rattle.abs_alu.proofs.laws.operations_cover.Goals as goal

pub returns : goal.returns
returns c = record {
  sums = all_sums_cover;
  bitwise = all_bitwise_cover;
  products = all_products_cover;
  words = all_words_cover;
  monotone = all_are_monotone;
}
