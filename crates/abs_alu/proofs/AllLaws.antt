-- The lemmas that crates above cite.
pub use Rattle.abs_alu.proofs.BitwiseCover.{all_bitwise_cover, step_small, logic_small, top_small}
pub use Rattle.abs_alu.proofs.Monotone.{all_are_monotone}
pub use Rattle.abs_alu.proofs.ProductCover.{all_products_cover, fits_small, mixed_small, result_small, signed_small, word_small, any_has}
pub use Rattle.abs_alu.proofs.SumCover.{all_sums_cover}
pub use Rattle.abs_alu.proofs.WordCover.{all_words_cover}
pub use Rattle.abs_alu.proofs.FlagCover.{below_two, has_known, same_within}
