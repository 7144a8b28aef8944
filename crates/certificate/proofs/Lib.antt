pub mod Kept
pub mod Sound
pub mod Instances
pub mod PairHulls
pub mod AllLaws
