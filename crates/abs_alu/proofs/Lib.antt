pub mod FlagCover
pub mod SumCover
pub mod BitwiseCover
pub mod ProductCover
pub mod WordCover
pub mod Monotone
pub mod AllLaws
