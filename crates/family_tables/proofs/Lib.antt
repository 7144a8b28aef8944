pub mod Growing
pub mod Sampled
pub mod Clearness
