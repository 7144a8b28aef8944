pub mod Cuts
pub mod Settling
pub mod Waking
