pub mod Looks
pub mod Notings
pub mod Targets
pub mod Gathers
pub mod Joins
