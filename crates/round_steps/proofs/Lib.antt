pub mod Seeing
pub mod Besides
pub mod Joins
pub mod Gathers
