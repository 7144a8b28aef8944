pub mod Sized
pub mod Shared
pub mod Families
pub mod Crossings
