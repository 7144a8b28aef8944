pub mod Nestings
pub mod Hashes
pub mod Drawn
pub mod Covers
pub mod Exits
pub mod Lowering
