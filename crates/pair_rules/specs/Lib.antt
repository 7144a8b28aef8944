pub mod Hulls
pub mod Flash
pub mod Told
pub mod Tags
pub mod Values
pub mod Refined
pub mod Fits
pub mod Examples
