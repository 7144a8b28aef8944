pub mod SameState
pub mod Digest
pub mod Equal
pub mod Uses
pub mod Numbers
pub mod Places
pub mod Laws
pub mod Counts
