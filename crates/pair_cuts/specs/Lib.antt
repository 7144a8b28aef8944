pub mod Places
pub mod Bytes
pub mod Outcomes
pub mod Cuts
pub mod Examples
