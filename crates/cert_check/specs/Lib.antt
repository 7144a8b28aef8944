pub mod Reading
pub mod Verdict
pub mod Laws
pub mod Demands
pub mod Sites
