pub mod Report
pub mod Explained
pub mod Json
pub mod Laws
pub mod Examples
