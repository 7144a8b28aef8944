pub mod Examples
pub mod Leading
pub mod Adding
pub mod Conditions
pub mod Sites
pub mod Stores
