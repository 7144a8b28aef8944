pub mod Examples
pub mod Seeds
pub mod Stores
pub mod Clearness
