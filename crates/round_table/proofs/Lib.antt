pub mod Families
pub mod Entries
pub mod Shared
pub mod Keys
pub mod Raised
pub mod Groups
