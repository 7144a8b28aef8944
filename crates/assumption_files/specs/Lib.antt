pub mod Spelling
pub mod Reading
pub mod Exact
pub mod Targets
pub mod Examples
