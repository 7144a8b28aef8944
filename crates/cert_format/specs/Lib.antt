pub mod LineReading
pub mod LineLaws
pub mod Reading
pub mod Exact
pub mod Refusals
