pub mod Answers
pub mod Outside
pub mod Memory
pub mod Digits
pub mod Lines
pub mod Writing
pub mod Spelling
pub mod Examples
