pub mod Parts
pub mod Laws
pub mod Answers
pub mod Closed
