pub mod Families
pub mod Rounds
pub mod Refusals
pub mod Sparse
pub mod Solutions
