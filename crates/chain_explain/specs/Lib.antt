pub mod Reached
pub mod Walks
pub mod Explanation
pub mod Told
pub mod Laws
pub mod Moves
