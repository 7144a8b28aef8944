pub mod Steps
pub mod Laws
pub mod Reached
pub mod Graphs
pub mod Closed
