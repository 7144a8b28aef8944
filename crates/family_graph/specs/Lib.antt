pub mod Graphs
pub mod Numbers
pub mod Numbered
pub mod Chains
pub mod Laws
