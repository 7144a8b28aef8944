mod Lists
pub mod Insts
pub mod Ways
mod Adding
pub mod Graphs
pub mod Alike
mod Conditions
mod One
mod FirstNodes
