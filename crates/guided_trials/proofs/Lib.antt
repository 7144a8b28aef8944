pub mod AllLaws
mod Points
mod Found
mod Marks
mod Nothing
mod Paces
mod Starts
mod Takes
mod Standing
mod Led
pub mod Completed
