pub mod ElfWords
pub mod Trials
pub mod Analysing
pub mod Sites
pub mod One
pub mod Accepting
pub mod Least
pub mod All
pub mod AllLaws
mod Attaining
mod Told
mod Codes
