pub mod Capped
mod Written
