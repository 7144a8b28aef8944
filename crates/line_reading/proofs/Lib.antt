pub mod Steps
pub mod Words
pub mod Digits
pub mod Table
pub mod Pieces
pub mod Appending
pub mod AllLaws
