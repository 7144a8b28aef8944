pub mod Tags
pub mod Inside
pub mod Whole
pub mod Plain
pub mod Loops
pub mod Numerals
pub mod AllLaws
