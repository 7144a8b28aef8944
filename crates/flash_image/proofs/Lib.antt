pub mod Narrowing
pub mod Bytes
pub mod Raw
pub mod Least
pub mod Rows
mod RawWords
mod Behind
pub mod Said
pub mod Marked
pub mod Loads
pub mod Listed
