pub mod Spelling
pub mod KeySpelling
pub mod Text
pub mod Reading
pub mod KeyReading
pub mod Fits
pub mod Laws
pub mod KeyLaws
