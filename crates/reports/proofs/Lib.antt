pub mod Lines
mod Plain
mod Texts
mod SameReports
pub mod AllLaws
