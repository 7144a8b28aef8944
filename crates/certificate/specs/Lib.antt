pub mod Insts
pub mod Versions
pub mod Hulls
pub mod Claims
pub mod Valid
pub mod Laws
