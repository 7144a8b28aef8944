pub mod Progress
pub mod Checks
pub mod Order
pub mod OrderLaws
pub mod Confirm
pub mod Leads
pub mod Insts
pub mod Turns
