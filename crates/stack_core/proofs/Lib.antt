pub mod Gathering
pub mod Replies
pub mod Answering
pub mod Held
