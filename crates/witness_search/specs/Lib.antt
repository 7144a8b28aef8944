pub mod Waypoints
pub mod Trials
pub mod Attempts
pub mod Chains
pub mod Laws
