pub mod Sums
