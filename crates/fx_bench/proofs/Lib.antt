pub mod Always
pub mod Sums
pub mod Taken
