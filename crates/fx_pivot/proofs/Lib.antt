pub mod Gathers
pub mod Names
pub mod Orders
pub mod Pivoted
pub mod Places
pub mod Unstuck
pub mod Values
