pub mod Choices
pub mod Gathers
pub mod Made
pub mod Moulds
pub mod Reduced
pub mod Tallies
pub mod Unstuck
pub mod Values
