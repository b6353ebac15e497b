pub mod Ends
pub mod Forms
pub mod Meaning
pub mod Native
pub mod Natives
pub mod Operators
pub mod Rows
pub mod Value
