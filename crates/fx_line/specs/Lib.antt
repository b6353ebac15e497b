pub mod Collected
pub mod Line
pub mod Order
pub mod Pieces
pub mod Reading
pub mod Stored
pub mod Value
pub mod Word
