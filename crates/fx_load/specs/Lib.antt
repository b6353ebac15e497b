pub mod Bytes
pub mod Load
pub mod Loads
pub mod Memo
