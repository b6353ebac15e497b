pub mod Named
pub mod Open
pub mod Solved
pub mod Used
