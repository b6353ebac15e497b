pub mod Calls
pub mod Follows
pub mod Frame
pub mod Free
pub mod Parts
pub mod Rows
pub mod State
