pub mod Bound
pub mod Fit
pub mod Rows
pub mod Run
pub mod Safe
pub mod Sound
