pub mod Known
pub mod Shape
pub mod Told
