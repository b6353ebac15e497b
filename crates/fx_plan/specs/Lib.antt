pub mod Operators
pub mod Plans
pub mod Said
pub mod Sources
pub mod Streams
