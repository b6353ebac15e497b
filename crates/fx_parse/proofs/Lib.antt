pub mod outcome
pub mod phrases
pub mod sorts
pub mod tokens
pub mod turns
