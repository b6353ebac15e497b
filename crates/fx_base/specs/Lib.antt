pub mod Files
pub mod Outside
pub mod Patterns
pub mod Text
pub mod formers
