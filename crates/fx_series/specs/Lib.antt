pub mod Blocks
pub mod Held
pub mod HeldAnswers
pub mod Laws
pub mod Put
pub mod Read
pub mod Store
