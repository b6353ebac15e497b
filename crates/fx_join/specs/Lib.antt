pub mod Join
pub mod Joined
pub mod Limited
pub mod Meet
pub mod Part
pub mod SameTime
