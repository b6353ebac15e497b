pub mod Counted
pub mod FirstRow
pub mod Named
pub mod Timed
