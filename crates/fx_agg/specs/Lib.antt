pub mod Aggregate
pub mod Chosen
pub mod Distinct
pub mod Mould
pub mod Numbers
pub mod OneRow
pub mod Reduce
pub mod Tally
