-- Tests of an item by its sort, and what the first items tell.
pub mod Lines
pub mod Sight
pub mod Sorts
pub mod Toks
