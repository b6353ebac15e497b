pub mod Cells
pub mod Hidden
pub mod Ordered
pub mod Pivot
