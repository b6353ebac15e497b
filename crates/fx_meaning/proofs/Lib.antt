pub mod BuiltLaws
pub mod EndLaws
pub mod Kept
pub mod MeaningLaws
