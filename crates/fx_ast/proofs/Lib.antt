pub mod BareLaws
pub mod LevelLaws
pub mod ListLaws
pub mod SameLaws
pub mod ShapeLaws
