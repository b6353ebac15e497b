-- What parsing promises of a whole script.
pub mod Once
pub mod Parsing
pub mod Told
pub mod Top
