pub mod BytesLemmas
pub mod KnownLemmas
pub mod LoadLemmas
pub mod LoadOnce
pub mod LoadsLemmas
pub mod LoadsOnce
