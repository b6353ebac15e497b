-- What the tokens of a text say: their slices, escapes and spans.
pub mod EscapeLemmas
pub mod ReadLemmas
pub mod SliceLemmas
pub mod SpanLemmas
