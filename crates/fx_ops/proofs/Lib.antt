mod CharacterLemmas
mod DateLemmas
mod IntTextLaws
mod KindLaws
mod PartLemmas
mod RowLemmas
mod TextLemmas
