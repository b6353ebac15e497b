-- Each turn of the code's loops is a step of a reading, and what it makes is the tree.
pub mod GatherLaws
pub mod GatherTies
pub mod ListTurns
pub mod MadeLaws
pub mod NodeLaws
pub mod RunTurns
pub mod SomeProps
pub mod StatementLaws
pub mod SuffixTurns
pub mod TextLaws
