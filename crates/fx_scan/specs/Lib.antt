pub mod Forms
pub mod Readers
pub mod Tables
pub mod Tokens
