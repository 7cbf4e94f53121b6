-- The definitions that the contracts of the answers cite.
pub mod Answers
pub mod Names
