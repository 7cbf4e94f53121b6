-- The definitions that the contracts of the tool's lines cite.
pub mod Lines
pub mod Questions
pub mod Setups
