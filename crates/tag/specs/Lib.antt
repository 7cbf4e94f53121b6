-- The definitions that the contracts of tag names cite.
pub mod Answers
pub mod Bytes
pub mod Fronts
pub mod Components
pub mod ComponentsLeft
pub mod Splits
pub mod Names
pub mod Refusals
pub mod Errors
pub mod Words
pub mod Manual
pub mod Scanning
