-- The definitions that the contracts of the caller cite.
pub mod Words
pub mod Semesters
