-- The definitions that the contracts of meeting cite.
pub mod Meeting
