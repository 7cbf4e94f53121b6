-- The definitions that the contracts of the list of handles cite.
pub mod Report
