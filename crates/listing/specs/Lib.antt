-- The definitions that the contracts of the listing cite.
pub mod Reading
pub mod Parts
pub mod Report
