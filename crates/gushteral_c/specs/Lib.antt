-- The definitions that the contracts of the exported calls cite.
pub mod Batch
pub mod Numbers
pub mod Words
