-- The definitions that the contract of the samples cites.
pub mod Samples
