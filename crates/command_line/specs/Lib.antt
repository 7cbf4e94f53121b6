-- The definitions that the contracts of the command line cite.
pub mod Flags
pub mod Words
