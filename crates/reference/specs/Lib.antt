-- The definitions that the contracts of reference names and of the mender cite.
pub mod Names
pub mod Errors
pub mod Manual
pub mod Refusals
