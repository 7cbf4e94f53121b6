-- The definitions that the contracts of the mender cite.
pub mod Mender
pub mod Errors
pub mod Mends
pub mod Steps
pub mod Texts
