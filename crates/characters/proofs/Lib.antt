-- The lemmas that the proofs share.
pub mod Ascii
pub mod Only
pub mod Rows
pub mod Steps
