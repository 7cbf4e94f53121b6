-- The lemmas that the proofs share.
pub mod Heaped
pub mod Same
