-- The lemmas that the proofs share.
pub mod First
pub mod Linked
pub mod Together
