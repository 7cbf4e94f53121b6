-- The lemmas that the proofs share.
pub mod Placed
pub mod InTurn
