-- The lemmas that the proofs share.
mod Pairs
mod Texts
