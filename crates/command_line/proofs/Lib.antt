-- The lemmas on the command line.
pub mod Pairs
