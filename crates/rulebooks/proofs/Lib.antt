-- The lemmas on rulebooks.
pub mod Paths
pub mod Leftmost
pub mod Deciding
