-- The lemmas on lists of calls.
pub mod Recording
