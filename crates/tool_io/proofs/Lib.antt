-- The lemmas on the names that a task is asked of.
pub mod Given
