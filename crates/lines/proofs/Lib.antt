-- The lemmas on lines.
pub mod FirstLine
pub mod Law
