-- The definitions that the contracts of the rulebooks cite.
pub mod Rulings
pub mod Kinds
pub mod Paths
pub mod Refusals
pub mod Words
-- Lemmas that the laws in src/ cite: they are proved, and nothing in them has to be believed.
pub mod LawLemmas
