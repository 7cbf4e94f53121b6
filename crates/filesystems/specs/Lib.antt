-- The definitions that the contracts cite.
pub mod Keys
pub mod Pairs
pub mod Refusal
-- Lemmas that the laws in src/ cite: they are proved, and nothing in them has to be believed.
pub mod LayerLemmas
pub mod PairLemmas
