-- The definitions that the contracts cite.
pub mod AnyProtection
pub mod Piles
pub mod Refusal
-- Lemmas that the laws in src/ cite: they are proved, and nothing in them has to be believed.
pub mod AnyProtectionLemmas
pub mod PileLemmas
