-- The definitions that the contracts cite.
pub mod Keys
pub mod Names
pub mod Rules
pub mod Texts
-- What only private functions cite, and lemmas that the laws in src/ cite: all of it is proved, and nothing in it has to be believed.
pub mod NameEnds
pub mod BoundLemmas
pub mod EndLemmas
