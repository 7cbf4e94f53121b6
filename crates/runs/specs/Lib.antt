-- The definitions that the contracts of lists of calls cite.
pub mod Listed
pub mod Campus
