-- The definitions that the contracts of the explanations cite.
pub mod Numbers
pub mod Remedies
pub mod Texts
