-- The definitions that the contracts of the words of refusals cite.
pub mod Numbers
pub mod Sentences
pub mod Texts
