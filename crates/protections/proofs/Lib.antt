-- The lemmas that the proofs share.
pub mod Agree
mod Compared
pub mod EndedKey
mod ShortComponent
pub mod Devices
pub mod Equal
mod FirstDot
mod Lent
mod Second
mod Short
mod Stream
pub mod NamesDecided
mod Trimmed
