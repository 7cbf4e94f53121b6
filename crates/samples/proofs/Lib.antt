-- The lemmas on samples.
pub mod Names
pub mod Components
pub mod Registers
