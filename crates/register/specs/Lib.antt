-- The definitions that the contracts of the register cite, besides those of the crate register_model.
pub mod Entries
pub mod Rows
pub mod Faults
pub mod Words
pub mod Meanings
pub mod Registers
pub mod Shown
