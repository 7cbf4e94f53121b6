-- The lemmas on the register's table and calls.
pub mod Ordering
pub mod Placing
pub mod Rows
pub mod Renaming
pub mod Searching
pub mod Striking
pub mod Answering
pub mod Components
pub mod Naming
pub mod Parting
pub mod Making
pub mod Lawful
