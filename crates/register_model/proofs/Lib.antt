-- The lemmas from the answer of each call to what holds after any list of calls.
pub mod Verdicts
pub mod Laws
pub mod Orders
pub mod Inserted
pub mod Putting
pub mod Places
pub mod Firsts
pub mod Becauses
pub mod Tallies
pub mod Steps
pub mod Exact
pub mod Claims
pub mod Performing
