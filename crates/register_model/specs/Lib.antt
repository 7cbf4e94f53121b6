-- What a register keeps, answers and promises.
pub mod Entries
pub mod Calls
pub mod Reasons
pub mod Claim
pub mod Histories
-- A lemma that the type of a register cites: it is proved, and nothing in it has to be believed.
pub mod HoldsLemma
