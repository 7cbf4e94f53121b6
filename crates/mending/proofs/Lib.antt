-- The lemmas on the mender.
pub mod Following
pub mod Replacing
pub mod Replaced
pub mod WithoutLock
pub mod MendedComponents
pub mod Locking
pub mod Joining
pub mod Laws
pub mod MendsText
pub mod Adding
pub mod Ending
pub mod Filling
pub mod Written
pub mod FirstComponent
