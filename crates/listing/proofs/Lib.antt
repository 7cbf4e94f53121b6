-- The lemmas on the listing.
pub mod FirstBytes
pub mod Reporting
pub mod Performed
pub mod Numbers
