-- The lemmas on reference names and on the mender.
pub mod Deciding
pub mod Manual
pub mod ReferenceRefusals
pub mod Handles
