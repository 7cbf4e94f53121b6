-- The lemmas on tag names.
pub mod Firsts
pub mod Reading
pub mod Chart
pub mod Sound
pub mod Soundness
pub mod Members
pub mod Parts
pub mod OnlyComponents
pub mod Locks
pub mod Splitting
pub mod Rules
pub mod FirstRules
pub mod TagRefusals
