-- The lemmas on meeting.
pub mod Meetings
pub mod Pairwise
