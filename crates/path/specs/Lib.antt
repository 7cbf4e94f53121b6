-- The definitions that the contracts cite.
pub mod Answer
pub mod Order
pub mod Rule
