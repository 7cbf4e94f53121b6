-- The definitions that the contracts cite.
pub mod Table
pub mod Standard
pub mod Reader
pub mod ToCome
