pub mod Kinds
pub mod Entries
pub mod Reading
pub mod Readers
pub mod Law
pub mod Held
pub mod Judging
pub mod Tallies
