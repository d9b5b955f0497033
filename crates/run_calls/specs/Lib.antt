pub mod Calls
pub mod Entries
pub mod Lines
pub mod Lookups
pub mod Pieces
pub mod Run
