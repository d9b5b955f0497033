pub mod Bounds
pub mod Kinds
pub mod Masks
pub mod Check
pub mod Entries
pub mod Records
pub mod Before
pub mod Shown
