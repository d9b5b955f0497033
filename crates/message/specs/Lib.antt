pub mod Bounds
pub mod Header
pub mod Question
pub mod Records
pub mod Owners
pub mod Query
pub mod Reply
