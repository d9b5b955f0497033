pub mod Answered
pub mod Lost
