pub mod Contest
pub mod Heard
pub mod Opening
pub mod Served
pub mod Stopping
pub mod Turn
