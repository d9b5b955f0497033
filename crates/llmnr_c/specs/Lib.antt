pub mod Numbers
pub mod Outcomes
pub mod FlatHost
pub mod Order
pub mod FlatLookup
pub mod Reading
pub mod Normal
