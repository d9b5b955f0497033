pub mod Calls
pub mod Frame
pub mod Order
pub mod Interleaved
