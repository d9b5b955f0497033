pub mod Bounds
pub mod Names
pub mod Folding
pub mod Readings
pub mod NameWalk
pub mod RecordNameWalk
pub mod Comparison
pub mod Depth
