pub mod Link
pub mod Play
