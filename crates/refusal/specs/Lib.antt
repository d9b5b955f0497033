pub mod Numbers
pub mod Checks
pub mod Cases
pub mod Texts
