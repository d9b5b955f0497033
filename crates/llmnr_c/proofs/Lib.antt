pub mod Lists
pub mod Tables
pub mod RoundTrip
pub mod Told
pub mod Calls
pub mod Taken
pub mod Whole
pub mod Order
