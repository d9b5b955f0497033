pub mod Bounds
pub mod Tests
pub mod Octets
pub mod Words
pub mod Addresses
pub mod PlainAddresses
