pub mod Tests
pub mod Octets
pub mod Readers
pub mod Splice
pub mod Words
pub mod Addresses
pub mod PlainAddresses
pub mod Comparisons
