pub mod Cases
pub mod Numbers
pub mod Exchange
pub mod Order
pub mod Ports
