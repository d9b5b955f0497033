pub mod MessageLaws
pub mod DatagramLaws
