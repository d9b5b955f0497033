pub mod NameLaws
pub mod ReceiveLaws
