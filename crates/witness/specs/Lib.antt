pub mod Refusals
pub mod Replies
pub mod SameReply
pub mod States
pub mod Determined
pub mod Whole
