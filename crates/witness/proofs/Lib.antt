-- Each rule of the host a second time. Refusals, RefusedArrivals: which number a call gives, exactly. Replies: the reply, whole;
-- OnlyItsOwn: with the records of the name asked for; OneReply: there is only one such reply; SameReply: what makes no difference. Masks:
-- every record of a reply is valid on the interface asked, and a table without kind 6 is answered as it was.
-- States: what a start, a query, a notification and a response do in each state; Times: what a tick does, and when; set-up. Determined: the
-- plain words for answers leave no octet open. Outcomes: what an outcome tells determines it. WholeStart, WholeTick, WholeReceive: each
-- call gives what the plain words say, and nothing else is what they say. Laid, Comes, Ours, Whole: from the host's laws to these terms.
pub mod Refusals
pub mod RefusedArrivals
pub mod Laid
pub mod OneReply
pub mod OnlyItsOwn
pub mod Replies
pub mod SameReply
pub mod Masks
pub mod Comes
pub mod Ours
pub mod States
pub mod Times
pub mod Determined
pub mod Outcomes
pub mod Whole
pub mod WholeStart
pub mod WholeTick
pub mod WholeReceive
