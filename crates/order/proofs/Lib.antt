-- Frame: the host's laws hold of any call. Order: two calls, from these laws. Interleaved: two lists of calls, from the theorem about two.
pub mod Frame
pub mod Order
pub mod Interleaved
