-- "A session" of document 01, free of any table's bytes.
pub mod Slot
pub mod Call
pub mod Refusal
pub mod Sending
pub mod Session
pub mod Due
pub mod Protocol
pub mod History
pub mod Kept
pub mod Promise
pub mod Vectors
