-- Laws of a slot's entry: what was written is read, and which slot bytes are.
pub mod EntryLaws
pub mod StateLaws
pub mod Settled
