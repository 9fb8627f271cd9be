-- "Reading a block" of document 01, and the block that is sent.
pub mod Lrc
pub mod Check
pub mod Block
pub mod Event
pub mod Reader
pub mod Builder
pub mod Vectors
