-- A slot's numbers: the block to send, what they show, and when they fit.
pub mod Blocks
pub mod View
pub mod Fit
pub mod Safe
