-- The length of a response, and that each promise settles its answer and its bytes.
pub mod LengthLaws
pub mod Settled
