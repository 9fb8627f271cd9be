-- That each promise settles its answer and its bytes.
pub mod Settled
