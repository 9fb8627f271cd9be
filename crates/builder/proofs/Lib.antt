-- That the promise settles its answer and its bytes.
pub mod Settled
