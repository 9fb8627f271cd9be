-- That each promise settles its bytes.
pub mod Settled
