-- What collect and remove leave, and that each promise settles its bytes.
pub mod LeaveLaws
pub mod Settled
