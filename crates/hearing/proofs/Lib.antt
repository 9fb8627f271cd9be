-- What an event leaves, and that its promise settles its bytes.
pub mod PartLaws
pub mod Settled
