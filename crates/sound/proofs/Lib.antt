-- A range's numbers tested one by one, and that the promise settles its answer.
pub mod RangeLaws
pub mod Settled
