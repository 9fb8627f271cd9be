-- Laws of a turn: each row shows the paper's, and each promise settles its answer.
pub mod SafeLaws
pub mod ViewLaws
pub mod Settled
