-- Laws of the greeting: that it shows the paper's, and that each promise settles its answer.
pub mod ViewLaws
pub mod Settled
