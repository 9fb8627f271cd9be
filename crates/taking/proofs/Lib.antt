-- Laws of an I-block: that it shows the paper's rows, and that each promise settles its answer.
pub mod SafeLaws
pub mod ViewLaws
pub mod Settled
