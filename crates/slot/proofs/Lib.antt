-- Laws of a slot's numbers: the tests and their facts, and the block that is built.
pub mod FitLaws
pub mod SafeLaws
pub mod BlockLaws
pub mod Settled
