-- Laws of the shares, for the proofs of the layers above.
pub mod OthersLaws
pub mod TestLaws
pub mod GrantLaws
pub mod RunLaws
pub mod StrikeLaws
pub mod DemandLaws
pub mod BothLaws
pub mod DecideLaws
pub mod LogLaws
pub mod Vectors
pub mod Settled
