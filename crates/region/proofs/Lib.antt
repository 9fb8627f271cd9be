-- Laws of the region, for the proofs of the layer above.
pub mod LimitLaws
pub mod HolderLaws
pub mod SoundLaws
pub mod PartLaws
pub mod Settled
