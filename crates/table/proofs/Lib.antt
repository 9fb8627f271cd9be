-- Laws of the table, for the proofs of the layers above.
pub mod WriteLaws
pub mod SoundLaws
pub mod FreshLaws
pub mod ViewLaws
pub mod FrontLaws
pub mod Settled
