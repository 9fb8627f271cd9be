-- Laws of the codec, for the proofs of the layers above.
pub mod Xor
pub mod LrcLaws
pub mod CheckLaws
pub mod EventLaws
pub mod ReaderLaws
pub mod BuilderLaws
pub mod Settled
pub mod Vectors
