-- Laws of what `lent` defines, for the proofs of the layers above.
pub mod Cases
pub mod PlaceLaws
pub mod NumberLaws
pub mod WidthLaws
pub mod FoldLaws
pub mod Settles
pub mod Settled
