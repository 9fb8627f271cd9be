-- What a refusal says of the call, and that each call's promise settles all that it gives.
pub mod RefusedLaws
pub mod TriedLaws
pub mod Settled
