-- Laws of the region and of what it shows. Layers above cite Shows.
pub mod CallLaws
pub mod ViewLaws
pub mod FirstLaws
pub mod ShownLaws
pub mod HoldingLaws
pub mod StoredLaws
pub mod AppendLaws
pub mod ReleaseLaws
pub mod ListedLaws
pub mod FreshLaws
pub mod ResponseLaws
pub mod ShowsAppend
pub mod ShowsRelease
pub mod Shows
pub mod ElevenLaws
pub mod Vectors
pub mod Settled
