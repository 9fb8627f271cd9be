-- That each export's promise settles all that it gives.
pub mod Settled
