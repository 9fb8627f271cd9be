-- Laws of the calls with the pool: they show the paper's session.
pub mod PoolLaws
pub mod EventLaws
pub mod ShowsLaws
pub mod Settled
