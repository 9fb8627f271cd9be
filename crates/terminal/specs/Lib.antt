-- What each call does with the pool, and what it shows.
pub mod Calls
pub mod Shows
