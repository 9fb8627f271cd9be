-- What each call does to the region's bytes (Calls); the pool as the paper has it (Contents), what a region shows of it
-- (View), and what is promised of both (Shows).
pub mod Calls
pub mod Contents
pub mod View
pub mod Shows
pub mod Vectors
