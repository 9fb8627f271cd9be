-- "Reading an ATR" of document 01.
pub mod Walk
pub mod Laid
pub mod Rules
pub mod Rates
pub mod Report
pub mod Answer
pub mod Vectors
