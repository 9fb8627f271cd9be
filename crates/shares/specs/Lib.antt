-- Document 01's "Shares", free of bytes and of any protocol.
pub mod Pool
pub mod Rack
pub mod Demand
pub mod Both
pub mod Decide
pub mod Log
pub mod Vectors
