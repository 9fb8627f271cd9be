-- The record: the 64 bytes that an answer is written as. The refusals: their numbers.
pub mod Record
pub mod Refusal
