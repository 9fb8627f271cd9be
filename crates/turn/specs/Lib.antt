-- What each call makes of a slot's numbers.
pub mod Sending
pub mod Rows
pub mod Calls
