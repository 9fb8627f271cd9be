-- What is made of an I-block that is due.
pub mod Rows
pub mod Calls
