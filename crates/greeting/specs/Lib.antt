-- What a call gives, and what is done while greeting.
pub mod Sending
pub mod Greeting
