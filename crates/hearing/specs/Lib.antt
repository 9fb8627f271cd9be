-- What an event does, while greeting and while busy (Parts), and put together (Event).
pub mod Parts
pub mod Event
