-- A slot's entry in the table: where its numbers stand (Layout), what slot they are, and the bytes of a slot (Entry).
pub mod Layout
pub mod Entry
pub mod State
