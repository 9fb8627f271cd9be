-- The pool's region of bytes: where everything stands (Layout), which bytes are one (Region), when it is sound (Sound), and
-- what it answers by number (Holding).
pub mod Layout
pub mod Sound
pub mod Holding
pub mod Region
