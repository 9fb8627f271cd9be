-- The 32,768 bytes: where everything stands (Layout), when they are sound (Sound), a fresh table (Fresh), and the slots that
-- it shows (View).
pub mod Layout
pub mod Sound
pub mod Fresh
pub mod View
