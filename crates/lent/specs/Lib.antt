-- What the contracts of `lent` cite, and what layers above define their tables with.
pub mod Place
pub mod Number
pub mod Fold
pub mod Laws
