-- Laws of the ATR reader.
pub mod WalkLaws
pub mod LaidLaws
pub mod RatesLaws
pub mod PowerLaws
pub mod AnswerLaws
pub mod Settled
pub mod Vectors
