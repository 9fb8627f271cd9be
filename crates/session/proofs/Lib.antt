-- Laws of the session: each row, then every sequence of calls.
pub mod LawfulLaws
pub mod DueLaws
pub mod HistoryLaws
pub mod RowLaws
pub mod FormLaws
pub mod KeptLaws
pub mod BoundLaws
pub mod PromiseLaws
pub mod Vectors
