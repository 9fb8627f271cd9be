-- Laws of the record, and that each promise settles it.
pub mod RecordLaws
pub mod Settled
pub mod RefusalLaws
