-- The six calls: what each answers, and every byte of the table, the output and the record that it leaves.
pub mod Call
pub mod Open
pub mod Lowest
