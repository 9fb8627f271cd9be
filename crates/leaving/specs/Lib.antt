-- What collect and remove leave.
pub mod Leave
