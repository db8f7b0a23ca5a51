pub mod First
pub mod Admission
pub mod Limits
