pub mod Listed
pub mod Spans
pub mod Named
pub mod Parts
pub mod Left
pub mod Found
pub mod Distinct
pub mod Ends
