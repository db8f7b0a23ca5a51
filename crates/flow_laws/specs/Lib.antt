pub mod Calls
pub mod Soundness
pub mod Cutting
pub mod Exact
pub mod Slices
pub mod Kept
