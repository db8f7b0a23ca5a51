pub mod Slices
pub mod Law
