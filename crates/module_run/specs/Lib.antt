pub mod Law
pub mod Runs
pub mod Steps
pub mod Values
