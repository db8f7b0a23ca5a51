pub mod Sorted
pub mod Climbing
pub mod Skipping
pub mod Ways
pub mod Meeting
pub mod Entering
pub mod Hopping
