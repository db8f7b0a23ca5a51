pub mod Kept
pub mod Start
