pub mod Answers
pub mod Places
pub mod PlacesLaws
pub mod Writers
pub mod Tables
pub mod Kept
pub mod Again
