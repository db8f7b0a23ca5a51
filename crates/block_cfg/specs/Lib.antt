pub mod Graph
pub mod Labels
pub mod Walk
pub mod Stops
pub mod Points
pub mod Law
