pub mod Spots
pub mod Nest
pub mod Chain
pub mod Deciders
pub mod Leaving
pub mod Nearest
pub mod Packing
pub mod Straight
