pub mod Last
pub mod Entries
pub mod Climbs
pub mod Paths
pub mod Regions
pub mod Far
