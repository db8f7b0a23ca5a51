pub mod World
pub mod Machine
pub mod Config
pub mod Follows
pub mod Invokes
