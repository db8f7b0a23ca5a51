pub mod Milled
mod Worked
pub mod Last
