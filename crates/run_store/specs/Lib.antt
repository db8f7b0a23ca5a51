pub mod Fits
pub mod Pages
pub mod Scripts
