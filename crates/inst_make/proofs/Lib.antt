pub mod Standing
mod Writes
mod FirstLimits
mod Begun
