pub mod TwoRuns
pub mod Settled
pub mod Imports
