mod Beginning
mod Watched
pub mod OneRun
pub mod SomeRun
mod Steps
pub mod ListedValues
