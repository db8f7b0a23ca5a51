pub mod Equal
pub mod ActionLaws
pub mod HostLaws
pub mod Instructions
pub mod Longer
pub mod Append
pub mod Values
