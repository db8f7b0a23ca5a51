pub mod Labels
pub mod Locals
pub mod Numbered
pub mod Signatures
pub mod Stacks
