pub mod Depth
pub mod Entries
pub mod Shapes
pub mod Frames
pub mod Contents
pub mod Decode
