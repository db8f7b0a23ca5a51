pub mod Positions
mod Live
mod Counting
mod Typed
mod CutTyping
mod Needed
mod CodeBack
pub mod PlaceTypes
pub mod Heights
pub mod Bodies
mod Every
mod Bytes
pub mod Appended
pub mod Slices
pub mod Takings
pub mod Takers
pub mod Present
pub mod ToldCut
pub mod TakenTypes
pub mod Steps
pub mod ExactCut
