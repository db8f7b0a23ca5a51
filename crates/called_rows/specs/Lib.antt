pub mod Locs
pub mod Whom
pub mod Funcs
pub mod Classes
pub mod Called
pub mod Right
