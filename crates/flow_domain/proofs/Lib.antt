pub mod KeptLaws
pub mod KeptBetween
pub mod Shapes
pub mod LocLemmas
pub mod Summing
pub mod Tabling
