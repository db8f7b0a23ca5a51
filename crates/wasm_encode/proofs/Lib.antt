pub mod CodeLemmas
pub mod ListLemmas
