pub mod PlainLemmas
pub mod Steps
pub mod ScanLemmas
pub mod ExprLemmas
