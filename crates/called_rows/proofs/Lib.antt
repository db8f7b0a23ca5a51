pub mod FuncLemmas
pub mod ClassLemmas
pub mod TargetLemmas
pub mod FormKinds
pub mod Known
pub mod Right
