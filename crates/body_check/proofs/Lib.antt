pub mod BodyLemmas
pub mod CheckLemmas
pub mod PlainLemmas
pub mod LocalsLemmas
pub mod StackLemmas
pub mod TypingLemmas
