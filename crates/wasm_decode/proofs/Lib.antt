pub mod EntryLemmas
pub mod PartLemmas
pub mod FrameLemmas
pub mod ContentsLemmas
pub mod StepLemmas
pub mod OneLemmas
