pub mod GapLemmas
pub mod ListingLemmas
pub mod NamedLemmas
pub mod PlaceLemmas
pub mod SummaryLemmas
mod SomeSummaries
