pub mod AnswerLemmas
pub mod EntryLemmas
pub mod HeaderLemmas
pub mod OpeningLemmas
pub mod ParkLemmas
pub mod ParkParts
pub mod ReadLemmas
pub mod ReadingLemmas
