pub mod CallLemmas
pub mod HeadLemmas
pub mod ParkLemmas
pub mod ReadingLemmas
pub mod StepLemmas
