mod TakingLemmas
mod ReadingLemmas
