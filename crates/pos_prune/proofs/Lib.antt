pub mod KeptLemmas
pub mod MarkingLemmas
pub mod PassLemmas
mod SeveralLemmas
