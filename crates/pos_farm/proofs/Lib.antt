pub mod OfferLemmas
pub mod AskLemmas
pub mod FarmLemmas
pub mod NameLemmas
pub mod WholeAnswers
