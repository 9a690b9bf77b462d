pub mod PairLemmas
pub mod RankLemmas
pub mod UsedLemmas
pub mod NamedLemmas
pub mod NumberingLemmas
