mod BlockLemmas
pub mod MatchLemmas
pub mod StreamLemmas
mod WindowLemmas
pub mod Worked
