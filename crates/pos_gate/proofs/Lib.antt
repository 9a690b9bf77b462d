pub mod GateLemmas
mod LookLemmas
pub mod WorksLemmas
