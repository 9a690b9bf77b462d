pub mod DifferenceLemmas
pub mod ComparingLemmas
pub mod AuditingLemmas
mod LawLemmas
