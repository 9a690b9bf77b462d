pub mod Faults
pub mod Comparisons
pub mod Audits
pub mod AuditLaws
