pub mod LevelLemmas
pub mod OneVerdictLemmas
pub mod VerdictLemmas
