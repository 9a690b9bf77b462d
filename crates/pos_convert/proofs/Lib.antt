pub mod SoundLemmas
pub mod CopyingLemmas
pub mod AddingLemmas
pub mod TableLemmas
pub mod StartLemmas
pub mod FileLemmas
pub mod ConvertingLemmas
mod LawLemmas
