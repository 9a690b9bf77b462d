pub mod FieldsLemmas
pub mod PackingLemmas
