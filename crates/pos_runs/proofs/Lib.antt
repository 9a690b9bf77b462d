pub mod PageLemmas
pub mod ListLemmas
pub mod TablesLemmas
pub mod KeptLemmas
