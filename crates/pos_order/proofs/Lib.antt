pub mod NodeParts
pub mod OrderLemmas
pub mod PlotOrderLemmas
pub mod Turnings
pub mod ValuesLemmas
