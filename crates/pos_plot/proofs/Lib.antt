pub mod StartLemmas
pub mod CloseLemmas
pub mod FillLemmas
pub mod PlotLemmas
pub mod RunLemmas
mod SizeLemmas
