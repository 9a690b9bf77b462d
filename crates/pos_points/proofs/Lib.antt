pub mod PointLemmas
pub mod RootLemmas
