mod BuiltLemmas
mod TargetLemmas
mod PlaceLemmas
mod PairLemmas
mod RunLemmas
mod HitLemmas
