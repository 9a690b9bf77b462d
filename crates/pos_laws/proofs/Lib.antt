pub mod LinePoints
pub mod TupleOrder
mod NodeParts
pub mod Trees
pub mod Turnings
pub mod Made
pub mod MadeLevels
pub mod Counting
pub mod Ranks
mod Described
pub mod KeptParts
pub mod Apart
pub mod Relocation
pub mod AnyFile
pub mod SameLists
pub mod OnePlotOnly
pub mod Listed
pub mod Branches
pub mod Qualities
pub mod Spans
pub mod WalkedTrees
mod Sorting
pub mod TablesThere
pub mod PlotThere
pub mod NodeSizes
pub mod ListThere
pub mod Gathered
pub mod PassLemmas
pub mod Sound
pub mod Full
pub mod Readings
