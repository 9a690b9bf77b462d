mod Blanks
mod Events
pub mod FaultLemmas
pub mod FileSetLemmas
pub mod Frames
pub mod Kept
mod KeptActs
mod KeptCalls
mod KeptPlaced
mod KeptResults
mod MemoryCalls
mod MemoryFrames
mod MemoryUses
pub mod Quiets
pub mod ScratchFiles
pub mod ScratchWorkLemmas
mod SourceLemmas
