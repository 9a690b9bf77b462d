pub mod BitsLemmas
pub mod BlocksLemmas
pub mod BytesLemmas
pub mod CodeLemmas
pub mod HeldLemmas
pub mod JoinLemmas
pub mod OutLemmas
pub mod PiecesLemmas
pub mod WindowLemmas
pub mod AppendLemmas
pub mod ReaderLemmas
pub mod PlacesLemmas
pub mod TwoLemmas
pub mod Worked
mod SpellingLemmas
