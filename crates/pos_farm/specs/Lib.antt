pub mod Offers
pub mod PlotAnswers
pub mod NameLists
pub mod FarmLaws
pub mod NameLaws
pub mod Steps
