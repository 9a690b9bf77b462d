pub mod BranchLemmas
pub mod StepLemmas
pub mod SurveyLemmas
pub mod WholeSummaries
