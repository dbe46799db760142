pub mod AnswerLemmas
pub mod Quotients
pub mod ReportLemmas
mod Vectors
pub mod WordLemmas
