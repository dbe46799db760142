pub mod LayoutLemmas
mod Limits
pub mod Listed
pub mod Pieces
pub mod Reading
