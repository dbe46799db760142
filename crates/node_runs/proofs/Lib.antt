pub mod Ascending
pub mod Passing
pub mod Merges
pub mod Aside
