pub mod Cuts
pub mod Undivided
pub mod Parting
