pub mod Puts
pub mod Numbers
pub mod Spots
pub mod Tables
pub mod NodeLists
pub mod Cells
pub mod Pools
