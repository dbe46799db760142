pub mod Plans
pub mod Meanings
pub mod Numbers
pub mod RoomNetworks
pub mod RoomSteps
