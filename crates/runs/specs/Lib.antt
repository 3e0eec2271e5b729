pub mod Rooms
pub mod Times
pub mod Whole
