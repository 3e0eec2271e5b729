pub mod Words
pub mod Meanings
pub mod ToldText
pub mod Accepted
