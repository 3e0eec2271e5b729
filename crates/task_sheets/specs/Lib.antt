pub mod Layout
pub mod Content
pub mod Parts
pub mod Opened
pub mod Example
