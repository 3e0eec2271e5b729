pub mod Upward
pub mod Greatests
pub mod Tables
pub mod Layers
