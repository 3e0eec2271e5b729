pub mod Contents
pub mod Lengths
pub mod Parts
