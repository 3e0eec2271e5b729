pub mod Verdicts
pub mod Stands
pub mod Entries
pub mod Buffers
pub mod Writers
pub mod Pairs
pub mod Parts
pub mod Halving
