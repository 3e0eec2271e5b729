pub mod Steps
pub mod Plans
pub mod Order
pub mod Places
pub mod Laws
pub mod Recasting
pub mod Tiny
