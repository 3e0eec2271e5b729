pub mod Sound
pub mod Codes
pub mod Decodes
pub mod Slices
pub mod Laws
pub mod Items
