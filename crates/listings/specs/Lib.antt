pub mod Lines
pub mod Shown
pub mod Pages
pub mod Listings
