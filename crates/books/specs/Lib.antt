pub mod Book
pub mod Gathered
pub mod Listed
pub mod Laws
