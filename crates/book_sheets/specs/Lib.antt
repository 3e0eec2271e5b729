pub mod Layout
pub mod Content
pub mod Laws
pub mod Example
pub mod Reading
pub mod Numbers
