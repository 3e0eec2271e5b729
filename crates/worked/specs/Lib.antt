pub mod Books
pub mod Plans
pub mod Examples
