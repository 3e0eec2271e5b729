pub mod Board
pub mod Laws
