pub mod Pieces
pub mod Builder
