pub mod Pieces
pub mod Joins
pub mod Fields
pub mod Halves
