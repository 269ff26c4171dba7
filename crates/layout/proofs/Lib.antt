pub mod Arms
pub mod FieldNumbers
pub mod Labels
pub mod Markets
pub mod Rows
