pub mod Rests
pub mod Sheets
