pub mod Fields
pub mod FieldNumbers
pub mod Layouts
pub mod Rows
pub mod Banners
