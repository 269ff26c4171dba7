pub mod Arms
pub mod Texts
