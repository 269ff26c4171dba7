pub mod Kinds
pub mod Texts
pub mod Valid
