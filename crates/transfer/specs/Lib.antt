pub mod Collect
pub mod Said
pub mod States
