pub mod Instants
pub mod Order
