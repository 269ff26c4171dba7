pub mod Messages
pub mod Orders
