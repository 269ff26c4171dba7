pub mod Days
pub mod Reach
pub mod Order
