pub mod Comes
pub mod Small
pub mod Rooms
pub mod Sums
pub mod Told
pub mod Turns
