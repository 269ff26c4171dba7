pub mod Empty
pub mod Ends
pub mod Leading
pub mod Seats
pub mod Staying
pub mod Moved
pub mod Told
