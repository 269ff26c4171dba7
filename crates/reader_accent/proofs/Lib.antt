pub mod Table
pub mod Ends
