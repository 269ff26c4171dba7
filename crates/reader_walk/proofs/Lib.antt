pub mod Marking
pub mod Fields
pub mod Line
pub mod Walking
pub mod Told
