pub mod Entries
pub mod Told
pub mod Normal
pub mod Collected
