pub mod Ends
pub mod Held
pub mod Own
pub mod Normal
pub mod Looks
pub mod Copied
