pub mod Packing
pub mod Ranks
pub mod Placing
pub mod Replacing
pub mod Keeping
pub mod Lasting
