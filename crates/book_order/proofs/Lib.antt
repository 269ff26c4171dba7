pub mod Brought
pub mod Joined
pub mod Others
pub mod Strikes
pub mod Tested
pub mod Untimely
pub mod Told
