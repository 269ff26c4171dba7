pub mod Bytes
pub mod Digits
pub mod Lists
pub mod Puts
pub mod Refusals
pub mod Said
pub mod Shapes
pub mod Words
