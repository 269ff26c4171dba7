pub mod Keylines
