pub mod Rooms
