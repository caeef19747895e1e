pub mod Speck
pub mod Schedule
pub mod Rounds
