pub mod Steps
pub mod Transform
pub mod Framing
pub mod Sealed
pub mod Written
pub mod Named
