pub mod Model
pub mod Faults
pub mod Calls
pub mod Orders
pub mod Whole
pub mod Steps
