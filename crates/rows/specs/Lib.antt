pub mod Model
pub mod Faults
pub mod Calls
pub mod Seen
