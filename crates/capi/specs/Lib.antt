pub mod Calls
pub mod Faults
pub mod Sealing
pub mod Slicing
