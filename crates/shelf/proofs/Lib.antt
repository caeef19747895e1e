pub mod Apart
pub mod Slots
pub mod Changes
pub mod Emptied
