pub mod Layout
pub mod Slots
pub mod Shelves
pub mod Within
pub mod Sound
