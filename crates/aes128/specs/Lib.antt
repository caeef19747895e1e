pub mod Aes
pub mod Columns
pub mod Sizes
