pub mod Xor
pub mod Made
pub mod Chunks
