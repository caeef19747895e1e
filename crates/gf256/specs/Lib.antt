pub mod Gf256
pub mod Powers
pub mod Slices
pub mod Laws256
