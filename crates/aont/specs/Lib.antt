pub mod Package
pub mod Seals
