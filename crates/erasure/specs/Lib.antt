pub mod Records
pub mod Formula
pub mod Slices
pub mod Whole
