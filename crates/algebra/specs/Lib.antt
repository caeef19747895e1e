pub mod Fields
pub mod Polynomials
pub mod Lagrange
pub mod Slices
