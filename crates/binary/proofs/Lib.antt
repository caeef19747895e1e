pub mod Linear
pub mod Bilinear
pub mod Inverse
pub mod Field
