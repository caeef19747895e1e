pub mod Little
pub mod Places
pub mod Parts
pub mod Pieces
pub mod Placed
pub mod Refusing
pub mod Lengths
pub mod Every
