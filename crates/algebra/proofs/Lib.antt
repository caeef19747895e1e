pub mod Ring
pub mod Poly
pub mod ThroughPoints
pub mod Filling
pub mod Reading
pub mod Inverses
pub mod Tests
pub mod Stored
