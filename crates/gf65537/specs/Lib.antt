pub mod Gf65537
pub mod Laws65537
pub mod Prime
