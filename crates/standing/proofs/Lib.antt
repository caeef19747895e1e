pub mod Laws
pub mod Unread
pub mod Members
pub mod Same
pub mod EndToEnd
pub mod Found
