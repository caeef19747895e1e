pub mod Standing
pub mod Sets
pub mod Gather
pub mod Unread
pub mod Found
