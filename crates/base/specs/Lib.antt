pub mod Bytes
pub mod Answers
pub mod Sizes
pub mod Tests
