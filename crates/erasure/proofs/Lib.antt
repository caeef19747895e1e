pub mod Reading
pub mod Spreading
pub mod Weighing
pub mod Points
pub mod RecordOf
