pub mod Formula
pub mod Answers
pub mod Gathered
pub mod Joins
