pub mod Answered
pub mod Vectors
