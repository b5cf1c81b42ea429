pub mod Putting
pub mod Keeping
