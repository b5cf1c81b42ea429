pub mod Bytes
pub mod Format
pub mod Calls
pub mod Theorems
pub mod Outputs
pub mod Books
