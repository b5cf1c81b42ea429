pub mod Meaning
pub mod Checking
pub mod Calls
pub mod Laws
pub mod Worked
