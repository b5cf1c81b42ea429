pub mod Limits
pub mod Refusals
pub mod Intervals
pub mod Accounts
pub mod Shown
pub mod Finding
pub mod Overwriting
