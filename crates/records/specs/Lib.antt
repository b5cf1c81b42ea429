pub mod Records
pub mod PerKeys
pub mod Layouts
pub mod Slices
pub mod Counts
