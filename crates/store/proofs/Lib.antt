pub mod Runs
pub mod Versions
pub mod Standing
pub mod Keeping
pub mod Writes
pub mod Pruning
pub mod Committing
pub mod Counting
