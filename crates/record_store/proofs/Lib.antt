pub mod Zeros
pub mod Added
pub mod Commits
pub mod Excesses
pub mod Laying
pub mod Moves
