pub mod Accountings
