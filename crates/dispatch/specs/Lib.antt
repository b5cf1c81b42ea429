pub mod Accounting
