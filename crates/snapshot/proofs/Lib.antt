pub mod Numbers
pub mod Firsts
pub mod Risings
pub mod Agreement
pub mod Overwritten
pub mod Zeros
