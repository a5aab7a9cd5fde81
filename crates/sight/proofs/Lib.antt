pub mod Quarters
pub mod Turns
pub mod Steps
pub mod Agreement
