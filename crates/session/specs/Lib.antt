pub mod Marks
pub mod State
pub mod Session
