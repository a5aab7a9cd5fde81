pub mod Carry
pub mod Alike
pub mod Agreement
