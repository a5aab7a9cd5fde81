pub mod Rounded
pub mod Fill
