pub mod Record
pub mod Tray
pub mod inner
