pub mod Run
pub mod Covered
pub mod inner
