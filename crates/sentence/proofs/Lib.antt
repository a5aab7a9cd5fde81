pub mod Texts
pub mod Rows
pub mod RunLaws
pub mod Back
pub mod Cases
