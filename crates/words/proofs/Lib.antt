pub mod Codes
pub mod CanvasLaws
pub mod OffsetLaws
