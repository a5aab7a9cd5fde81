pub mod PointLaws
pub mod GridShown
pub mod OverlayShown
