pub mod PaintLaws
pub mod MosaicLaws
pub mod GridLaws
pub mod Composed
