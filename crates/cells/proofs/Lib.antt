pub mod CellLaws
pub mod CellFits
pub mod Suited
pub mod PasteLaws
