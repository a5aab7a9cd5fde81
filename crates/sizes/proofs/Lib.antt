pub mod ApertureLaws
pub mod MarginLaws
pub mod ScaleLaws
