pub mod ApplyLaws
pub mod GoingLaws
