pub mod FinishLaws
pub mod OverLaws
pub mod ReachLaws
pub mod RowLaws
pub mod StripeLaws
pub mod TopLaws
