pub mod RowLaws
pub mod SourceLaws
pub mod StoreLaws
pub mod HeadedLaws
pub mod RectLaws
pub mod EvenLaws
