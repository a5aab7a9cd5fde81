pub mod MarkLaws
pub mod StateLaws
pub mod DrawLaws
pub mod BlankLaws
pub mod KeepLaws
