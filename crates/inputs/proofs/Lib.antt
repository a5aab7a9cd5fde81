pub mod BlendLaws
pub mod FoundLaws
pub mod FrameLaws
pub mod SummaryLaws
