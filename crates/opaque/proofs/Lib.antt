pub mod WindowLaws
pub mod PlaceLaws
pub mod SourceLaws
pub mod FrameLaws
pub mod LaidLaws
pub mod FitLaws
