pub mod ByteLaws
pub mod RoundTrip
pub mod LineLaws
pub mod PictureLaws
pub mod WritingLaws
