pub mod StoreLaws
pub mod SteppedLaws
pub mod CourseLaws
