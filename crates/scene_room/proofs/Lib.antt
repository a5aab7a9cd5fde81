pub mod ComposedLaws
pub mod SceneLaws
