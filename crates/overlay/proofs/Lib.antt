pub mod FlatLaws
pub mod OpaqueLaws
pub mod StripedLaws
pub mod RunLaws
pub mod CoveredLaws
pub mod EvenLaws
pub mod Sentences
