pub mod SequenceLaws
pub mod ComposeLaws
pub mod CallLaws
pub mod MadeLaws
