pub mod BeforeLaws
pub mod DemandLaws
pub mod Kept
