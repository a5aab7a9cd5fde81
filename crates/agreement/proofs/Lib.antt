pub mod CarryLaws
pub mod Halves
pub mod AlikeLaws
pub mod Chained
pub mod Runs
