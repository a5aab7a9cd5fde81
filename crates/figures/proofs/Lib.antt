pub mod Rounding
pub mod NearLaws
pub mod Bound
