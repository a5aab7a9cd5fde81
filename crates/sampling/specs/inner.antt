-- What only proofs and the contracts of inner functions cite: no public promise does.
pub mod Depths
pub mod Redraw
pub mod Sums
