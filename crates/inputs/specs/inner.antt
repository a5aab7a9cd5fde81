-- What only proofs and the contracts of inner functions cite: no public promise does.
pub mod Summary
pub mod Plan
pub mod Sought
