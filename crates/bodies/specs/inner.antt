-- What only proofs and the contracts of inner functions cite: no public promise does.
pub mod Words
