-- What only proofs and the contracts of inner functions cite: no public promise does.
pub mod Line
pub mod Promoted
pub mod Even
pub mod InRange
