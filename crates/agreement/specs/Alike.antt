-- Trays alike in all but their sample values, said of their bytes (document 01, "What is handed in").
use Rattle.std.specs.Prelude.{Ok, Err}
use Rattle.std.specs.Prelude.{List, [], ◌∷◌, ◌≡◌, ◌+◌, ◌<◌, ◌≤◌, suc, zero, ℕ, get_or, length}
use Rattle.laws.specs.Out.{Out}
use Rattle.laws.specs.Pick.{pick}
use Rattle.numbers.specs.Number.{read_number}
use Rattle.image.specs.Format.{has_part}
use Rattle.records.specs.Record.{head_at}
use Rattle.image.specs.declared.format.Form.{Form}
use Rattle.image.specs.declared.format.Part.{Part}
use Rattle.image.specs.declared.format.Part.TheVariants.{Alpha, Cb, Cr, Luma}

-- the same bytes from a place up to another
unfoldable pub SameBytes : List ℕ → List ℕ → ℕ → ℕ → Type 0
SameBytes s t from to = (i : ℕ) → from ≤ i → i < to → get_or s i 0 ≡ get_or t i 0

-- a number that was read at a place is the same bytes, and what follows goes on with its value and the place past it; from one that
-- is malformed, every byte is the same
unfoldable pub SameNumber : List ℕ → List ℕ → ℕ → Out (ℕ × ℕ) → (ℕ → ℕ → Type 0) → Type 0
SameNumber s t at (Ok (v, a)) k = SameBytes s t at a × k v a
SameNumber s t at (Err r) k = SameBytes s t at (length s)

-- a header likewise
unfoldable pub SameHead : List ℕ → List ℕ → ℕ → Out (Form × ℕ) → (Form × ℕ → Type 0) → Type 0
SameHead s t at (Err r) k = SameBytes s t at (length s)
SameHead s t at (Ok h) k = SameBytes s t at h.1 × k h

-- the planes of a record in turn: their strides and lengths are the same bytes, and their data is not compared
unfoldable pub SameParts : List ℕ → List ℕ → Form → List Part → ℕ → (ℕ → Type 0) → Type 0
SameParts s t m [] at k = k at
SameParts s t m (p ∷ ps) at k =
    pick (has_part m.format p)
    (SameNumber s t at (read_number s at) (λ stride a. SameNumber s t a (read_number s a) (λ len b. SameParts s t m ps (b + len) k)))
    (SameParts s t m ps at k)

-- so many records from a place on: their headers are the same bytes, and so are those after the last
unfoldable pub SameRecords : ℕ → List ℕ → List ℕ → ℕ → Type 0
SameRecords zero s t at = SameBytes s t at (length s)
SameRecords (suc n) s t at = SameHead s t at (head_at s at) (λ h. SameParts s t h.0 (Luma ∷ Cb ∷ Cr ∷ Alpha ∷ []) h.1 (λ a. SameRecords n s t a))

-- the count, then the records
pub record SameTray (s t : List ℕ) : Type 0 where
  pub long : length s ≡ length t
  pub bytes : SameNumber s t 0 (read_number s 0) (λ n at. SameRecords n s t at)
