-- Laws of a source's rows: each is a line through the plane's bytes.
use mathlib.Core.List.{List, ◌++◌}
use mathlib.Core.Path.{◌∙◌, ◌≡◌, ap, sym}
use Prim.Native.Nat.{◌*◌, ◌+◌, ◌-◌, ◌/◌, ◌<◌, ◌^◌, min, ℕ}
use native.Mathlib.Omega.{arith}
use lib.ListN.{length}
use Rattle.laws.proofs.Order.{pick-le}
use Rattle.laws.proofs.Span.{span-cong, span-step}
use Rattle.laws.specs.Pick.{pick}
use Rattle.laws.specs.Span.{span}
use Rattle.image.specs.Format.{cover}
use Rattle.planes.specs.Bytes.{sample_at, sample_bytes, sample_in, samples_of}
use Rattle.planes.specs.declared.samples.Line.{Line}
use Rattle.planes.specs.inner.Line.{LineFits, line_bytes, place_on}
use Rattle.paste.proofs.RowLaws.{line-half}
use Rattle.paste.specs.declared.rows.Source.{Source}
use Rattle.paste.specs.inner.Source.{RowsFit, source_at, source_row}

abbrev pub source_line : Source → ℕ → Line
source_line s k = record { origin = cover s.half_down (s.y + k) * s.stride; step = s.bytes; from = s.x; forth = 1; back = 0; half = pick s.half_across 1 0 }

-- the place of a sample of a row
line-place : (s : Source) (i k : ℕ) → place_on (source_line s k) i ≡ cover s.half_down (s.y + k) * s.stride + cover s.half_across (s.x + i) * s.bytes
unfolding place_on
line-place s i k =
    let u : s.x + i * 1 - i * 0 ≡ s.x + i = omega arith in
    ap (λ (j : ℕ). cover s.half_down (s.y + k) * s.stride + j / 2 ^ pick s.half_across 1 0 * s.bytes) u
    ∙ ap (λ (j : ℕ). cover s.half_down (s.y + k) * s.stride + j * s.bytes) (line-half s.half_across (s.x + i))

pub line_row : (d : List ℕ) (s : Source) (n k : ℕ) → line_bytes d s.bytes (source_line s k) n ≡ source_row d s n k
unfolding line_bytes source_row samples_of source_at sample_in
line_row d s n k = span-cong _ _ 0 n (λ i l m. ap (λ (j : ℕ). sample_bytes s.bytes (sample_at d s.bytes j)) (line-place s i k))

pub line-fits : (d : List ℕ) (out at stride across down k : ℕ) (s : Source) → RowsFit out (length d) at stride across down s → k < down → LineFits d s.bytes (source_line s k) across
line-fits d out at stride across down k s ok l =
    record {
      positive = ok.positive;
      bounded = ok.bounded;
      forth = omega arith;
      back = omega arith;
      half = pick-le s.half_across 1 0 1 (omega arith) (omega arith);
      from = omega (arith, ok.wide);
      count = omega (arith, ok.wide);
      behind = λ i h. omega arith;
      inside = λ i h. rw (line-place s i k) (ok.reads i k h l);
    }

-- a row of samples that are held to top, one more
pub capped-next : (d : List ℕ) (s : Source) (top n i k v : ℕ) → i < n → v ≡ min (source_at d s i k) top
    → span (λ j. sample_bytes s.bytes (min (source_at d s j k) top)) i n ≡ sample_bytes s.bytes v ++ span (λ j. sample_bytes s.bytes (min (source_at d s j k) top)) (i + 1) n
capped-next d s top n i k v l e = span-step _ i n l ∙ ap (λ (u : ℕ). sample_bytes s.bytes u ++ span (λ j. sample_bytes s.bytes (min (source_at d s j k) top)) (i + 1) n) (sym e)
