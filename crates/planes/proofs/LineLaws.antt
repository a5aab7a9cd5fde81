-- Laws of lines of samples.
use mathlib.Core.List.{List, []}
use mathlib.Core.Path.{◌∙◌, ◌≡◌, ap, ap₂}
use Prim.Native.Nat.{◌*◌, ◌+◌, ◌-◌, ◌/◌, ◌<◌, ◌^◌, ◌≤◌, suc, ℕ}
use native.Mathlib.Nat.{add-mul, suc-mul}
use native.Mathlib.Omega.{arith}
use lib.ListN.{drop, length, take}
use Rattle.laws.proofs.Span.{span-cong, span-end}
use Rattle.planes.proofs.ByteLaws.{samples-taken}
use Rattle.laws.specs.Puts.{Bytes}
use Rattle.planes.specs.Bytes.{sample_at, sample_bytes, samples_of}
use Rattle.planes.specs.inner.Line.{LineFits, line_bytes, place_on}
use Rattle.planes.specs.declared.samples.Line.{Line}

-- a line that takes one sample after the other
place-plain : (l : Line) (bytes k : ℕ) → l.step ≡ bytes → l.half ≡ 0 → l.forth ≡ 1 → l.back ≡ 0 → place_on l k ≡ l.origin + l.from * bytes + k * bytes
unfolding place_on
place-plain l bytes k s h f b =
    let p : 2 ^ l.half ≡ 1 = ap (λ (n : ℕ). 2 ^ n) h in
    let u : l.from + k * l.forth - k * l.back ≡ l.from + k = rw (f, b) (omega arith) in
    let d : (l.from + k) / 2 ^ l.half ≡ l.from + k = rw p (omega arith) in
    let m : (l.from + k) * bytes ≡ l.from * bytes + k * bytes = add-mul l.from k bytes in
    ap (λ (n : ℕ). l.origin + n) (ap₂ (λ (a b : ℕ). a * b) (ap (λ (n : ℕ). n / 2 ^ l.half) u ∙ d) s ∙ m) ∙ omega arith

module _ (d : List ℕ) (bytes : ℕ) (l : Line) (n : ℕ) (fits : LineFits d bytes l n) (some : 0 < n)
    (s : l.step ≡ bytes) (h : l.half ≡ 0) (f : l.forth ≡ 1) (b : l.back ≡ 0) where
  -- its bytes stand in the plane
  pub line-inside : l.origin + l.from * bytes + n * bytes ≤ length d
  line-inside =
      let k : suc (n - 1) ≡ n = omega arith in
      let e : (n - 1) * bytes + bytes ≡ n * bytes = omega (arith, suc-mul (n - 1) bytes, ap (λ (x : ℕ). x * bytes) k) in
      omega (arith, fits.inside (n - 1) (omega arith), place-plain l bytes (n - 1) s h f b)

  pub line_taken : Bytes d → line_bytes d bytes l n ≡ take (n * bytes) (drop (l.origin + l.from * bytes) d)
  unfolding line_bytes samples_of
  line_taken small =
      span-cong _ _ 0 n (λ k p q. ap (λ (i : ℕ). sample_bytes bytes (sample_at d bytes i)) (place-plain l bytes k s h f b))
      ∙ samples-taken d bytes (l.origin + l.from * bytes) n small fits.positive fits.bounded line-inside

pub line-none : (d : List ℕ) (bytes : ℕ) (l : Line) (n : ℕ) → n ≡ 0 → line_bytes d bytes l n ≡ []
unfolding line_bytes samples_of
line-none d bytes l n e = span-end _ 0 n (omega arith)
