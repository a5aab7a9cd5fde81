-- Laws of big-endian fields, read and written, and of patterns of signed numbers.
use mathlib.Core.List.{List, [], ◌++◌, ◌∷◌}
use mathlib.Core.Path.{◌∙◌, ◌≡◌, ap, ap₂, refl, sym}
use Prim.Native.Nat.{◌%◌, ◌*◌, ◌+◌, ◌-◌, ◌/◌, ◌<◌, ◌^◌, ◌≤◌, suc, zero, ℕ}
use native.Mathlib.Nat.{add-zero, div-lt_iff_lt-mul, pow-le-pow_right, pow-suc}
use native.Mathlib.Numerals.{add-one}
use native.Mathlib.Omega.{arith}
use lib.Dec.{lit<}
use lib.IntN.{negsuc, pos, ℤ}
use lib.ListN.{drop, get_or, length, length-append}
use lib.Seq.{append_snoc, drop-cons, get_or_at, get_or-drop}
use lib.Signed.{mag}
use borrow.Author.Tests.{le-ltb, lt-ltb}
use Rattle.laws.proofs.Order.{by_order, pick-false, pick_true}
use Rattle.numbers.specs.Field.{big_endian, big_endian_bytes, pattern_of, signed_of}
use Rattle.numbers.specs.inner.Length.{FieldLength}

pub big_endian-none : (s : List ℕ) (at : ℕ) → big_endian s at 0 ≡ 0
unfolding big_endian
big_endian-none s at = refl

pub big_endian-more : (s : List ℕ) (at n : ℕ) → big_endian s at (n + 1) ≡ big_endian s at n * 256 + get_or s (at + n) 0
unfolding big_endian
big_endian-more s at n = rw add-one

-- what is read so far, and one byte more
pub weight-more : (i v b : ℕ) → v < 256 ^ i → b < 256 → v * 256 + b < 256 ^ (i + 1)
weight-more i v b h k = rw (add-one, pow-suc) (omega arith)

pub weight-small : (i n : ℕ) → i ≤ n → 256 ^ i ≤ 256 ^ n
weight-small i n h = pow-le-pow_right {n = 256} (lit< tt) h

-- ---- fields that are written

pub length-big_endian_bytes : (n v : ℕ) → length (big_endian_bytes n v) ≡ n
unfolding big_endian_bytes
length-big_endian_bytes zero v = refl
length-big_endian_bytes (suc n) v = length-append (big_endian_bytes n (v / 256)) (v % 256 ∷ []) ∙ (let e = length-big_endian_bytes n (v / 256) in omega arith)

-- of two bytes, and of four
pub big_endian_bytes-two : (n v : ℕ) → FieldLength n → n < 4 → big_endian_bytes n v ≡ (v / 256 % 256) ∷ (v % 256) ∷ []
unfolding big_endian_bytes
big_endian_bytes-two n v h l = let e : n ≡ 2 = omega arith in ap (λ (k : ℕ). big_endian_bytes k v) e

pub big_endian_bytes-four : (n v : ℕ) → FieldLength n → 4 ≤ n → v < 2 ^ 32 → big_endian_bytes n v ≡ (v / 16777216) ∷ (v / 65536 % 256) ∷ (v / 256 % 256) ∷ (v % 256) ∷ []
unfolding big_endian_bytes
big_endian_bytes-four n v h l k =
    let e : n ≡ 4 = omega arith in
    let a : v / 256 / 256 / 256 % 256 ≡ v / 16777216 = omega arith in
    let b : v / 256 / 256 % 256 ≡ v / 65536 % 256 = omega arith in
    ap (λ (m : ℕ). big_endian_bytes m v) e ∙ ap₂ (λ (x y : ℕ). x ∷ y ∷ (v / 256 % 256) ∷ (v % 256) ∷ []) a b

-- the last byte, and those before it
pub big_endian_bytes-more : (n v : ℕ) (rest : List ℕ) → big_endian_bytes (suc n) v ++ rest ≡ big_endian_bytes n (v / 256) ++ (v % 256 ∷ rest)
unfolding big_endian_bytes
big_endian_bytes-more n v rest = append_snoc (big_endian_bytes n (v / 256)) (v % 256) rest

-- what was written is read back
pub field_back : (s : List ℕ) (at n v : ℕ) (rest : List ℕ) → drop at s ≡ big_endian_bytes n v ++ rest → v < 256 ^ n → big_endian s at n ≡ v
unfolding big_endian
field_back s at zero v rest e h = omega arith
field_back s at (suc n) v rest e h =
    let q : drop at s ≡ big_endian_bytes n (v / 256) ++ (v % 256 ∷ rest) = e ∙ big_endian_bytes-more n v rest in
    let l : v < 256 ^ n * 256 = rw pow-suc at h in
    let high : big_endian s at n ≡ v / 256 = field_back s at n (v / 256) (v % 256 ∷ rest) q ((div-lt_iff_lt-mul (lit< tt)).1 l) in
    let low : get_or s (at + n) 0 ≡ v % 256 =
    sym (get_or-drop at s n 0) ∙ ap (λ (t : List ℕ). get_or t n 0) q ∙ get_or_at (big_endian_bytes n (v / 256)) (v % 256) rest 0 n (length-big_endian_bytes n (v / 256)) in
    omega arith

-- what was read is written again
pub field-again : (s : List ℕ) (at n : ℕ) → ((i : ℕ) → get_or s i 0 < 256) → at + n ≤ length s → drop at s ≡ big_endian_bytes n (big_endian s at n) ++ drop (at + n) s
unfolding big_endian big_endian_bytes
field-again s at zero small h = ap (λ (k : ℕ). drop k s) (sym (add-zero at))
field-again s at (suc n) small h =
    let v = big_endian s at n in
    let b = get_or s (at + n) 0 in
    let l : b < 256 = small (at + n) in
    let high : (v * 256 + b) / 256 ≡ v = omega arith in
    let low : (v * 256 + b) % 256 ≡ b = omega arith in
    let p : suc (at + n) ≡ at + suc n = omega arith in
    field-again s at n small (omega arith)
    ∙ ap (λ (t : List ℕ). big_endian_bytes n v ++ t) (drop-cons s (at + n) 0 (omega arith) ∙ ap (λ (k : ℕ). b ∷ drop k s) p)
    ∙ ap₂ (λ (x y : ℕ). big_endian_bytes n x ++ (y ∷ drop (at + suc n) s)) (sym high) (sym low)
    ∙ sym (append_snoc (big_endian_bytes n ((v * 256 + b) / 256)) ((v * 256 + b) % 256) (drop (at + suc n) s))

-- ---- patterns

-- a pattern of the lower half, and one of the upper
pub signed-ahead : (range p : ℕ) → p < range / 2 → signed_of range p ≡ pos p
unfolding signed_of
signed-ahead range p h = pick_true _ _ _ (lt-ltb p (range / 2) h)

pub signed-behind : (range p : ℕ) → range / 2 ≤ p → signed_of range p ≡ negsuc (range - suc p)
unfolding signed_of
signed-behind range p h = pick-false _ _ _ (le-ltb p (range / 2) h)

pub pattern-signed : (range p : ℕ) → p < range → pattern_of range (signed_of range p) ≡ p
unfolding pattern_of
pattern-signed range p h =
    by_order p (range / 2) (λ l. ap (pattern_of range) (signed-ahead range p l))
    (λ l. ap (pattern_of range) (signed-behind range p l) ∙ omega arith)

pub signed-pattern : (range : ℕ) (z : ℤ) → mag z < range / 2 → signed_of range (pattern_of range z) ≡ z
unfolding pattern_of
signed-pattern range (pos n) h = signed-ahead range n h
signed-pattern range (negsuc n) h = signed-behind range (range - suc n) (omega arith) ∙ (let e : range - suc (range - suc n) ≡ n = omega arith in ap negsuc e)

pub pattern-below : (range : ℕ) (z : ℤ) → mag z < range / 2 → pattern_of range z < range
unfolding pattern_of
pattern-below range (pos n) h = omega arith
pattern-below range (negsuc n) h = omega arith

-- a signed number is in the range of its patterns
pub signed-fits : (range p : ℕ) → p < range → range % 2 ≡ 0 → mag (signed_of range p) < range / 2
signed-fits range p h e =
    by_order p (range / 2) (λ l. rw (signed-ahead range p l) l) (λ l. rw (signed-behind range p l) (omega arith))
