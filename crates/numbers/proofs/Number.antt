-- Laws of house numbers: a step of the writer, a step of the reader; what was written is read back, and what is read is the shortest
-- form.
use Rattle.laws.specs.Out.{Out}
use Rattle.laws.proofs.Out.{done-pair}
use Rattle.numbers.specs.Number.{malformed}
use Rattle.std.specs.Prelude.{Ok}
use mathlib.Core.List.{List, [], ◌++◌, ◌∷◌}
use mathlib.Core.Path.{◌∙◌, ◌≡◌, ap, ap₂, refl, sym}
use Prim.Native.Nat.{◌%◌, ◌*◌, ◌+◌, ◌-◌, ◌/◌, ◌<◌, ◌^◌, ◌≤◌, suc, zero, ℕ}
use native.Mathlib.Nat.{add_assoc, add-mul, add-zero, div-lt_iff_lt-mul, mod-add-div', mul_assoc, mul_comm, not-suc-le-zero, pow-le-pow_right, pow-suc}
use native.Mathlib.Numerals.{add-one}
use native.Mathlib.Omega.{arith}
use lib.Dec.{leb, lit<, ltb}
use lib.ListN.{drop, get_or, length, length-append, length-drop, take}
use lib.Seq.{drop-append_seam, drop-cons, drop-drop, get_or-drop, take_at}
use borrow.Author.Tests.{le-leb, le-ltb, lt-leb, lt-ltb}
use Rattle.laws.proofs.Order.{apart, by_order}
use Rattle.laws.specs.Pick.{pick}
use Rattle.numbers.specs.Number.{groups, last_byte, number_bytes, read_from, read_number}

-- one group more than is needed changes nothing
groups-fuel : (k n : ℕ) → n < 128 ^ suc k → groups k n ≡ groups (suc k) n
unfolding groups pick
groups-fuel zero n h = simp (lt-ltb n 128 h)
groups-fuel (suc k) n h =
    by_order n 128 (λ l. simp (lt-ltb n 128 l))
    (λ g.
    let e : n < 128 ^ suc k * 128 = rw pow-suc at h in
    ap (λ (r : List ℕ). pick (ltb n 128) (n ∷ []) ((n % 128 + 128) ∷ r)) (groups-fuel k (n / 128) ((div-lt_iff_lt-mul (lit< tt)).1 e)))

pub bytes-last : (n : ℕ) → n < 128 → number_bytes n ≡ n ∷ []
unfolding groups number_bytes pick
bytes-last n h = simp (lt-ltb n 128 h)

pub bytes-more : (n : ℕ) → 128 ≤ n → n < 2 ^ 32 → number_bytes n ≡ (n % 128 + 128) ∷ number_bytes (n / 128)
unfolding groups number_bytes pick
bytes-more n h l =
    let e : groups 3 (n / 128) ≡ groups 4 (n / 128) = groups-fuel 3 (n / 128) (omega arith) in
    simp (le-ltb n 128 h) (ap (λ (r : List ℕ). (n % 128 + 128) ∷ r) e)

groups-short : (k m : ℕ) → length (groups k m) ≤ suc k
unfolding groups pick
groups-short zero m = omega arith
groups-short (suc k) m =
    by_order m 128 (λ l. simp (lt-ltb m 128 l) (omega arith)) (λ g. simp (le-ltb m 128 g) (omega (arith, groups-short k (m / 128))))

pub bytes-short : (n : ℕ) → length (number_bytes n) ≤ 5
unfolding number_bytes
bytes-short n = groups-short 4 n

-- the turns of the reader's loop
abbrev turn : ℕ → List ℕ → ℕ → ℕ → ℕ → ℕ → Out (ℕ × ℕ)
turn k s i least w v =
    pick (leb (length s) i) malformed
    (pick (ltb (get_or s i 0) 128) (last_byte least (get_or s i 0) w v (i + 1))
    (read_from (k - 1) s (i + 1) 1 (w * 128) (v + (get_or s i 0 - 128) * w)))

step : (k : ℕ) (s : List ℕ) (i least w v : ℕ) → 0 < k → read_from k s i least w v ≡ turn k s i least w v
unfolding read_from
step zero s i least w v h = absurd (not-suc-le-zero h)
step (suc j) s i least w v h = let e : suc j - 1 ≡ j = omega arith in rw e

module _ (k : ℕ) (s : List ℕ) (i least w v : ℕ) (some_left : 0 < k) where
  read_step : read_from k s i least w v ≡ turn k s i least w v
  read_step = step k s i least w v some_left

  pub read-end : length s ≤ i → read_from k s i least w v ≡ malformed
  unfolding pick last_byte
  read-end h = read_step ∙ simp (le-leb (length s) i h)

  pub read_low : i < length s → get_or s i 0 < 128 → get_or s i 0 < least → read_from k s i least w v ≡ malformed
  unfolding pick last_byte
  read_low h l t = read_step ∙ simp (lt-leb (length s) i h, lt-ltb (get_or s i 0) 128 l, lt-ltb (get_or s i 0) least t)

  pub read-large : i < length s → get_or s i 0 < 128 → least ≤ get_or s i 0 → 2 ^ 32 ≤ v + get_or s i 0 * w → read_from k s i least w v ≡ malformed
  unfolding pick last_byte
  read-large h l t g =
      read_step ∙ simp (lt-leb (length s) i h, lt-ltb (get_or s i 0) 128 l, le-ltb (get_or s i 0) least t, le-leb (2 ^ 32) (v + get_or s i 0 * w) g)

  pub read-last : i < length s → get_or s i 0 < 128 → least ≤ get_or s i 0 → v + get_or s i 0 * w < 2 ^ 32
      → read_from k s i least w v ≡ Ok ((v + get_or s i 0 * w), (i + 1))
  unfolding pick last_byte
  read-last h l t g =
      read_step ∙ simp (lt-leb (length s) i h, lt-ltb (get_or s i 0) 128 l, le-ltb (get_or s i 0) least t, lt-leb (2 ^ 32) (v + get_or s i 0 * w) g)

  pub read_more : i < length s → 128 ≤ get_or s i 0
      → read_from k s i least w v ≡ read_from (k - 1) s (i + 1) 1 (w * 128) (v + (get_or s i 0 - 128) * w)
  unfolding pick last_byte
  read_more h g = read_step ∙ simp (lt-leb (length s) i h, le-ltb (get_or s i 0) 128 g)

-- a number of one group
pub read_one : (s : List ℕ) (i : ℕ) → i < length s → get_or s i 0 < 128 → read_number s i ≡ Ok ((get_or s i 0), (i + 1))
unfolding read_number
read_one s i h l =
    let e : 0 + get_or s i 0 * 1 ≡ get_or s i 0 = omega arith in
    read-last 5 s i 0 1 0 (lit< tt) h l (omega arith) (omega arith) ∙ ap (λ (n : ℕ). Ok (n, (i + 1))) e

pub read_none : (s : List ℕ) (i least w v : ℕ) → read_from 0 s i least w v ≡ malformed
unfolding read_from
read_none s i least w v = refl

-- the weight of a group that is still to be read
pub weight-small : (k : ℕ) → k < 5 → 128 ^ k ≤ 2 ^ 28
weight-small k h = let e : k ≤ 4 = omega arith in pow-le-pow_right {n = 128} (lit< tt) e

pub weight-next : (k : ℕ) → 128 ^ k * 128 ≡ 128 ^ (k + 1)
weight-next k = rw (add-one, pow-suc)

-- what stands at the head of what is left of a list
pub at_head : (l : List ℕ) (i b : ℕ) (t : List ℕ) → drop i l ≡ b ∷ t → (i < length l) × (get_or l i 0 ≡ b) × (drop (i + 1) l ≡ t)
at_head l i b t e =
    let z : i + 0 ≡ i = add-zero i in (
      omega (arith, length-drop i l, ap length e),
      ap (λ (k : ℕ). get_or l k 0) (sym z) ∙ sym (get_or-drop i l 0 0) ∙ ap (λ (q : List ℕ). get_or q 0 0) e,
      sym (drop-drop 1 i l) ∙ ap (drop 1) e,
    )

regroup : (n w v : ℕ) → v + (n % 128 + 128 - 128) * w + n / 128 * (w * 128) ≡ v + n * w
regroup n w v =
    let p : n % 128 + 128 - 128 ≡ n % 128 = omega arith in
    let q : n / 128 * (w * 128) ≡ n / 128 * 128 * w = ap (λ (k : ℕ). n / 128 * k) (mul_comm w 128) ∙ sym (mul_assoc (n / 128) 128 w) in
    let d : (n % 128 + n / 128 * 128) * w ≡ n % 128 * w + n / 128 * 128 * w = add-mul (n % 128) (n / 128 * 128) w in
    let m : n % 128 + n / 128 * 128 ≡ n = mod-add-div' n 128 in
    rw (p, q) (add_assoc v (n % 128 * w) (n / 128 * 128 * w) ∙ ap (λ (k : ℕ). v + k) (sym d ∙ ap (λ (k : ℕ). k * w) m))

read_back : (k : ℕ) (l : List ℕ) (i least w v n : ℕ) (rest : List ℕ) → drop i l ≡ groups k n ++ rest → n < 128 ^ suc k → least ≤ n → v + n * w < 2 ^ 32
    → read_from (suc k) l i least w v ≡ Ok ((v + n * w), (i + length (groups k n)))
unfolding groups pick
read_back zero l i least w v n rest e h g m =
    let a = at_head l i n rest e in
    rw (sym a.1) (read-last 1 l i least w v (lit< tt) a.0 (rw a.1 h) (rw a.1 g) (rw a.1 m))
read_back (suc k) l i least w v n rest e h g m =
    by_order n 128
    (λ s.
    let f : groups (suc k) n ≡ n ∷ [] = simp (lt-ltb n 128 s) in
    let a = at_head l i n rest (e ∙ ap (λ (q : List ℕ). q ++ rest) f) in
    let x = read-last (suc (suc k)) l i least w v (omega arith) a.0 (rw a.1 s) (rw a.1 g) (rw a.1 m) in
    x ∙ rw (a.1, f))
    (λ s.
    let f : groups (suc k) n ≡ (n % 128 + 128) ∷ groups k (n / 128) = simp (le-ltb n 128 s) in
    let a = at_head l i (n % 128 + 128) (groups k (n / 128) ++ rest) (e ∙ ap (λ (q : List ℕ). q ++ rest) f) in
    let x = read_more (suc (suc k)) l i least w v (omega arith) a.0 (rw a.1 (omega arith)) in
    let j : suc (suc k) - 1 ≡ suc k = omega arith in
    let u : n < 128 ^ suc k * 128 = rw pow-suc at h in
    let o = read_back k l (i + 1) 1 (w * 128) (v + (n % 128 + 128 - 128) * w) (n / 128) rest a.2 ((div-lt_iff_lt-mul (lit< tt)).1 u)
    (omega arith) (rw (regroup n w v) m) in
    let y : read_from (suc (suc k) - 1) l (i + 1) 1 (w * 128) (v + (get_or l i 0 - 128) * w) ≡ Ok (v + n * w, i + 1 + length (groups k (n / 128))) =
    rw (j, a.1, ← regroup n w v) o in
    x ∙ y ∙ ap (λ (m : ℕ). Ok (v + n * w, m)) (rw f (omega arith)))

-- what was written is read back
pub round_trip : (before rest : List ℕ) (n : ℕ) → n < 2 ^ 32 → read_number (before ++ (number_bytes n ++ rest)) (length before) ≡ Ok (n, (length before + length (number_bytes n)))
unfolding number_bytes read_number
round_trip before rest n h =
    let z : 0 + n * 1 ≡ n = omega arith in
    let x = read_back 4 (before ++ (groups 4 n ++ rest)) (length before) 0 1 0 n rest (drop-append_seam before (groups 4 n ++ rest)) (omega arith) (omega arith) (omega arith) in
    x ∙ rw z

-- what a number that was read is, and where it ends
read-from-bounds : (k : ℕ) (s : List ℕ) (i least w v x n : ℕ) → read_from k s i least w v ≡ Ok (x, n) → (x < 2 ^ 32) × (n ≤ length s) × (i < n)
read-from-bounds zero s i least w v x n e = let q = read_none s i least w v in apart (cc)
read-from-bounds (suc k) s i least w v x n e =
    let m : 0 < suc k = omega arith in
    by_order i (length s)
    (λ h.
    by_order (get_or s i 0) 128
    (λ l.
    by_order (get_or s i 0) least
    (λ t. let q = read_low (suc k) s i least w v m h l t in apart (cc))
    (λ t.
    by_order (v + get_or s i 0 * w) (2 ^ 32)
    (λ g.
    let q = read-last (suc k) s i least w v m h l t g in
    let p = done-pair (v + get_or s i 0 * w) x (i + 1) n (sym q ∙ e) in
    let a = p.0 in
    let b = p.1 in
    (rw a at g, omega arith, omega arith))
    (λ g. let q = read-large (suc k) s i least w v m h l t g in apart (cc))))
    (λ l.
    let q = read_more (suc k) s i least w v m h l in
    let j : suc k - 1 ≡ k = omega arith in
    let r = read-from-bounds k s (i + 1) 1 (w * 128) (v + (get_or s i 0 - 128) * w) x n (rw j at (sym q ∙ e)) in
    (r.0, r.1, omega arith)))
    (λ h. let q = read-end (suc k) s i least w v m h in apart (cc))

pub read-bounds : (s : List ℕ) (i x n : ℕ) → read_number s i ≡ Ok (x, n) → (x < 2 ^ 32) × (n ≤ length s) × (i < n)
unfolding read_number
read-bounds s i x n e = read-from-bounds 5 s i 0 1 0 x n e

-- a number that stands at a place is read there; what follows it stands past it
pub number_at : (s : List ℕ) (i n : ℕ) (rest : List ℕ) → drop i s ≡ number_bytes n ++ rest → n < 2 ^ 32 → read_number s i ≡ Ok (n, (i + length (number_bytes n)))
unfolding number_bytes read_number
number_at s i n rest e h =
    let z : 0 + n * 1 ≡ n = omega arith in
    let x = read_back 4 s i 0 1 0 n rest e (omega arith) (omega arith) (omega arith) in
    x ∙ rw z

pub past-append : (s : List ℕ) (i : ℕ) (a b : List ℕ) → drop i s ≡ a ++ b → drop (i + length a) s ≡ b
past-append s i a b e = sym (drop-drop (length a) i s) ∙ ap (drop (length a)) e ∙ drop-append_seam a b

-- ---- what is read is the shortest form

-- a last group by itself
groups-last : (k n : ℕ) → n < 128 → groups k n ≡ n ∷ []
unfolding groups pick
groups-last zero n h = refl
groups-last (suc k) n h = simp (lt-ltb n 128 h)

groups-more : (k n : ℕ) → 128 ≤ n → groups (suc k) n ≡ (n % 128 + 128) ∷ groups k (n / 128)
unfolding groups pick
groups-more k n h = simp (le-ltb n 128 h)

head-drop : (s : List ℕ) (i : ℕ) → i < length s → drop i s ≡ get_or s i 0 ∷ drop (i + 1) s
head-drop s i h = drop-cons s i 0 h ∙ ap (λ (j : ℕ). get_or s i 0 ∷ drop j s) (sym (add-one i))

-- what the groups from place i on came to: the number n, of which these are the groups
record Came (k : ℕ) (s : List ℕ) (i least w v x next : ℕ) : Type 0 where
  n : ℕ
  value : x ≡ v + n * w
  positive : least ≤ n
  bytes : drop i s ≡ groups k n ++ drop next s

came-last : (k : ℕ) (s : List ℕ) (i least w v x next : ℕ) → i < length s → get_or s i 0 < 128 → least ≤ get_or s i 0 → v + get_or s i 0 * w ≡ x → i + 1 ≡ next → Came k s i least w v x next
came-last k s i least w v x next h l t e f = record {
  n = get_or s i 0;
  value = sym e;
  positive = t;
  bytes = head-drop s i h ∙ rw (groups-last k (get_or s i 0) l, f) refl;
}

-- a group below others
group-on : (b m : ℕ) → 128 ≤ b → b < 256 → 1 ≤ m
    → (128 ≤ b - 128 + m * 128) × ((b - 128 + m * 128) % 128 + 128 ≡ b) × ((b - 128 + m * 128) / 128 ≡ m)
group-on b m l h s = (omega arith, omega arith, omega arith)

came-more : (k : ℕ) (s : List ℕ) (i least w v x next : ℕ) → i < length s → 128 ≤ get_or s i 0 → get_or s i 0 < 256 → least ≤ 1
    → Came k s (i + 1) 1 (w * 128) (v + (get_or s i 0 - 128) * w) x next → Came (suc k) s i least w v x next
came-more k s i least w v x next h g small few c =
    let b = get_or s i 0 in
    let n = b - 128 + c.n * 128 in
    let o = group-on b c.n g small c.positive in
    let value : v + (b - 128) * w + c.n * (w * 128) ≡ v + n * w =
    ap₂ (λ (r m : ℕ). v + (r - 128) * w + m * (w * 128)) (sym o.1) (sym o.2) ∙ regroup n w v in
    let bytes : b ∷ (groups k c.n ++ drop next s) ≡ groups (suc k) n ++ drop next s =
    ap₂ (λ (r m : ℕ). r ∷ (groups k m ++ drop next s)) (sym o.1) (sym o.2) ∙ ap (λ (r : List ℕ). r ++ drop next s) (sym (groups-more k n o.0)) in
    record {
      n = n;
      value = c.value ∙ value;
      positive = omega (arith, o.0);
      bytes = head-drop s i h ∙ ap (λ (r : List ℕ). b ∷ r) c.bytes ∙ bytes;
    }

-- the first of them, and what comes of the others
came-step : (k : ℕ) (s : List ℕ) (i least w v x next : ℕ)
    → (i < length s → 128 ≤ get_or s i 0 → read_from k s (i + 1) 1 (w * 128) (v + (get_or s i 0 - 128) * w) ≡ Ok (x, next) → Came k s i least w v x next)
    → read_from (suc k) s i least w v ≡ Ok (x, next) → Came k s i least w v x next
came-step k s i least w v x next others e =
    let m : 0 < suc k = omega arith in
    by_order i (length s)
    (λ h.
    by_order (get_or s i 0) 128
    (λ l.
    by_order (get_or s i 0) least
    (λ t. let q = read_low (suc k) s i least w v m h l t in apart (cc))
    (λ t.
    by_order (v + get_or s i 0 * w) (2 ^ 32)
    (λ g. let q = read-last (suc k) s i least w v m h l t g in let p = done-pair (v + get_or s i 0 * w) x (i + 1) next (sym q ∙ e) in came-last k s i least w v x next h l t p.0 p.1)
    (λ g. let q = read-large (suc k) s i least w v m h l t g in apart (cc))))
    (λ l.
    let q = read_more (suc k) s i least w v m h l in
    let j : suc k - 1 ≡ k = omega arith in
    others h l (rw j at (sym q ∙ e))))
    (λ h. let q = read-end (suc k) s i least w v m h in apart (cc))

came_from : (k : ℕ) (s : List ℕ) (i least w v x next : ℕ) → ((j : ℕ) → get_or s j 0 < 256) → least ≤ 1 → read_from (suc k) s i least w v ≡ Ok (x, next) → Came k s i least w v x next
came_from zero s i least w v x next small few e =
    came-step 0 s i least w v x next (λ h l f. let q = read_none s (i + 1) 1 (w * 128) (v + (get_or s i 0 - 128) * w) in apart (cc)) e
came_from (suc k) s i least w v x next small few e =
    came-step (suc k) s i least w v x next
    (λ h l f. came-more k s i least w v x next h l (small i) few (came_from k s (i + 1) 1 (w * 128) (v + (get_or s i 0 - 128) * w) x next small (omega arith) f)) e

-- the number's bytes, and what stands past them
read-rest : (s : List ℕ) (at v next : ℕ) → ((i : ℕ) → get_or s i 0 < 256) → read_number s at ≡ Ok (v, next) → drop at s ≡ number_bytes v ++ drop next s
unfolding number_bytes read_number
read-rest s at v next small e =
    let c = came_from 4 s at 0 1 0 v next small (omega arith) e in
    let q : c.n ≡ v = omega (arith, c.value) in
    c.bytes ∙ ap (λ (n : ℕ). groups 4 n ++ drop next s) q

-- Document 01: a number "is below 2^32, in shortest form". The bytes that a number is read from are those that its value is written as.
pub read-shortest : (s : List ℕ) (at v next : ℕ) → ((i : ℕ) → get_or s i 0 < 256) → read_number s at ≡ Ok (v, next) → take (next - at) (drop at s) ≡ number_bytes v
read-shortest s at v next small e =
    let k = read-bounds s at v next e in
    let f = read-rest s at v next small e in
    let n : length (number_bytes v) ≡ next - at =
    omega (arith, k.1, k.2, ap length f, length-append (number_bytes v) (drop next s), length-drop at s, length-drop next s) in
    ap (take (next - at)) f ∙ take_at (number_bytes v) (drop next s) (next - at) n
