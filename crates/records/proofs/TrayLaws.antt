-- Laws of trays: reading record by record.
use Rattle.std.specs.Prelude.{Ok, Err}
use mathlib.Core.List.{List, [], ◌∷◌}
use mathlib.Core.Path.{◌∙◌, ◌≡◌, ap, refl, sym}
use Prim.Native.Nat.{◌+◌, ◌-◌, ◌<◌, ◌≤◌, suc, zero, ℕ}
use native.Mathlib.Nat.{not-suc-le-zero}
use native.Mathlib.Omega.{arith}
use lib.Dec.{ltb}
use lib.ListN.{length}
use borrow.Author.Tests.{le-ltb, lt-ltb}
use Rattle.laws.proofs.Out.{after-after, after-done, after_none, after_then, and_then-done, done-about, done-same, reason-after, record-after, refuse-done, refuse-no, refuse-yes, refused-about, then-done, then-refused}
use Rattle.laws.specs.Out.{Out, after, and_then, own_refusal, reason}
use Rattle.laws.specs.declared.Item.TheVariants.{Record}
use Rattle.laws.specs.declared.Refusal.{Refusal}
use Rattle.numbers.specs.Number.{malformed, on_number, read_number}
use Rattle.records.specs.Record.{record_at}
use Rattle.records.specs.Tray.{frames_at, tray_count, tray_of}
use Rattle.records.specs.declared.record.Frame.{Frame}

-- ---- the count

pub tray-number : (s : List ℕ) (n a : ℕ) → read_number s 0 ≡ Ok (n, a) → tray_of s ≡ frames_at n s a
unfolding tray_of on_number
tray-number s n a e = rw e

pub tray-malformed : (s : List ℕ) → read_number s 0 ≡ malformed → tray_of s ≡ Err (reason 5)
unfolding tray_of on_number
tray-malformed s e = rw e

-- ---- so many records in turn

-- one is taken, and the rest decides
pub frames-next : (n : ℕ) (s : List ℕ) (at : ℕ) (fr : Frame) → 0 < n → record_at s at ≡ Ok fr → frames_at n s at ≡ and_then (after 1 (frames_at (n - 1) s fr.end)) (λ frs. Ok (fr ∷ frs))
unfolding frames_at
frames-next zero s at fr h e = absurd (not-suc-le-zero h)
frames-next (suc n) s at fr h e = let z : suc n - 1 ≡ n = omega arith in then-done _ (done-about _ _ _ _ e) ∙ rw z

pub frames-refused : (n : ℕ) (s : List ℕ) (at : ℕ) (r : Refusal) → 0 < n → record_at s at ≡ Err r → frames_at n s at ≡ Err (own_refusal r.reason (Record 0))
unfolding frames_at
frames-refused zero s at r h e = absurd (not-suc-le-zero h)
frames-refused (suc n) s at r h e = then-refused _ (refused-about _ _ _ _ e)

pub frames-end : (n : ℕ) (s : List ℕ) (at : ℕ) → n ≤ 0 → length s ≤ at → frames_at n s at ≡ Ok []
unfolding frames_at
frames-end zero s at z h = refuse-no _ _ (le-ltb at (length s) h)
frames-end (suc n) s at z h = absurd (not-suc-le-zero z)

pub frames-left : (n : ℕ) (s : List ℕ) (at : ℕ) → n ≤ 0 → at < length s → frames_at n s at ≡ Err (reason 5)
unfolding frames_at
frames-left zero s at z h = refuse-yes _ _ (lt-ltb at (length s) h)
frames-left (suc n) s at z h = absurd (not-suc-le-zero z)

-- there are as many as were asked for
pub frames-length : (n : ℕ) (s : List ℕ) (at : ℕ) (frs : List Frame) → frames_at n s at ≡ Ok frs → length frs ≡ n
unfolding frames_at
frames-length zero s at frs e = let a = refuse-done (ltb at (length s)) 5 _ frs e in ap length (sym (done-same _ frs a.1))
frames-length (suc n) s at frs e =
    let a = and_then-done _ _ frs e in
    let b = and_then-done _ _ frs a.2 in
    ap length (sym (done-same _ frs b.2)) ∙ ap suc (frames-length n s a.0.end b.0 (after-done 1 _ _ b.1))

-- ---- the same behind i records, of which k are to be read

-- one is taken, and the rest follows one more
pub frames-on : (i k : ℕ) (s : List ℕ) (at : ℕ) (fr : Frame) → i < k → record_at s at ≡ Ok fr
    → after i (frames_at (k - i) s at) ≡ and_then (after (i + 1) (frames_at (k - (i + 1)) s fr.end)) (λ frs. Ok (fr ∷ frs))
frames-on i k s at fr h e =
    let z : k - i - 1 ≡ k - (i + 1) = omega arith in
    ap (after i) (frames-next (k - i) s at fr (omega arith) e) ∙ after_then i _ _ ∙ ap (λ o. and_then o (λ frs. Ok (fr ∷ frs))) (after-after i 1 _ ∙ rw z)

pub frames-refused-on : (i n : ℕ) (s : List ℕ) (at : ℕ) (r : Refusal) → 0 < n → record_at s at ≡ Err r → after i (frames_at n s at) ≡ Err (own_refusal r.reason (Record i))
frames-refused-on i n s at r h e = record-after i r.reason _ (frames-refused n s at r h e)

pub frames-left-on : (i n : ℕ) (s : List ℕ) (at : ℕ) → n ≤ 0 → at < length s → after i (frames_at n s at) ≡ Err (reason 5)
frames-left-on i n s at z h = reason-after i 5 _ (frames-left n s at z h)

-- none is behind at the start
pub frames-begin : (k : ℕ) (s : List ℕ) (at : ℕ) → frames_at k s at ≡ after 0 (frames_at (k - 0) s at)
frames-begin k s at = let z : k - 0 ≡ k = omega arith in rw z (sym (after_none _))

-- ---- counting them

-- k where they are taken
unfoldable pub counted : ℕ → Out (List Frame) → Out ℕ
counted k o = and_then o (λ frs. Ok k)

pub counted-count : (n : ℕ) (s : List ℕ) (at : ℕ) → tray_count (frames_at n s at) ≡ counted n (frames_at n s at)
unfolding tray_count counted
counted-count n s at = go (frames_at n s at) refl
  where
    go : (o : Out (List Frame)) → frames_at n s at ≡ o → and_then o (λ frs. Ok (length frs)) ≡ and_then o (λ frs. Ok n)
    go (Err r) e = then-refused _ refl ∙ sym (then-refused _ refl)
    go (Ok frs) e = then-done _ refl ∙ ap Ok (frames-length n s at frs e) ∙ sym (then-done _ refl)

pub counted_start : (k : ℕ) (s : List ℕ) (at : ℕ) → tray_count (frames_at k s at) ≡ counted k (after 0 (frames_at (k - 0) s at))
counted_start k s at = counted-count k s at ∙ ap (counted k) (frames-begin k s at)

pub counted_next : (i k : ℕ) (s : List ℕ) (at : ℕ) (fr : Frame) → i < k → record_at s at ≡ Ok fr
    → counted k (after i (frames_at (k - i) s at)) ≡ counted k (after (i + 1) (frames_at (k - (i + 1)) s fr.end))
unfolding counted
counted_next i k s at fr h e = ap (counted k) (frames-on i k s at fr h e) ∙ go (after (i + 1) (frames_at (k - (i + 1)) s fr.end))
  where
    go : (o : Out (List Frame)) → and_then (and_then o (λ frs. Ok (fr ∷ frs))) (λ frs. Ok k) ≡ and_then o (λ frs. Ok k)
    go (Err r) = then-refused _ (then-refused _ refl) ∙ sym (then-refused _ refl)
    go (Ok frs) = then-done _ (then-done _ refl) ∙ sym (then-done _ refl)

pub counted-done : (k : ℕ) (o : Out (List Frame)) (frs : List Frame) → o ≡ Ok frs → counted k o ≡ Ok k
unfolding counted
counted-done k o frs e = then-done _ e

pub counted-refused : (k : ℕ) (o : Out (List Frame)) (r : Refusal) → o ≡ Err r → counted k o ≡ Err r
unfolding counted
counted-refused k o r e = then-refused _ e
