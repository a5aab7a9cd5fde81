-- What holds of descriptors that were taken.
use Rattle.std.specs.Prelude.{Ok, Err}
use mathlib.Core.List.{List}
use mathlib.Core.Path.{◌≡◌, ap, refl, sym}
use Prim.Native.Nat.{◌<◌, ◌^◌, ◌≤◌, ℕ}
use native.Mathlib.Omega.{arith}
use lib.ListN.{get_or, length}
use borrow.Author.Tests.{ltb-false}
use Rattle.laws.proofs.Out.{and_then-done, done-same, not_done, refuse-done}
use Rattle.laws.specs.Out.{Out}
use Rattle.laws.specs.Puts.{Bytes}
use Rattle.numbers.specs.Field.{on_field}
use Rattle.numbers.specs.declared.Cursor.{Cursor}
use Rattle.image.proofs.JudgedLaws.{judged-sound}
use Rattle.image.specs.Format.{sides}
use Rattle.image.specs.Sound.{SizeSound}
use Rattle.image.specs.declared.size.Size.{Size}
use Rattle.derived.proofs.FieldLaws.{field_below, field-read}
use Rattle.derived.specs.Canvas.{canvas_at, field_bytes, start_of}
use Rattle.derived.specs.Grid.{grid_at, grid_of}
use Rattle.derived.specs.Overlay.{fill_at, inputs_of, overlay_of}
use Rattle.derived.specs.declared.grid.GridDescriptor.{GridDescriptor}
use Rattle.derived.specs.declared.overlay.Fill.{Fill}
use Rattle.derived.specs.declared.overlay.OverlayDescriptor.{OverlayDescriptor}
use Rattle.derived.specs.inner.Sound.{GridSound, OverlaySound}

-- a field was read, and what goes on with it answered
pub on_field-done : {A : Type 0} (o : Out (ℕ × Cursor)) (k : ℕ → ℕ → Out A) (a : A) → on_field o k ≡ Ok a → (v : ℕ) × (c : Cursor) × (o ≡ Ok (v, c)) × (k v c.at ≡ Ok a)
unfolding on_field
on_field-done (Ok (v, c)) k a e = (v, c, refl, e)
on_field-done (Err r) k a e = not_done r a e

pub start-bytes : (s : List ℕ) (h : _) → start_of s ≡ Ok h → (2 ≤ h.0) × (h.0 ≤ 4)
unfolding start_of field_bytes
start-bytes s h e =
    let a = on_field-done _ _ h e in
    let b = refuse-done _ _ _ h a.3 in
    let d = on_field-done _ _ h b.1 in
    let q = ap (λ x. x.0) (done-same _ h d.3) in
    (omega arith, omega arith)

pub canvas-taken : (s : List ℕ) (at n : ℕ) (c : _) → canvas_at s at n ≡ Ok c → SizeSound (sides c.0.width c.0.height) × (c.1.at ≤ length s)
unfolding canvas_at
canvas-taken s at n c e =
    let a = on_field-done _ _ c e in
    let b = on_field-done _ _ c a.3 in
    let z = and_then-done _ _ c b.3 in
    let f = field-read s a.1.at n b.0 b.1 b.2 in
    rw (← done-same _ c z.2) (judged-sound a.0 b.0 z.0 z.1, omega arith)

grid-as : (g g' : GridDescriptor) → g ≡ g' → GridSound g → GridSound g'
grid-as g g' p k = rw p at k

-- a grid's descriptor, of a body whose items are bytes
pub grid-taken : (s : List ℕ) (g : GridDescriptor) → ((i : ℕ) → get_or s i 0 < 256) → grid_of s ≡ Ok g → GridSound g
unfolding grid_of grid_at
grid-taken s g k e =
    let h = and_then-done _ _ g e in
    let a = on_field-done _ _ g h.2 in
    let b = on_field-done _ _ g a.3 in
    let c = and_then-done _ _ g b.3 in
    let q = done-same _ g c.2 in
    let x = field_below s _ 1 a.0 a.1 k a.2 in
    let y = field_below s _ 1 b.0 b.1 k b.2 in
    let z = (canvas-taken s _ _ c.0 c.1).0 in
    grid-as _ g q (record { positive_rows = omega arith; bounded_rows = omega arith; positive_columns = omega arith; bounded_columns = omega arith; canvas = z })

overlay-as : (s : List ℕ) (d d' : OverlayDescriptor) → d ≡ d' → OverlaySound s d → OverlaySound s d'
overlay-as s d d' p k = rw p at k

-- an overlay's descriptor: the offsets of its inputs lie in the body
pub overlay-taken : (s : List ℕ) (n : ℕ) (d : OverlayDescriptor) → overlay_of s n ≡ Ok d → OverlaySound s d × (d.count ≡ n)
unfolding overlay_of inputs_of
overlay-taken s n d e =
    let h = and_then-done _ _ d e in
    let f = and_then-done _ _ d h.2 in
    let c = and_then-done _ _ d f.2 in
    let a = refuse-done _ _ _ d c.2 in
    let b = refuse-done _ _ _ d a.1 in
    let q = done-same _ d b.1 in
    let z = (canvas-taken s _ _ c.0 c.1).0 in
    let y = start-bytes s h.0 h.1 in
    (overlay-as s _ d q (record { canvas = z; count = ltb-false _ _ a.0; positive = y.0; bounded = y.1; inside = ltb-false _ _ b.0 }), sym (ap (λ u. u.count) q))

-- the fill's alpha has two bytes
fill-small : (body : List ℕ) (at : ℕ) (f : _) → Bytes body → fill_at body at ≡ Ok f → f.0.alpha ≤ 65535
unfolding fill_at Bytes
fill-small body at f small e =
    let r = on_field-done _ _ f e in
    let g = on_field-done _ _ f r.3 in
    let b = on_field-done _ _ f g.3 in
    let a = on_field-done _ _ f b.3 in
    let s : a.0 < 256 ^ 2 = field_below body _ 2 a.0 a.1 small a.2 in
    let u : a.0 ≡ f.0.alpha = ap (λ k. k.0.alpha) (done-same _ f a.3) in
    omega arith

fill-kept : (body : List ℕ) (k : Fill) (z : Size) (at bytes n : ℕ) (d : OverlayDescriptor) → inputs_of body k z at bytes n ≡ Ok d → k ≡ d.canvas_fill
unfolding inputs_of
fill-kept body k z at bytes n d e =
    let i = refuse-done _ _ _ d e in
    let j = refuse-done _ _ _ d i.1 in
    ap (λ (o : OverlayDescriptor). o.canvas_fill) (done-same _ d j.1)

pub overlay-fill : (body : List ℕ) (n : ℕ) (d : OverlayDescriptor) → Bytes body → overlay_of body n ≡ Ok d → d.canvas_fill.alpha ≤ 65535
unfolding overlay_of
overlay-fill body n d small e =
    let h = and_then-done _ _ d e in
    let f = and_then-done _ _ d h.2 in
    let c = and_then-done _ _ d f.2 in
    rw (← fill-kept body f.0.0 c.0.0 c.0.1.at h.0.0 n d c.2) (fill-small body h.0.1.at f.0 small f.1)
