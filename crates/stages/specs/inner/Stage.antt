-- What a chain has reached: a record in a buffer, or what a sight shows of it.
use Rattle.std.specs.Prelude.{Ok}
use Rattle.std.specs.Prelude.{false, not, true, List, ◌≡◌, ℕ}
use Rattle.laws.specs.Out.{Out, and_then}
use Rattle.laws.specs.Pick.{pick}
use Rattle.image.specs.Format.{odd}
use Rattle.image.specs.declared.format.Form.{Form}
use Rattle.records.specs.Record.{record_of}
use Rattle.planes.specs.Bytes.{decode, encode, tight_at}
use Rattle.planes.specs.Picture.{Pic}
use Rattle.planes.specs.inner.InRange.{InRange}
use Rattle.sizes.specs.Aperture.{resolve_of}
use Rattle.sizes.specs.Scale.{scale_of}
use Rattle.props.specs.declared.entry.Property.{Property}
use Rattle.transform.specs.Run.{turn_bytes}
use Rattle.motions.specs.Turn.{crop, mirror, quarter_of}
use Rattle.sight.specs.Sight.{sight_after, whole}
use Rattle.sight.specs.declared.Sight.{Sight}
use Rattle.sight.specs.inner.Seen.{View}
use Rattle.view.specs.inner.View.{Shown, shown}
use Rattle.resample.specs.Run.{area_bytes}
use Rattle.stages.specs.declared.stage.Current.{Current}
use Rattle.stages.specs.declared.stage.Stage.{Stage}
use Rattle.stages.specs.inner.Held.{form_after}

-- what an operation writes of a record, where there is room
unfoldable pub record_after : Property → List ℕ → Out (List ℕ)
record_after Property.Other s = Ok s
record_after (Property.Clap c) s =
    and_then (record_of s) (λ fr. and_then (resolve_of c fr.form.width fr.form.height) (λ k. Ok (encode (crop (decode s fr) k.rect))))
record_after (Property.Irot k) s = and_then (record_of s) (λ fr. Ok (turn_bytes s fr (quarter_of k.angle)))
record_after (Property.Imir k) s = and_then (record_of s) (λ fr. Ok (encode (mirror (decode s fr) (odd k.axis))))
record_after (Property.Iscl k) s =
    and_then (record_of s) (λ fr. and_then (scale_of k fr.form.width fr.form.height) (λ z. Ok (area_bytes s fr z.width z.height)))

-- what is answered where a step is not refused
unfoldable pub Gives : {A : Type 0} → Out A → A → Type 0
Gives {A} o r = (n : A) → o ≡ Ok n → r ≡ n

abbrev pub stage_pic : Stage → List ℕ → Pic
stage_pic t bs = decode bs (tight_at t.from 0)

-- the record that is reached
unfoldable pub stage_bytes : Stage → List ℕ → List ℕ
stage_bytes t bs = pick t.shown (encode (shown t.form t.sight (stage_pic t bs))) bs

-- a picture that a sight shows of P
pub record Showing (P : Pic) (t : Stage) : Type 0 where
  pub pic : Pic
  pub in_range : InRange pic
  pub form : pic.form ≡ t.form
  pub view : View P pic t.sight
  pub shown : Shown P.form t.form t.sight

-- the record bs is a picture's, and what is shown of it is a picture
pub record StageSound (t : Stage) (bs : List ℕ) : Type 0 where
  pub in_range : InRange (stage_pic t bs)
  pub bytes : bs ≡ encode (stage_pic t bs)
  pub plain : t.shown ≡ false → t.form ≡ t.from
  pub shows : t.shown ≡ true → Showing (stage_pic t bs) t

-- the composed record, as it lies
unfoldable pub stage_start : Form → Current → Stage
stage_start m h = record { current = h; from = m; form = m; sight = whole m.width m.height; shown = false }

-- a record that was drawn into the other buffer
unfoldable pub stage_drawn : Stage → ℕ → Form → Stage
stage_drawn t size m = record { current = record { size = size; inside = not t.current.inside }; from = m; form = m; sight = t.sight; shown = false }

-- the sight from which it goes on
unfoldable pub sight_here : Stage → Sight
sight_here t = pick t.shown t.sight (whole t.form.width t.form.height)

-- what a sight can hold more
unfoldable pub stage_held : Stage → Form → Sight → Stage
stage_held t m s = record { current = t.current; from = t.from; form = m; sight = s; shown = true }

unfoldable pub HeldAfter : Property → Stage → Stage → Type 0
HeldAfter p t r = (m : Form) (s : Sight) → form_after p t.form ≡ Ok m → sight_after p (sight_here t) ≡ Ok s → r ≡ stage_held t m s
