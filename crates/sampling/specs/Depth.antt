-- Another depth (document 01, "Other operations", `rescale_depth`): round(v × new top / old top), capped at the new top; an equal
-- depth is the sample as it is.
use Rattle.std.specs.Prelude.{◌*◌, min, ℕ, eqb}
use Rattle.laws.specs.Pick.{pick}
use Rattle.image.specs.Format.{top_at}
use Rattle.image.specs.declared.format.Form.{Form}
use Rattle.planes.specs.Picture.{Pic}
use Rattle.sampling.specs.Rounded.{rounded}

unfoldable pub level_of : ℕ → ℕ → ℕ → ℕ
level_of old new v = pick (eqb old new) v (min (rounded (v * top_at new) (top_at old)) (top_at new))

-- the form with another depth
unfoldable pub to_depth : Form → ℕ → Form
to_depth m depth = record { width = m.width; height = m.height; format = record { chroma = m.format.chroma; depth = depth; alpha = m.format.alpha } }

unfoldable pub rescaled : Pic → ℕ → Pic
rescaled P depth = record { form = to_depth P.form depth; at = λ p x y. level_of P.form.format.depth depth (P.at p x y) }
