-- What a place of the overlay ends as where nothing is translucent there (document 01, Overlay).
use Rattle.std.specs.Prelude.{Bool, ◌&&◌, false, true, List, [], ◌∷◌, ◌≡◌, min, ℕ, eqb}
use Rattle.laws.specs.Pick.{pick}
use Rattle.image.specs.declared.format.Part.{Part}
use Rattle.image.specs.declared.format.Part.TheVariants.{Alpha, Cb, Cr, Luma}
use Rattle.inputs.specs.Layers.{Layer}
use Rattle.blend.specs.Overlay.{alpha_of, covers_at, sample_of}

-- no input, or the topmost
pub data Found : Type 0 where
  nowhere : Found
  layer : Layer → Found

-- the last of the list that passes the test, or what was found before it
unfoldable pub topmost_from : (Layer → Bool) → Found → List Layer → Found
topmost_from t found [] = found
topmost_from t found (l ∷ ls) = topmost_from t (pick (t l) (layer l) found) ls

unfoldable pub topmost : (Layer → Bool) → List Layer → Found
topmost t ls = topmost_from t nowhere ls

-- it covers the place and has alpha top there
unfoldable pub hides : ℕ → ℕ → ℕ → Layer → Bool
hides top x y l = covers_at l x y && eqb (alpha_of top l x y) top

-- where it covers the place it has alpha top there, or straight alpha 0
pub record CutOut (top x y : ℕ) (l : Layer) : Type 0 where
  pub clear : covers_at l x y ≡ true → (alpha_of top l x y ≡ top → ⊥) → (alpha_of top l x y ≡ 0) × (l.premultiplied ≡ false)

unfoldable pub AllCut : ℕ → ℕ → ℕ → List Layer → Type 0
AllCut top x y [] = Unit {0}
AllCut top x y (l ∷ ls) = CutOut top x y l × AllCut top x y ls

-- the topmost's sample, capped at top, with alpha top; or the fill
unfoldable pub capped : ℕ → ℕ → ℕ → Layer → Part → ℕ
capped top x y l Luma = min (sample_of l Luma x y) top
capped top x y l Cb = min (sample_of l Cb x y) top
capped top x y l Cr = min (sample_of l Cr x y) top
capped top x y l Alpha = top

unfoldable pub ends_as : ℕ → (Part → ℕ) → Part → ℕ → ℕ → Found → ℕ
ends_as top fill p x y nowhere = fill p
ends_as top fill p x y (layer l) = capped top x y l p
