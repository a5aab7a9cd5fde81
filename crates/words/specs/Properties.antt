-- What the calls on chains and properties answer and write.
use Rattle.std.specs.Prelude.{Ok}
use Rattle.std.specs.Prelude.{List, [], ◌∷◌, ℕ, length}
use Rattle.laws.specs.Out.{Out, and_then, fitted}
use Rattle.sizes.specs.Aperture.{resolve_of}
use Rattle.props.specs.Chain.{chain_at}
use Rattle.sizes.specs.Scale.{scale_of}
use Rattle.sizes.specs.declared.clap.Clap.{Clap}
use Rattle.sizes.specs.declared.clap.Crop.{Crop}
use Rattle.sizes.specs.declared.iscl.Iscl.{Iscl}
use Rattle.image.specs.declared.size.Size.{Size}

-- how many entries a chain has
unfoldable pub chain_count : List ℕ → Out ℕ
chain_count s = and_then (chain_at s 0) (λ es. Ok (length es))

-- an aperture by its eight fields, in document 01's order
unfoldable pub clap_of : ℕ → ℕ → ℕ → ℕ → ℕ → ℕ → ℕ → ℕ → Clap
clap_of wn wd hn hd xn xd yn yd = record {
  width_n = wn;
  width_d = wd;
  height_n = hn;
  height_d = hd;
  horiz_off_n = xn;
  horiz_off_d = xd;
  vert_off_n = yn;
  vert_off_d = yd;
}

-- a rectangle and its margins by their eight fields (document 02, A1)
unfoldable pub crop_by : ℕ → ℕ → ℕ → ℕ → ℕ → ℕ → ℕ → ℕ → Crop
crop_by x y width height left top right bottom = record {
  rect = record { x = x; y = y; width = width; height = height };
  margins = record { left = left; top = top; right = right; bottom = bottom };
}

unfoldable pub crop_fields : Crop → List ℕ
crop_fields k = k.rect.x ∷ k.rect.y ∷ k.rect.width ∷ k.rect.height ∷ k.margins.left ∷ k.margins.top ∷ k.margins.right ∷ k.margins.bottom ∷ []

unfoldable pub clap_words : Clap → ℕ → ℕ → ℕ → Out (List ℕ)
clap_words c width height room = and_then (resolve_of c width height) (λ k. fitted room (crop_fields k))

-- a scaling by its four fields
unfoldable pub iscl_of : ℕ → ℕ → ℕ → ℕ → Iscl
iscl_of wn wd hn hd = record { width_num = wn; width_den = wd; height_num = hn; height_den = hd }

unfoldable pub size_fields : Size → List ℕ
size_fields z = z.width ∷ z.height ∷ []

unfoldable pub iscl_words : Iscl → ℕ → ℕ → ℕ → Out (List ℕ)
iscl_words k width height room = and_then (scale_of k width height) (λ z. fitted room (size_fields z))
