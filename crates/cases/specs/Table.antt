-- Document 01's starred cases ("Cases"), in its order: calls by the definitions that their contracts cite, and the paper's answers.
use Rattle.std.specs.Prelude.{false, List, [], ◌++◌, ◌∷◌, map, ◌≡◌, ◌*◌, ◌+◌, ◌-◌, ◌^◌, ℕ, Ok, Err, None}
use Rattle.laws.specs.Out.{Out, and_then, reason}
use Rattle.fill.specs.Fill.{fill_alpha_of}
use Rattle.sizes.specs.Aperture.{resolve_of}
use Rattle.sizes.specs.Scale.{scale_of}
use Rattle.resample.specs.Run.{depth_run, iscl_run}
use Rattle.scene_room.specs.Scene.{grid_scene, overlay_scene}
use Rattle.point.specs.Point.{grid_point}
use Rattle.point.specs.declared.Named.{Named}

-- what a call comes to, and what it has to be: numbers or bytes, or a refusal
pub record Case : Type 0 where
  pub call : Out (List ℕ)
  pub answer : Out (List ℕ)

-- every call gives its answer
abbrev pub AllHold : List Case → Type 0
AllHold cases = map (λ c. c.call) cases ≡ map (λ c. c.answer) cases

unfoldable pub gives : Out (List ℕ) → Out (List ℕ) → Case
gives call answer = record { call = call; answer = answer }

-- ---- calls

-- the left edge that a clap of the width n / d at the offset p / q, p by its pattern, has in a picture 64 wide
unfoldable pub clap_edge : ℕ → ℕ → ℕ → ℕ → Out (List ℕ)
clap_edge n d p q =
    and_then
    (resolve_of (record {
      width_n = n;
      width_d = d;
      height_n = 1;
      height_d = 1;
      horiz_off_n = p;
      horiz_off_d = q;
      vert_off_n = 0;
      vert_off_d = 1;
    }) 64 1) (λ k. Ok (k.rect.x ∷ []))

-- the width that an iscl by n / d gives a side
unfoldable pub iscl_width : ℕ → ℕ → ℕ → Out (List ℕ)
iscl_width side n d =
    and_then (scale_of (record { width_num = n; width_den = d; height_num = 1; height_den = 1 }) side 1) (λ z. Ok (z.width ∷ []))

-- a tight mono record of depth 8 with sides below 128
unfoldable pub mono : ℕ → ℕ → List ℕ → List ℕ
mono width height samples = width ∷ height ∷ 0 ∷ 8 ∷ 0 ∷ width ∷ width * height ∷ samples

-- a mono row of so many samples, by iscl to another number of them
unfoldable pub area_row : ℕ → ℕ → List ℕ → Out (List ℕ)
area_row from to samples =
    iscl_run (mono from 1 samples) (record { width_num = to; width_den = from; height_num = 1; height_den = 1 }) (7 + to)

-- a mono sample of depth 16, low byte first, at depth 8
unfoldable pub depth8 : ℕ → ℕ → Out (List ℕ)
depth8 low high = depth_run (1 ∷ 1 ∷ 0 ∷ 16 ∷ 0 ∷ 2 ∷ 2 ∷ low ∷ high ∷ []) 8 8

-- a mono scene of one place: the body's fill 0 0 0 65535, a canvas of 1 by 1, offsets 0 and 0; one input of that sample and alpha; a
-- chain without entries
unfoldable pub over_black : ℕ → ℕ → ℕ → Out (List ℕ)
over_black sample alpha premultiplied =
    overlay_scene (0 ∷ 0 ∷ 0 ∷ 0 ∷ 0 ∷ 0 ∷ 0 ∷ 0 ∷ 255 ∷ 255 ∷ 0 ∷ 1 ∷ 0 ∷ 1 ∷ 0 ∷ 0 ∷ 0 ∷ 0 ∷ [])
    (1 ∷ 1 ∷ 1 ∷ 0 ∷ 8 ∷ 1 ∷ 1 ∷ 1 ∷ sample ∷ 1 ∷ 1 ∷ alpha ∷ []) (0 ∷ []) false (premultiplied ∷ []) None 8 8

-- the grid: its body, tiles 1 2/3 4 and 5 6/7 8; a chain without entries, and one of irot 1 (kind 2, essential); the scene
unfoldable pub body : List ℕ
body = 0 ∷ 0 ∷ 0 ∷ 1 ∷ 0 ∷ 4 ∷ 0 ∷ 2 ∷ []

unfoldable pub tiles : List ℕ
tiles = 2 ∷ mono 2 2 (1 ∷ 2 ∷ 3 ∷ 4 ∷ []) ++ mono 2 2 (5 ∷ 6 ∷ 7 ∷ 8 ∷ [])

unfoldable pub no_entry : List ℕ
no_entry = 0 ∷ []

unfoldable pub irot1 : List ℕ
irot1 = 1 ∷ 2 ∷ 1 ∷ 1 ∷ []

unfoldable pub joined : List ℕ → ℕ → Out (List ℕ)
joined chain output = grid_scene body tiles chain false output 15

-- the input and the spot that a place names; no numbers for fill
unfoldable pub spot_of : Named → List ℕ
spot_of Named.Fill = []
spot_of (Named.Spot k) = k.input ∷ k.x ∷ k.y ∷ []

unfoldable pub spot_in : List ℕ → ℕ → ℕ → Out (List ℕ)
spot_in chain column row = and_then (grid_point body tiles chain false column row) (λ a. Ok (spot_of a.named))

-- ---- the table

unfoldable pub table : List Case
table =
    -- 64 wide, clap 62/1, offset 0/1: edge 1
    gives (clap_edge 62 1 0 1) (Ok (1 ∷ []))
    -- 63/1, 0/1: 8
    ∷ gives (clap_edge 63 1 0 1) (Err (reason 8))
    -- 63/1, 1/2: edge 1
    ∷ gives (clap_edge 63 1 1 2) (Ok (1 ∷ []))
    -- 63/1, −1/2: edge 0
    ∷ gives (clap_edge 63 1 (2 ^ 32 - 1) 2) (Ok (0 ∷ []))
    -- 64/1, 1/1: 9
    ∷ gives (clap_edge 64 1 1 1) (Err (reason 9))
    -- iscl 5 by 1/2: 3
    ∷ gives (iscl_width 5 1 2) (Ok (3 ∷ []))
    -- area row 0 100 to 4: 0 25 75 100
    ∷ gives (area_row 2 4 (0 ∷ 100 ∷ [])) (Ok (mono 4 1 (0 ∷ 25 ∷ 75 ∷ 100 ∷ [])))
    -- 0 30 60 to 2: 10 50
    ∷ gives (area_row 3 2 (0 ∷ 30 ∷ 60 ∷ [])) (Ok (mono 2 1 (10 ∷ 50 ∷ [])))
    -- depth 16 to 8, 32768 (bytes 0 and 128): 128
    ∷ gives (depth8 0 128) (Ok (mono 1 1 (128 ∷ [])))
    -- fill alpha at depth 8: 128 gives 0, 129 gives 1
    ∷ gives (Ok (fill_alpha_of 128 8 ∷ [])) (Ok (0 ∷ []))
    ∷ gives (Ok (fill_alpha_of 129 8 ∷ [])) (Ok (1 ∷ []))
    -- mono depth 8, opaque black canvas, sample 200 alpha 128: straight 100, premultiplied 200
    ∷ gives (over_black 200 128 0) (Ok (mono 1 1 (100 ∷ [])))
    ∷ gives (over_black 200 128 1) (Ok (mono 1 1 (200 ∷ [])))
    -- body 00 00 00 01 00 04 00 02, mono tiles 1 2/3 4 and 5 6/7 8: rows 1 2 5 6, 3 4 7 8
    ∷ gives (joined no_entry 64) (Ok (mono 4 2 (1 ∷ 2 ∷ 5 ∷ 6 ∷ 3 ∷ 4 ∷ 7 ∷ 8 ∷ [])))
    -- irot 1 then has top row 6 8
    ∷ gives (joined irot1 64) (Ok (mono 2 4 (6 ∷ 8 ∷ 5 ∷ 7 ∷ 2 ∷ 4 ∷ 1 ∷ 3 ∷ [])))
    -- and place (0, 0) is tile 1 spot (1, 0)
    ∷ gives (spot_in irot1 0 0) (Ok (1 ∷ 1 ∷ 0 ∷ []))
    -- unturned it fits 15 bytes of output
    ∷ gives (joined no_entry 15) (Ok (mono 4 2 (1 ∷ 2 ∷ 5 ∷ 6 ∷ 3 ∷ 4 ∷ 7 ∷ 8 ∷ [])))
    -- 14 gives 17
    ∷ gives (joined no_entry 14) (Err (reason 17))
    ∷ []
