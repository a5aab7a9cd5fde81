-- Pictures and records: what a record's bytes show, and the tight record of a picture.
use Rattle.std.specs.Prelude.{List, [], ◌∷◌, ◌++◌, ℕ, ◌+◌, ◌*◌, ◌/◌, ◌%◌, eqb, length, get_or}
use Rattle.laws.specs.Pick.{pick}
use Rattle.laws.specs.Span.{span}
use Rattle.numbers.specs.Number.{number_bytes}
use Rattle.image.specs.Format.{bytes_of, has_part, columns_of, rows_of, row_size}
use Rattle.records.specs.Record.{data_of, plane_of, past}
use Rattle.records.specs.Tray.{no_frame, records_in}
use Rattle.planes.specs.Picture.{Pic}
use Rattle.image.specs.declared.format.Part.{Part}
use Rattle.image.specs.declared.format.Part.TheVariants.{Luma, Cb, Cr, Alpha}
use Rattle.image.specs.declared.format.Form.{Form}
use Rattle.records.specs.declared.record.Plane.{Plane}
use Rattle.records.specs.declared.record.Frame.{Frame}

-- ---- what a record shows

-- a sample of one byte or two, the low first, at a place of a plane's bytes
unfoldable pub sample_at : List ℕ → ℕ → ℕ → ℕ
sample_at d bytes i = pick (eqb bytes 1) (get_or d i 0) (get_or d i 0 + 256 * get_or d (i + 1) 0)

-- the sample at a column and a row
unfoldable pub sample_in : List ℕ → ℕ → ℕ → ℕ → ℕ → ℕ
sample_in d bytes stride x y = sample_at d bytes (y * stride + x * bytes)

unfoldable pub decode : List ℕ → Frame → Pic
decode s fr = record {
  form = fr.form;
  at = λ p x y. sample_in (data_of s (plane_of fr p)) (bytes_of fr.form.format) (plane_of fr p).stride x y;
}

-- record i of a tray as a picture
unfoldable pub picture_in : List ℕ → List Frame → ℕ → Pic
picture_in tray frs i = decode tray (get_or frs i no_frame)

unfoldable pub input_in : List ℕ → ℕ → Pic
input_in tray i = picture_in tray (records_in tray) i

-- ---- the tight record: stride = bytes of a row and no spare data

unfoldable pub sample_bytes : ℕ → ℕ → List ℕ
sample_bytes bytes v = pick (eqb bytes 1) (v % 256 ∷ []) (v % 256 ∷ v / 256 % 256 ∷ [])

-- a row of so many samples
unfoldable pub samples_of : ℕ → (ℕ → ℕ) → ℕ → List ℕ
samples_of bytes f n = span (λ x. sample_bytes bytes (f x)) 0 n

unfoldable pub row_bytes : Pic → Part → ℕ → List ℕ
row_bytes P p y = samples_of (bytes_of P.form.format) (λ x. P.at p x y) (columns_of P.form p)

unfoldable pub rows_bytes : Pic → Part → List ℕ
rows_bytes P p = span (row_bytes P p) 0 (rows_of P.form p)

-- a plane's stride and length
unfoldable pub plane_head : Form → Part → List ℕ
plane_head m p = number_bytes (row_size m p) ++ number_bytes (rows_of m p * row_size m p)

unfoldable pub plane_bytes : Pic → Part → List ℕ
plane_bytes P p = pick (has_part P.form.format p) (plane_head P.form p ++ rows_bytes P p) []

unfoldable pub head_bytes : Form → List ℕ
head_bytes m =
    number_bytes m.width ++ (number_bytes m.height
    ++ (number_bytes m.format.chroma ++ (number_bytes m.format.depth ++ number_bytes m.format.alpha)))

unfoldable pub encode : Pic → List ℕ
encode P = head_bytes P.form ++ (plane_bytes P Luma ++ (plane_bytes P Cb ++ (plane_bytes P Cr ++ plane_bytes P Alpha)))

-- ---- how long it is, by the form alone

unfoldable pub plane_size : Form → Part → ℕ
plane_size m p = pick (has_part m.format p) (length (plane_head m p) + rows_of m p * row_size m p) 0

unfoldable pub size_of : Form → ℕ
size_of m = length (head_bytes m) + (plane_size m Luma + (plane_size m Cb + (plane_size m Cr + plane_size m Alpha)))

-- ---- where its planes stand

-- the plane of a part whose bytes begin at a place
unfoldable pub placed : Form → Part → ℕ → Plane
placed m p at = pick (has_part m.format p) (record { start = at + length (plane_head m p); len = rows_of m p * row_size m p; stride = row_size m p }) (record { start = at; len = 0; stride = 0 })

-- where the tight record of a form that begins at a place has its planes
unfoldable pub tight_at : Form → ℕ → Frame
tight_at m at =
    let a = at + length (head_bytes m) in
    let luma = placed m Luma a in
    let cb = placed m Cb (past luma) in
    let cr = placed m Cr (past cb) in
    let alpha = placed m Alpha (past cr) in
    record { form = m; luma = luma; cb = cb; cr = cr; alpha = alpha; end = past alpha }
