-- The reasons of refusals and the words for items, in German and English (document 02, A2).
use Rattle.std.specs.Prelude.{List, [], ◌∷◌, ℕ}
use Prim.Native.String.{String}

-- both languages stand in one row, so that a number joins both at once
pub record Row : Type 0 where
  pub number : ℕ
  pub german : String
  pub english : String

abbrev line : ℕ → String → String → Row
line n g e = record { number = n; german = g; english = e }

-- by the number of the refusal
unfoldable pub reasons : List Row
reasons =
    line 1 "Die Bildbeschreibung ist leer oder zu kurz" "The picture's description is empty or too short"
    ∷ line 2 "Die Bildbeschreibung hat eine andere Version als 0" "The picture's description has a version other than 0"
    ∷ line 3 "Eine Seite des Bildes ist 0 Pixel lang" "A side of the picture is 0 pixels long"
    ∷ line 4 "Das Bild ist zu groß, oder es sind zu viele Bilder oder Einträge" "The picture is too large, or there are too many records or entries"
    ∷ line 5 "Die Daten sind beschädigt oder falsch aufgebaut" "The data are damaged or badly formed"
    ∷ line 6 "Die Farbtiefe ist kleiner als 8 oder größer als 16 Bit" "The colour depth is below 8 or above 16 bits"
    ∷ line 7 "In einem Bruch steht eine Null, wo keine stehen darf" "A fraction has a zero where none may stand"
    ∷ line 8 "Eine Größe oder ein Rand ist keine ganze Zahl von Pixeln" "A size or an edge is not a whole number of pixels"
    ∷ line 9 "Der Ausschnitt ist leer oder ragt über das Bild hinaus, oder seine Ränder stimmen nicht" "The crop is empty or reaches beyond the picture, or its margins are wrong"
    ∷ line 10 "Eine Seite wäre nach dem Skalieren zu lang" "A side would be too long after scaling"
    ∷ line 11 "Eine Anzahl stimmt nicht, oder einen Index gibt es nicht" "A count is wrong, or an index does not exist"
    ∷ line 12 "Die Kacheln decken die Leinwand nicht ganz ab" "The tiles do not cover the whole canvas"
    ∷ line 13 "Eine Kachel ist nicht so groß wie die erste" "A tile is not the same size as the first one"
    ∷ line 14 "Das Farbformat oder die Farbtiefe ist anders als beim ersten Bild" "The colour format or the colour depth is not that of the first picture"
    ∷ line 15 "Es fehlt ein Bild oder eine Kachel" "A picture or a tile is missing"
    ∷ line 16 "Ein Alphawert liegt über dem höchsten erlaubten Wert" "An alpha value is above the highest one allowed"
    ∷ line 17 "Ein bereitgestellter Puffer ist zu kurz" "A lent buffer is too short"
    ∷ line 18 "Zu dieser Stelle lässt sich kein Bildpunkt nennen, weil sie außerhalb liegt oder weil Alpha oder eine Skalierung es verhindert" "No spot can be named for this place, because it lies outside or because alpha or scaling prevents it"
    ∷ line 19 "Ein Raster hat weniger als 1 oder mehr als 256 Zeilen oder Spalten" "A grid has fewer than 1 or more than 256 rows or columns"
    ∷ []

-- by the item's sort: none, a record of the tray, an entry of the chain
unfoldable pub sorts : List Row
sorts = line 0 "" "" ∷ line 1 " (Bild " " (record " ∷ line 2 " (Eintrag " " (entry " ∷ []
