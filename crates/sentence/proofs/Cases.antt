-- Sentences of each sort, computed from the definition.
use Rattle.std.specs.Prelude.{Ok}
use mathlib.Core.Path.{◌≡◌, refl}
use Rattle.laws.specs.Out.{and_then, fitted, refuse}
use Rattle.laws.specs.Pick.{pick}
use Rattle.laws.specs.Utf8.{character_bytes, utf8}
use Rattle.numbers.specs.Decimal.{decimal, digits_onto}
use Rattle.sentence.specs.Sentence.{head, in_language, item, row_of, sentence, sentence_run}
use Rattle.sentence.specs.Table.{reasons, sorts}

pub examples : (sentence_run 17 0 9 0 192 ≡ Ok (utf8 "17: Ein bereitgestellter Puffer ist zu kurz."))
    × (sentence_run 13 1 4 0 192 ≡ Ok (utf8 "13: Eine Kachel ist nicht so groß wie die erste (Bild 4)."))
    × (sentence_run 13 1 4 1 192 ≡ Ok (utf8 "13: A tile is not the same size as the first one (record 4)."))
    × (sentence_run 10 2 255 1 192 ≡ Ok (utf8 "10: A side would be too long after scaling (entry 255)."))
unfolding sentence_run row_of sentence head item in_language reasons sorts utf8 character_bytes decimal digits_onto and_then fitted refuse pick
examples = (refl, refl, refl, refl)
