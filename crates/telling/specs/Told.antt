-- What is told of a text (docs/WHY.md): the text, a caret where it has a place, the number with its phrase, and the fact.
-- Assumes nothing.
use Rattle.answers.specs.declared.Refusal.{Refusal}
use Rattle.std.specs.Prelude.{ℕ, List, [], ◌∷◌, ◌++◌, false, cond, eqb, Option, Result}
use Rattle.laws.specs.Spelt.{spelt}
use Rattle.written.specs.Parts.{signed_text}
use Rattle.reading.specs.declared.Read.{Read}
use Rattle.reading.specs.Answer.{number_of, place_of}
use Rattle.reading.specs.For.{read_for}
use Rattle.reasons.specs.declared.Fact.{Fact}
use Rattle.reasons.specs.Why.{fact_of, phrase_for}
use Rattle.streams.specs.Parting.{together}
use Rattle.telling.specs.declared.told.Way.{Way}
use Rattle.streams.specs.Pieces.{line_end}
use Rattle.telling.specs.Shown.{shown_pieces, place_pieces}
use Rattle.telling.specs.Facts.{fact_pieces}

-- ---- how a text is read
-- the reader's answer, the fact behind it and the phrase of its number
abbrev pub read_in : Way → (text : List ℕ) → Result Read Refusal
read_in way text = read_for way.options.kind text way.options.format way.rate

abbrev pub fact_in : Way → (text : List ℕ) → Option Fact
fact_in way text = fact_of way.options.kind text way.options.format way.rate

abbrev pub phrase_in : Way → (text : List ℕ) → List ℕ
phrase_in way text = phrase_for way.options.kind text way.options.format way.rate

-- ---- what is told
-- before the phrase of a refusal its number
unfoldable pub front_pieces : (number : ℕ) → List (List ℕ)
front_pieces number = cond (eqb number 0) [] (spelt "refused " ∷ signed_text false number ∷ spelt ": " ∷ [])

unfoldable pub reason_pieces : (rate : ℕ) (text : List ℕ) → Result Read Refusal → Option Fact → (phrase : List ℕ) → List (List ℕ)
reason_pieces rate text r f phrase =
    shown_pieces text
    ++ (place_pieces (number_of r) (place_of r)
    ++ (front_pieces (number_of r)
    ++ (phrase ∷ line_end ∷ fact_pieces rate r f)))

unfoldable pub told_pieces : Way → (text : List ℕ) → List (List ℕ)
told_pieces way text = reason_pieces way.rate text (read_in way text) (fact_in way text) (phrase_in way text)

-- as one text
abbrev pub told_text : Way → (text : List ℕ) → List ℕ
told_text way text = together (told_pieces way text)
