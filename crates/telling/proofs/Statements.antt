-- What is told, as one text: piece behind piece.
-- Assumes nothing.
use Rattle.answers.specs.declared.Refusal.{Refusal}
use Rattle.answers.specs.Causes.{refusal_number}
use Rattle.std.specs.Prelude.{Option, Err, Result, None}
use Prim.Native.Nat.{ℕ, zero, suc}
use mathlib.Core.Path.{◌≡◌, refl, ap, ◌∙◌}
use mathlib.Core.List.{List, [], ◌∷◌, ◌++◌, map, append_assoc}
use mathlib.Core.Bool.{Bool, true, false, cond, and-eq-true_iff}
use native.Mathlib.Omega.{arith}
use lib.ListN.{length, length-append}
use borrow.Author.Tests.{ne_eqb}
use Rattle.laws.specs.Spelt.{spelt}
use Rattle.laws.specs.Every.{every}
use Rattle.digits.specs.Digits.{decimal, digits_of, width, width_by}
use Rattle.rates.specs.Rates.{is_drop}
use Rattle.label_writer.specs.LabelText.{sections_text}
use Rattle.written.specs.Clock.{clock_text}
use Rattle.written.specs.Parts.{signed_text}
use Rattle.phrases.specs.Phrases.{phrases, phrase_of}
use Rattle.reading.specs.declared.Read.{Read}
use Rattle.reading.specs.Answer.{number_of, place_of}
use Rattle.reading.specs.Shaped.{Shaped, label, footage, refused, shape_of}
use Rattle.reasons.specs.declared.Fact.{Fact}
use Rattle.reasons.specs.Facts.{label_fact, footage_fact, fact_by}
use Rattle.reasons.specs.Why.{fact_of}
use Rattle.streams.specs.Parting.{together}
use Rattle.streams.proofs.Pieces.{pieces-stand, together-append}
use Rattle.telling.specs.declared.told.Way.{Way}
use Rattle.streams.specs.Pieces.{line_end}
use Rattle.telling.specs.Shown.{is_printable, shown_byte, shown_pieces, has_place, caret_pieces, place_pieces}
use Rattle.telling.specs.Facts.{limit_pieces, first_pieces, counted_pieces, fact_pieces}
use Rattle.telling.specs.Told.{read_in, fact_in, phrase_in, front_pieces, reason_pieces, told_pieces}
use Rattle.telling.specs.Answered.{question_pieces, text_pieces}
use Rattle.telling.specs.Joined.{word_pieces}
use Rattle.telling.specs.Statements.{ToldStands, AnswerStands, WordStands, spaces, caret_text, RefusedTold, LabelTold, FootageTold, ShownColumns, CaretUnder, CountedRead, LimitRead, FirstRead, FactsRead, QuestionUnderstood, TextsUnderstood}
use Rattle.telling.proofs.Understanding.{exactly-asked, exactly-texts}

-- ---- with room, each piece stands behind the one before it
pub told_stands : ToldStands
told_stands s way text h = pieces-stand s (told_pieces way text) h

pub answer_stands : AnswerStands
answer_stands s line over = (pieces-stand s (question_pieces line over), λ way. pieces-stand s (text_pieces way line over))

pub word_stands : WordStands
unfolding together
word_stands s word h = pieces-stand s (word_pieces word) (omega (arith, h, length-append word (32 ∷ [])))

-- ---- pieces joined
shown-text : (text : List ℕ) (rest : List ℕ) → together (shown_pieces text) ++ rest ≡ map shown_byte text ++ (10 ∷ rest)
unfolding together shown_pieces
shown-text [] rest = refl
shown-text (b ∷ text) rest = ap (λ z. shown_byte b ∷ z) (shown-text text rest)

caret-spaces : (place : ℕ) → together (caret_pieces place) ≡ spaces place ++ (94 ∷ 10 ∷ [])
unfolding together caret_pieces spaces
caret-spaces zero = refl
caret-spaces (suc place) = ap (λ z. 32 ∷ z) (caret-spaces place)

caret-is : (number place : ℕ) → together (place_pieces number place) ≡ caret_text number place
unfolding together place_pieces
caret-is number place = by (has_place number)
  where
    by : (t : Bool) → together (cond t (caret_pieces place) []) ≡ cond t (spaces place ++ (94 ∷ 10 ∷ [])) []
    by true = caret-spaces place
    by false = refl

-- all that is told, by its parts
parts : (rate : ℕ) (text : List ℕ) (r : Result Read Refusal) (f : Option Fact) (phrase : List ℕ)
    → together (reason_pieces rate text r f phrase)
    ≡ map shown_byte text
    ++ (10 ∷ (caret_text (number_of r) (place_of r) ++ (together (front_pieces (number_of r)) ++ (phrase ++ (10 ∷ together (fact_pieces rate r f))))))
unfolding reason_pieces together
parts rate text r f phrase =
    let c = place_pieces (number_of r) (place_of r) in
    let d = front_pieces (number_of r) in
    let e = phrase ∷ line_end ∷ fact_pieces rate r f in
    together-append (shown_pieces text) (c ++ (d ++ e))
    ∙ shown-text text (together (c ++ (d ++ e)))
    ∙ ap (λ z. map shown_byte text ++ (10 ∷ z))
    (together-append c (d ++ e)
    ∙ ap (λ z. z ++ together (d ++ e)) (caret-is (number_of r) (place_of r))
    ∙ ap (λ z. caret_text (number_of r) (place_of r) ++ z) (together-append d e))

-- ---- of each answer
front-text : (number : ℕ) (rest : List ℕ) → (number ≡ 0 → ⊥)
    → together (front_pieces number) ++ rest ≡ spelt "refused " ++ (signed_text false number ++ (spelt ": " ++ rest))
unfolding together front_pieces
front-text number rest n = rw (ne_eqb number 0 n) (ap (λ z. spelt "refused " ++ z) (append_assoc (signed_text false number) (spelt ": ") rest))

pub refused_told : RefusedTold
unfolding told_pieces
refused_told way text e p n =
    parts way.rate text (read_in way text) (fact_in way text) (phrase_in way text)
    ∙ ap
    (λ r. map shown_byte text
    ++ (10 ∷ (caret_text (number_of r) (place_of r)
    ++ (together (front_pieces (number_of r)) ++ (phrase_of (number_of r) ++ (10 ∷ together (fact_pieces way.rate r (fact_in way text))))))))
    p
    ∙ ap (λ z. map shown_byte text ++ (10 ∷ (caret_text (refusal_number e) e.place ++ z)))
    (front-text (refusal_number e) (phrase_of (refusal_number e) ++ (10 ∷ together (fact_pieces way.rate (Err e) (fact_in way text)))) n)

-- an accepted text has no fact
no-fact : (rate : ℕ) (stated : Option ℕ) (s : Shaped) → fact_by 0 rate stated s ≡ None
unfolding label_fact footage_fact
no-fact rate stated (label minus fields) = refl
no-fact rate stated (footage minus feet frames perf marker) = refl
no-fact rate stated (refused e) = refl

fact-none : (way : Way) (text : List ℕ) → number_of (read_in way text) ≡ 0 → fact_in way text ≡ None
unfolding fact_of
fact-none way text e = rw e (no-fact way.rate way.options.format (shape_of way.options.format text))

pub label_told : LabelTold
unfolding told_pieces front_pieces together phrase_of phrases
label_told way text tc p =
    parts way.rate text (read_in way text) (fact_in way text) (phrase_in way text) ∙ rw (fact-none way text (ap number_of p), p)

pub footage_told : FootageTold
unfolding told_pieces front_pieces together phrase_of phrases
footage_told way text tc format p =
    parts way.rate text (read_in way text) (fact_in way text) (phrase_in way text) ∙ rw (fact-none way text (ap number_of p), p)

-- ---- one column for one byte
shown-printable : (b : ℕ) → is_printable (shown_byte b) ≡ true
unfolding shown_byte
shown-printable b = by (is_printable b) refl
  where
    by : (t : Bool) → is_printable b ≡ t → is_printable (cond t b 63) ≡ true
    by true e = e
    by false e = refl

shown-same : (b : ℕ) → is_printable b ≡ true → shown_byte b ≡ b
unfolding shown_byte
shown-same b e = rw e

pub shown_columns : ShownColumns
shown_columns [] = (refl, (refl, λ e. refl))
shown_columns (b ∷ text) =
    let rest = shown_columns text in (
      ap suc rest.0,
      (
        (and-eq-true_iff (is_printable (shown_byte b)) (every is_printable (map shown_byte text))).1 (shown-printable b, rest.1.0),
        λ e.
            let q = (and-eq-true_iff (is_printable b) (every is_printable text)).0 e in
            ap (λ z. z ∷ map shown_byte text) (shown-same b q.0) ∙ ap (λ z. b ∷ z) (rest.1.1 q.1),
      ),
    )

spaces-length : (n : ℕ) → length (spaces n) ≡ n
unfolding spaces
spaces-length zero = refl
spaces-length (suc n) = ap suc (spaces-length n)

pub caret_under : CaretUnder
caret_under place = (caret-spaces place, spaces-length place)

-- ---- the facts, by computation
pub facts_read : FactsRead
unfolding together first_pieces limit_pieces is_drop sections_text clock_text decimal digits_of width width_by
facts_read = record { first = refl; count = refl; sign = refl; hours = refl; minutes = refl; seconds = refl; frames = refl; marker = refl }

-- ---- what a question is
pub question_understood : QuestionUnderstood
question_understood = exactly-asked

pub texts_understood : TextsUnderstood
texts_understood = exactly-texts

-- ---- the facts, whole
pub counted_read : CountedRead
unfolding together counted_pieces
counted_read tc = refl

pub limit_read : LimitRead
unfolding together limit_pieces
limit_read f e = rw e

pub first_read : FirstRead
unfolding together first_pieces
first_read rate s = refl
