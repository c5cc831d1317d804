-- Pieces that are put one behind the other, and no piece.
-- Assumes nothing.
use Prim.Native.Nat.{ℕ, ◌+◌}
use mathlib.Core.Path.{◌≡◌, refl, sym, ap, ◌∙◌}
use mathlib.Core.List.{List, [], ◌∷◌, ◌++◌}
use mathlib.Core.Bool.{Bool, true, false, cond}
use native.Mathlib.Omega.{arith}
use Rattle.std.specs.Prelude.{Option, Some, None}
use Rattle.laws.specs.Spelt.{spelt}
use Rattle.lent.specs.Line.{fits, splice, line_after}
use Rattle.lent.proofs.Laws.{splice-nil}
use Rattle.streams.specs.Sheet.{Sheet, sheet_of, put_on}
use Rattle.streams.specs.Pieces.{line_end, all_on}
use Rattle.streams.proofs.Pieces.{all_append}
use Rattle.telling.specs.declared.told.Way.{Way}
use Rattle.telling.specs.Shown.{shown_pieces}
use Rattle.telling.specs.Told.{told_pieces}
use Rattle.telling.specs.Question.{question_of}
use Rattle.telling.specs.Answered.{other_pieces, asked_pieces, question_pieces, text_pieces, answer_pieces}

-- no text on a sheet changes nothing
pub put_none : (s : Sheet) → s ≡ put_on s []
unfolding put_on line_after
put_none s = by (fits s.bytes s.used [])
  where
    none : s.used + 0 ≡ s.used
    none = omega arith

    by : (t : Bool) → s ≡ sheet_of s.lender (cond t (splice s.bytes s.used []) s.bytes) (cond t (s.used + 0) s.used)
    by true = rw (splice-nil s.bytes s.used, none) refl
    by false = refl

-- some pieces, and the others behind them
pub all_behind : (s : Sheet) (ps qs : List (List ℕ)) → all_on s (ps ++ qs) ≡ all_on (all_on s ps) qs
all_behind s ps qs = sym (all_append s ps qs)

-- ---- what is answered to a line
pub other-put : (line : List ℕ) (s a : Sheet) → a ≡ all_on s (shown_pieces line)
    → put_on a (spelt "not understood: a question is [-p] [-f FORMAT] RATE TEXT" ++ line_end) ≡ all_on s (other_pieces line)
unfolding other_pieces
other-put line s a p =
    let last = (spelt "not understood: a question is [-p] [-f FORMAT] RATE TEXT" ++ line_end) ∷ [] in
    ap (λ z. all_on z last) p ∙ all_append s (shown_pieces line) last

-- an empty line stands behind each answer
ended-put : (ps : List (List ℕ)) (s a : Sheet) → a ≡ all_on s ps → put_on a line_end ≡ all_on s (ps ++ (line_end ∷ []))
ended-put ps s a p = ap (λ z. all_on z (line_end ∷ [])) p ∙ all_append s ps (line_end ∷ [])

module _ (line : List ℕ) (s a : Sheet) where
  pub over-put : (way : Option Way) (over : Bool) → over ≡ true → a ≡ all_on s (other_pieces line) → put_on a line_end ≡ all_on s (answer_pieces way line over)
  unfolding text_pieces question_pieces
  over-put (Some way) over e p = rw e (ended-put (other_pieces line) s a p)
  over-put None over e p = rw e (ended-put (other_pieces line) s a p)

  pub text-put : (way : Way) (over : Bool) → over ≡ false → a ≡ all_on s (told_pieces way line) → put_on a line_end ≡ all_on s (answer_pieces (Some way) line over)
  unfolding text_pieces
  text-put way over e p = rw e (ended-put (told_pieces way line) s a p)

  pub question-put : (over : Bool) → over ≡ false → a ≡ all_on s (asked_pieces line (question_of line)) → put_on a line_end ≡ all_on s (answer_pieces None line over)
  unfolding question_pieces
  question-put over e p = rw e (ended-put (asked_pieces line (question_of line)) s a p)
