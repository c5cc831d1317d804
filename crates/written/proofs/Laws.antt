-- Each way out of a writer is one law here, over any text: refused before there is one, laid down, or without room.
-- Assumes nothing.
use Rattle.std.specs.Prelude.{Result, Ok, Err}
use Prim.Native.Nat.{ℕ, ◌+◌, ◌-◌, ◌≤◌}
use mathlib.Core.Path.{◌≡◌, sym, ap, ◌∙◌}
use mathlib.Core.Bool.{Bool, true, false}
use mathlib.Core.List.{List}
use lib.ListN.{length}
use borrow.Rule.Slice.PartMut.{put_mid, mid_of}
use Rattle.lent.specs.Line.{laid, splice, has_room}
use Rattle.lent.proofs.Laws.{fits-yes, fits-no, fits-true, fits-false, line-laid, line-lent, line_kept}
use Rattle.answers.specs.declared.Refusal.{Refusal}
use Rattle.answers.specs.Order.{Condition, unless, judged}
use Rattle.answers.specs.OrderLaws.{judged-refused, judged-clear, unless-clear}
use Rattle.answers.specs.Refusals.{no_room}
use Rattle.written.specs.Written.{Draft, Text, NoText, answer_to, line_to}

-- what a writer shows at a return: its answer and its line are those of the draft
abbrev pub Meets : (line : List ℕ) (place : ℕ) → Draft → Result ℕ Refusal → List ℕ → Type 0
Meets line place draft answer last = record { answer : answer ≡ answer_to line place draft; line : last ≡ line_to line place draft }

module _ (line : List ℕ) (place : ℕ) (draft : Draft) where
  -- what meets a draft meets the same draft by another name
  pub meets-same : (other : Draft) (answer : Result ℕ Refusal) (last : List ℕ) → other ≡ draft → Meets line place other answer last → Meets line place draft answer last
  meets-same other answer last e m = record { answer = m.answer ∙ ap (answer_to line place) e; line = m.line ∙ ap (line_to line place) e }

  -- there is no text: nothing was lent
  pub meets-none : (e : Refusal) → NoText e ≡ draft → Meets line place draft (Err e) line
  unfolding answer_to line_to
  meets-none e d = record { answer = ap (answer_to line place) d; line = ap (line_to line place) d }

-- ---- behind conditions
module _ (line : List ℕ) (place : ℕ) (conditions : List Condition) (text : List ℕ) where
  abbrev behind : Draft
  behind = unless NoText conditions (Text text)

  -- one of them refuses: nothing was lent
  pub meets-refused : (e : Refusal) → judged conditions ≡ Err e → Meets line place (unless NoText conditions (Text text)) (Err e) line
  meets-refused e h = meets-none line place behind e (sym (judged-refused conditions e h NoText (Text text)))

  -- none does: what was done is what the text asks for
  pub meets-passed : (answer : Result ℕ Refusal) (last : List ℕ) → judged conditions ≡ (Ok tt) → Meets line place (Text text) answer last
      → Meets line place (unless NoText conditions (Text text)) answer last
  meets-passed answer last h m =
      meets-same line place behind (Text text) answer last (sym (unless-clear NoText conditions (Text text) (judged-clear conditions h))) m

-- ---- a text of `need` bytes, for which r is what `room` answered
module _ (line : List ℕ) (place : ℕ) (text : List ℕ) (need : ℕ) (r : Bool) (long : need ≡ length text) (told : r ≡ has_room (length line) place need) where
  -- no room: nothing was lent
  pub meets-out : (refusal : Refusal) → refusal ≡ no_room → r ≡ false → Meets line place (Text text) (Err refusal) line
  unfolding answer_to line_to
  meets-out refusal k e =
      let h = fits-no line place text need r long told e in
      record { answer = rw (fits-false line place text h) (ap Err k); line = sym (line_kept line place text h) }

  -- room: the line was lent from the place on, and came back as `last` with the text laid down at its front
  pub meets-in : (last : List ℕ) → r ≡ true → last ≡ laid (mid_of place (length line - place) line) text
      → Meets line place (Text text) (Ok need) (put_mid place (length line - place) line last)
  unfolding answer_to line_to
  meets-in last e l =
      let h = fits-yes line place text need r long told e in
      record { answer = rw (fits-true line place text h) (ap Ok long); line = line-lent line place text last h l }

-- where a text has room, the answer is its length, and it stands in the line
pub text-written : (line : List ℕ) (place : ℕ) (text : List ℕ) → place + length text ≤ length line
    → (answer_to line place (Text text) ≡ Ok (length text)) × (line_to line place (Text text) ≡ splice line place text)
unfolding answer_to line_to
text-written line place text h = (rw (fits-true line place text h), line-laid line place text h)
