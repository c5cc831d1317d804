-- A refusal changes nothing, and a length answered is that of the text that stands there: by cases on the draft and on room; 8 comes last.
-- Assumes nothing.
use Rattle.std.specs.Prelude.{Ok, Err}
use Prim.Native.Nat.{ℕ, ◌+◌, ◌<◌}
use mathlib.Core.Path.{◌≡◌, refl, sym, ap, ◌∙◌}
use mathlib.Core.List.{List, [], ◌∷◌}
use mathlib.Core.Bool.{Bool, true, false, not, cond}
use native.Mathlib.Omega.{arith}
use lib.ListN.{length}
use borrow.Author.Tests.{leb-false}
use Rattle.lent.specs.Line.{splice, fits, line_after}
use Rattle.lent.proofs.Laws.{fits-false}
use Rattle.answers.specs.declared.Refusal.{Refusal}
use Rattle.answers.specs.OrderLaws.{unless-map, unless-append, unless-number}
use Rattle.answers.specs.Refusals.{no_room, number_of}
use Rattle.written.specs.Written.{Text, NoText, bad_room, written_when, answer_to, line_to}
use Rattle.written.specs.Statements.{RefusedKeeps, LengthStands, AnswerBehind, NumberBehind, NoRoomExactly}

module _ (line : List ℕ) (place : ℕ) (text : List ℕ) where
  keeps-by : (t : Bool) (e : Refusal) → cond (not t) (Err no_room) (Ok (length text)) ≡ Err e → cond t (splice line place text) line ≡ line
  keeps-by true e p = let z : ◌≡◌ {A = ℕ} 0 1 = cc in absurd (omega arith)
  keeps-by false e p = refl

  stands_by : (t : Bool) (n : ℕ) → cond (not t) (Err no_room) (Ok (length text)) ≡ Ok n
      → (n ≡ length text) × (cond t (splice line place text) line ≡ splice line place text)
  stands_by true n p = (cc, refl)
  stands_by false n p = let z : ◌≡◌ {A = ℕ} 0 1 = cc in absurd (omega arith)

  exceeds-by : (t : Bool) → fits line place text ≡ t → cond (not t) (Err no_room) (Ok (length text)) ≡ Err no_room → length line < place + length text
  exceeds-by true f p = let z : ◌≡◌ {A = ℕ} 0 1 = cc in absurd (omega arith)
  exceeds-by false f p = leb-false (place + length text) (length line) f

pub refused_keeps : RefusedKeeps
unfolding answer_to line_to line_after
refused_keeps line place (Text text) e p = keeps-by line place text (fits line place text) e p
refused_keeps line place (NoText f) e p = refl

pub length_stands : LengthStands
unfolding answer_to line_to line_after
length_stands line place (Text text) n p =
    let w = stands_by line place text (fits line place text) n p in
    record { text = text; drafted = refl; long = w.0; there = w.1 }
length_stands line place (NoText f) n p = let z : ◌≡◌ {A = ℕ} 0 1 = cc in absurd (omega arith)

pub answer_behind : AnswerBehind
unfolding answer_to
answer_behind conditions line place text =
    unless-map (answer_to line place) NoText Err (λ e. refl) conditions (Text text)
    ∙ sym (unless-append Err conditions (bad_room line place text ∷ []) (Ok (length text)))

pub number_behind : NumberBehind
number_behind conditions line place text =
    ap number_of (answer_behind conditions line place text)
    ∙ unless-number number_of Err (λ e. refl) (written_when conditions line place text) (Ok (length text)) refl

pub no_room_exactly : NoRoomExactly
unfolding answer_to
no_room_exactly line place text =
    (λ p. exceeds-by line place text (fits line place text) refl p, λ h. rw (fits-false line place text h))
