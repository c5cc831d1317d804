-- A text laid down keeps the line's length, stands there byte for byte, and leaves every other byte as it was.
-- Assumes nothing.
use Prim.Native.Nat.{ℕ, ◌+◌, ◌-◌, ◌≤◌, ◌<◌}
use mathlib.Core.Path.{◌≡◌, refl, sym, ap, ◌∙◌}
use mathlib.Core.Logic.{◌⊎◌, ⊎_elim}
use mathlib.Core.List.{List, ◌++◌}
use mathlib.Core.Bool.{Bool, true, false, cond}
use native.Mathlib.Omega.{arith}
use native.Mathlib.Nat.{zero-add}
use lib.ListN.{length, take, drop, get_or, get_or-append}
use lib.Seq.{get_or-take, get_or-drop, get_or-append-add, length-take-le}
use borrow.Author.Tests.{leb-true}
use Rattle.lent.specs.Line.{laid, splice, fits, line_after}
use Rattle.lent.specs.Statements.{LaidIs, SameLength, TextThere, OthersStay}
use Rattle.lent.proofs.Laws.{front-is, splice-length, line-laid}

pub laid_is : LaidIs
unfolding laid line_after
laid_is l text = rw (front-is l text, zero-add (length text))

module _ (line : List ℕ) (place : ℕ) (text : List ℕ) where
  length-by : (t : Bool) → fits line place text ≡ t → length (cond t (splice line place text) line) ≡ length line
  length-by true e = splice-length line text place (leb-true (place + length text) (length line) e)
  length-by false e = refl

  -- the byte at i, of a line whose first `place` bytes, text and rest are known
  module _ (h : place + length text ≤ length line) (i : ℕ) where
    long : length (take place line) ≡ place
    long = length-take-le place line (omega arith)

    behind : get_or (splice line place text) (place + i) 0 ≡ get_or (text ++ drop (place + length text) line) i 0
    unfolding splice
    behind =
        ap (λ (k : ℕ). get_or (splice line place text) (k + i) 0) (sym long)
        ∙ get_or-append-add (take place line) (text ++ drop (place + length text) line) i 0

    there : i < length text → get_or (splice line place text) (place + i) 0 ≡ get_or text i 0
    there k = behind ∙ get_or-append text (drop (place + length text) line) 0 i k

    before : i < place → get_or (splice line place text) i 0 ≡ get_or line i 0
    unfolding splice
    before k =
        get_or-append (take place line) (text ++ drop (place + length text) line) 0 i (omega (arith, long))
        ∙ get_or-take place line i 0 k

pub same_length : SameLength
unfolding line_after
same_length line place text = length-by line place text (fits line place text) refl

pub text_there : TextThere
text_there line place text i h k =
    ap (λ (l : List ℕ). get_or l (place + i) 0) (line-laid line place text h) ∙ there line place text h i k

past : (line : List ℕ) (place : ℕ) (text : List ℕ) (h : place + length text ≤ length line) (i : ℕ) → place + length text ≤ i
    → get_or (splice line place text) i 0 ≡ get_or line i 0
past line place text h i k =
    let j = i - (place + length text) in
    let e : place + (length text + j) ≡ i = omega arith in
    let f : place + length text + j ≡ i = omega arith in
    ap (λ (x : ℕ). get_or (splice line place text) x 0) (sym e)
    ∙ behind line place text h (length text + j)
    ∙ get_or-append-add text (drop (place + length text) line) j 0
    ∙ get_or-drop (place + length text) line j 0
    ∙ ap (λ (x : ℕ). get_or line x 0) f

others_by : (line : List ℕ) (place : ℕ) (text : List ℕ) (i : ℕ) (t : Bool) → fits line place text ≡ t
    → (i < place) ⊎ (place + length text ≤ i)
    → get_or (cond t (splice line place text) line) i 0 ≡ get_or line i 0
others_by line place text i true e o =
    let h = leb-true (place + length text) (length line) e in
    ⊎_elim (before line place text h i) (past line place text h i) o
others_by line place text i false e o = refl

pub others_stay : OthersStay
unfolding line_after
others_stay line place text i o = others_by line place text i (fits line place text) refl o
