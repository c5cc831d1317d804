-- A text shown byte by byte, and a caret behind spaces: what is wanted from here is what is wanted from the start.
-- Assumes nothing.
use Prim.Native.Nat.{ℕ, zero, suc, ◌+◌, ◌-◌, ◌≤◌, ◌<◌}
use mathlib.Core.Path.{◌≡◌, sym, ◌∙◌}
use mathlib.Core.List.{List, [], ◌∷◌}
use native.Mathlib.Omega.{arith}
use native.Mathlib.Numerals.{add-one}
use lib.ListN.{length, drop, get_or, drop_of_length-le}
use lib.Seq.{drop-cons}
use Rattle.streams.specs.Sheet.{Sheet, put_on}
use Rattle.streams.specs.Pieces.{line_end, all_on}
use Rattle.telling.specs.Shown.{shown_byte, shown_pieces, caret_pieces}

-- ---- the loop of `put_shown`: i bytes were put
abbrev pub Showing : (text : List ℕ) (s₀ s : Sheet) (i : ℕ) → Type 0
Showing text s₀ s i = all_on s₀ (shown_pieces text) ≡ all_on s (shown_pieces (drop i text))

module _ (text : List ℕ) (s₀ s : Sheet) (i : ℕ) (p : Showing text s₀ s i) where
  pub showing-turn : (b : ℕ) (t : Sheet) → i < length text → b ≡ shown_byte (get_or text i 0) → t ≡ put_on s (b ∷ [])
      → Showing text s₀ t (i + 1)
  unfolding shown_pieces
  showing-turn b t h e l = p ∙ rw (drop-cons text i 0 h, l, e, add-one)

  pub showing-done : length text ≤ i → put_on s line_end ≡ all_on s₀ (shown_pieces text)
  unfolding shown_pieces
  showing-done h = sym (p ∙ rw (drop_of_length-le text {i = i} h))

-- ---- the loop of `put_caret`: so many spaces were put
abbrev pub Spacing : (place : ℕ) (s₀ s : Sheet) (i : ℕ) → Type 0
Spacing place s₀ s i = all_on s₀ (caret_pieces place) ≡ all_on s (caret_pieces (place - i))

spaced : (s : Sheet) (left : ℕ) → 0 < left → all_on s (caret_pieces left) ≡ all_on (put_on s (32 ∷ [])) (caret_pieces (left - 1))
unfolding caret_pieces
spaced s zero h = absurd (omega arith)
spaced s (suc left) h = let e : suc left - 1 ≡ left = omega arith in rw e

last-put : (s : Sheet) (left : ℕ) → left ≡ 0 → all_on s (caret_pieces left) ≡ put_on s (94 ∷ line_end)
unfolding caret_pieces
last-put s left e = rw e

module _ (place : ℕ) (s₀ s : Sheet) (i : ℕ) (p : Spacing place s₀ s i) where
  pub spacing-turn : (t : Sheet) → i < place → t ≡ put_on s (32 ∷ []) → Spacing place s₀ t (i + 1)
  spacing-turn t h l =
      let e : place - i - 1 ≡ place - (i + 1) = omega arith in
      p ∙ spaced s (place - i) (omega arith) ∙ rw (l, e)

  pub spacing-done : place ≤ i → put_on s (94 ∷ line_end) ≡ all_on s₀ (caret_pieces place)
  spacing-done h = sym (p ∙ last-put s (place - i) (omega arith))
