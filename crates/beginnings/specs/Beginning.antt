-- The longest beginning of a text that also begins some text of a shape (BEHAVIOUR: Places); a shape is any property of texts.
-- Assumes nothing.
use Rattle.std.specs.Prelude.{ℕ, ◌≤◌, ◌⊎◌, List, ◌++◌, length, take}

-- l begins some text of the shape: with these bytes behind it, it is one
pub record Begins (Shape : List ℕ → Type 0) (l : List ℕ) : Type 0 where
  pub behind : List ℕ
  pub shaped : Shape (l ++ behind)

-- n is the length of the longest beginning of l that also begins some text of the shape: that beginning does, and no longer one
pub record LongestBeginning (Shape : List ℕ → Type 0) (l : List ℕ) (n : ℕ) : Type 0 where
  pub within : n ≤ length l
  pub begins : Begins Shape (take n l)
  pub longest : (m : ℕ) → m ≤ length l → Begins Shape (take m l) → m ≤ n

-- a text of one shape or of the other
abbrev pub Either : (Shape Other : List ℕ → Type 0) → List ℕ → Type 0
Either Shape Other l = Shape l ⊎ Other l
