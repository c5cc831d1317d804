-- Words joined by single spaces (docs/WHY.md): each with a space behind it, on a sheet that has room for them all or is not whole.
-- Assumes nothing.
use Rattle.std.specs.Prelude.{ℕ, List, [], ◌∷◌}

-- a word and a space
abbrev pub word_pieces : (word : List ℕ) → List (List ℕ)
word_pieces word = word ∷ (32 ∷ []) ∷ []
