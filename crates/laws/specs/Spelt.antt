-- A word as the bytes that it is spelt with.
-- Assumes nothing.
use Rattle.std.specs.Prelude.{ℕ, List, [], ◌∷◌}
use Prim.Native.String.{String}
use Prim.Native.Char.{code}

-- the bytes of a quoted text
abbrev pub spelt : String → List ℕ
spelt String.[] = []
spelt (String.◌∷◌ c s) = code c ∷ spelt s
