-- Texts put on a sheet one behind the other (docs/WHY.md, docs/ROUTING.md).
-- Assumes nothing.
use Rattle.std.specs.Prelude.{ℕ, List, [], ◌∷◌}
use Rattle.streams.specs.Sheet.{Sheet, put_on}

-- each behind the one before it; one that has no room changes nothing
abbrev pub all_on : Sheet → (pieces : List (List ℕ)) → Sheet
all_on s [] = s
all_on s (t ∷ ts) = all_on (put_on s t) ts

-- a line's end
abbrev pub line_end : List ℕ
line_end = 10 ∷ []
