-- The test of every element is the library's, as an iterator makes it.
-- Assumes nothing.
use mathlib.Core.Path.{◌≡◌, refl, ap}
use mathlib.Core.Bool.{Bool, ◌&&◌}
use mathlib.Core.List.{List, [], ◌∷◌}
use Rattle.std.specs.List.{list_all}
use Rattle.laws.specs.Every.{every}

pub every-same : {A : Type 0} (f : A → Bool) (xs : List A) → list_all f xs ≡ every f xs
every-same f [] = refl
every-same f (x ∷ xs) = ap (λ (t : Bool). f x && t) (every-same f xs)
