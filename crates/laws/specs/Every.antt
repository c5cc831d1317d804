-- A test of every element of a list: tested once over the whole list, it passes at each index.
-- Assumes nothing.
use Rattle.std.specs.Prelude.{◌≡◌, refl, Bool, true, ◌&&◌, List, [], ◌∷◌, ◌++◌, ℕ, zero, suc, ◌<◌, length, get_or}
use Rattle.std.proofs.Math.Bool.{and-eq-true_iff}
use Rattle.std.proofs.Common.{arith}

-- the test passes at every element
abbrev pub every : {A : Type 0} → (A → Bool) → List A → Bool
every f [] = true
every f (x ∷ xs) = f x && every f xs

-- so it passes at the element of any index
pub at_every :
    {A : Type 0} (f : A → Bool) (xs : List A) (d : A) → every f xs ≡ true → (i : ℕ) → i < length xs → f (get_or xs i d) ≡ true
at_every f [] d e i h = absurd (omega arith)
at_every f (x ∷ xs) d e zero h = ((and-eq-true_iff (f x) (every f xs)).0 e).0
at_every f (x ∷ xs) d e (suc i) h = at_every f xs d ((and-eq-true_iff (f x) (every f xs)).0 e).1 i (omega arith)

-- after elements that pass it, it passes at every element of a list if it does so at the rest
pub every_append : {A : Type 0} (f : A → Bool) (l m : List A) → every f l ≡ true → every f (l ++ m) ≡ every f m
every_append f [] m e = refl
every_append f (x ∷ xs) m e =
    let s = (and-eq-true_iff (f x) (every f xs)).0 e in
    rw s.0 (every_append f xs m s.1)
