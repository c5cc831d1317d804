-- What the written texts have in common (BEHAVIOUR: Labels and counts, Footage): the sign in front, a number with its sign, a field behind its mark.
-- Assumes nothing.
use Rattle.std.specs.Prelude.{ℕ, List, [], ◌∷◌, ◌++◌, Bool, true, false}
use Rattle.digits.specs.Digits.{decimal}

-- `-` in front if the count is below 0
abbrev pub sign_text : Bool → List ℕ
sign_text true = 45 ∷ []
sign_text false = []

-- a number in k digits at least, behind its sign
abbrev pub padded_text : (minus : Bool) (k m : ℕ) → List ℕ
padded_text minus k m = sign_text minus ++ decimal k m

-- a number by sign and magnitude, unpadded
abbrev pub signed_text : (minus : Bool) (m : ℕ) → List ℕ
signed_text minus m = padded_text minus 1 m

-- a field: two digits at least, behind a mark
abbrev pub field_text : (mark n : ℕ) → List ℕ
field_text mark n = mark ∷ decimal 2 n
