-- What a line of a directory file says (docs/ROUTING.md), from its front on; that it is the grammar's: Statements.antt.
-- Assumes nothing.
use Rattle.std.specs.Prelude.{ℕ, ◌+◌, List, [], ◌∷◌, Bool, true, cond, not, ◌&&◌, ◌||◌, eqb, ltb, drop, Option, Some, None, Result, Ok, Err}
use Rattle.digits.specs.Digits.{value_of, span, leading}
use Rattle.routing.specs.declared.entries.Pair.{Pair}
use Rattle.routing.specs.declared.entries.Numeral.{Numeral}
use Rattle.routing.specs.declared.loading.Flaw.{Flaw}
use Rattle.routing.specs.declared.loading.Flaw.TheVariants.{NotTwoNumbers}

-- ---- what is said
-- nothing
abbrev pub Skipped : Result (Option Pair) Flaw
Skipped = Ok None

-- two numbers
abbrev pub Numbers : (first second : ℕ) → Result (Option Pair) Flaw
Numbers first second = Ok (Some (record { first = first; second = second }))

-- what is neither
abbrev pub Bad : Result (Option Pair) Flaw
Bad = Err NotTwoNumbers

-- a number, and the place past it
abbrev pub Number : (value next : ℕ) → Result Numeral Flaw
Number value next = Ok (record { value = value; next = next })

-- none stands there
abbrev pub Nothing : Result Numeral Flaw
Nothing = Err NotTwoNumbers

-- ---- blanks and comments
-- a space, a tab, a carriage return
abbrev pub is_blank : ℕ → Bool
is_blank b = eqb b 32 || (eqb b 9 || eqb b 13)

-- what is left behind the blanks in front
unfoldable pub past_blanks : List ℕ → List ℕ
past_blanks [] = []
past_blanks (b ∷ l) = cond (is_blank b) (past_blanks l) (b ∷ l)

-- nothing is left, or a comment
abbrev pub is_over : List ℕ → Bool
is_over [] = true
is_over (b ∷ l) = eqb b 35

-- ---- numbers
-- digits stand in front, and are worth less than 2^63
abbrev pub is_number : List ℕ → Bool
is_number l = not (eqb (span l) 0) && ltb (value_of (leading l)) 9223372036854775808

-- the number in front of l, which stands at a place, and the place past it
unfoldable pub found_at : (at : ℕ) → List ℕ → Result Numeral Flaw
found_at at l = cond (is_number l) (Number (value_of (leading l)) (at + span l)) Nothing

-- ---- two of them
unfoldable pub ended_by : (first second : ℕ) → List ℕ → Result (Option Pair) Flaw
ended_by first second l = cond (is_over l) (Numbers first second) Bad

unfoldable pub second_in : (first : ℕ) → List ℕ → Result (Option Pair) Flaw
second_in first l = cond (is_number l) (ended_by first (value_of (leading l)) (past_blanks (drop (span l) l))) Bad

unfoldable pub entry_in : List ℕ → Result (Option Pair) Flaw
entry_in l =
    cond (is_over l) Skipped
    (cond (is_number l) (second_in (value_of (leading l)) (past_blanks (drop (span l) l))) Bad)

unfoldable pub entry_of : (line : List ℕ) → Result (Option Pair) Flaw
entry_of line = entry_in (past_blanks line)
