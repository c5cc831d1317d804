-- Decimal digits (BEHAVIOUR: Text shapes): which bytes they are, what a run of them is worth, and how a number is written with them.
-- Assumes nothing.
use Rattle.std.specs.Prelude.{ℕ, zero, suc, ◌+◌, ◌-◌, ◌*◌, ◌/◌, ◌%◌, ◌<◌, max, ◌≡◌, List, [], ◌∷◌, ◌++◌, Bool, true, false, cond, ◌&&◌, length, take, eqb, leb, ltb}
use Rattle.digits.specs.declared.Run.{Run}

-- ---- digits
-- a digit is a byte from '0' to '9'
abbrev pub is_digit : ℕ → Bool
is_digit b = leb 48 b && leb b 57

-- every byte is a digit
unfoldable pub all_digits : List ℕ → Bool
all_digits [] = true
all_digits (b ∷ l) = is_digit b && all_digits l

-- a field is one or more digits
pub record IsField (d : List ℕ) : Type 0 where
  pub some : 0 < length d
  pub digits : all_digits d ≡ true

-- the decimal value of digits, behind others of value v
unfoldable pub value_from : ℕ → List ℕ → ℕ
value_from v [] = v
value_from v (b ∷ l) = value_from (v * 10 + (b - 48)) l

-- the decimal value of digits
abbrev pub value_of : List ℕ → ℕ
value_of l = value_from 0 l

-- the digits that count: those behind the zeros in front
unfoldable pub significant : List ℕ → List ℕ
significant [] = []
significant (b ∷ d) = cond (eqb b 48) (significant d) (b ∷ d)

-- what a field is read as: the value of at most its first nine digits (over nine are refused by whoever reads it)
abbrev pub field_value : List ℕ → ℕ
field_value d = value_of (take 9 d)

-- ---- a run of digits in a text
-- the byte b, and no other
abbrev pub is_byte : (b c : ℕ) → Bool
is_byte b c = eqb c b

-- a byte that passes the test stands in front
abbrev pub first_is : (test : ℕ → Bool) → List ℕ → Bool
first_is test [] = false
first_is test (b ∷ l) = test b

-- a digit stands in front
abbrev pub digit_first : List ℕ → Bool
digit_first l = first_is is_digit l

-- how many digits stand in front
unfoldable pub span : List ℕ → ℕ
span [] = 0
span (b ∷ l) = cond (is_digit b) (suc (span l)) 0

-- the digits that stand in front
abbrev pub leading : List ℕ → List ℕ
leading l = take (span l) l

-- the run in front: what it is read as, and how many digits it has
unfoldable pub run_of : List ℕ → Run
run_of l = record { value = field_value (leading l); count = span l }

-- ---- a number in digits
-- the last k decimal digits of n, as bytes
unfoldable pub digits_of : (k n : ℕ) → List ℕ
digits_of zero n = []
digits_of (suc k) n = digits_of k (n / 10) ++ ((48 + n % 10) ∷ [])

-- how many digits n has: one below 10, else one more than its tenth has
abbrev pub width_step : (small : Bool) (width_of : ℕ → ℕ) (n : ℕ) → ℕ
width_step true width_of n = 1
width_step false width_of n = suc (width_of (n / 10))

unfoldable pub width_by : (fuel n : ℕ) → ℕ
width_by zero n = 1
width_by (suc fuel) n = width_step (ltb n 10) (width_by fuel) n

-- n turns are more than enough, since a tenth is less each time
unfoldable pub width : ℕ → ℕ
width n = width_by n n

-- n in k digits at least: zeros in front where it has fewer, all of its digits where it has more
unfoldable pub decimal : (k n : ℕ) → List ℕ
decimal k n = digits_of (max k (width n)) n
