-- Refusals and bounds (BEHAVIOUR: Refusals): one name a number, the bounds of a count, and the answer that is a count or a refusal.
-- Assumes nothing.
use Rattle.std.specs.Prelude.{ℕ, Bool, not, [], ◌∷◌, leb, ℤ, pos, nat_abs, Result, Ok, Err}
use Rattle.answers.specs.declared.Refusal.{Refusal}
use Rattle.answers.specs.Causes.{refusal_number, refusal}
use Rattle.answers.specs.Order.{Condition, when, unless}

-- the refusal of a text, with its place in it
abbrev pub at_place : Refusal → (place : ℕ) → Refusal
at_place e place = record { cause = e.cause; place = place }

-- 1: the text has no shape
abbrev pub no_shape : Refusal
no_shape = refusal 1

-- 2: the shape fits, but a field has over 9 digits or a fraction over 6
abbrev pub too_long : Refusal
too_long = refusal 2

-- 3: a dropped label at rate 5 or 11
abbrev pub dropped_label : Refusal
dropped_label = refusal 3

-- 4: a perf field with a stated format that has none
abbrev pub no_perf_field : Refusal
no_perf_field = refusal 4

-- 5: an input number or the resulting count is outside its bounds
abbrev pub out_of_bounds : Refusal
out_of_bounds = refusal 5

-- 6: no such rate or film format
abbrev pub no_such : Refusal
no_such = refusal 6

-- 7: divisor zero
abbrev pub zero_divisor : Refusal
zero_divisor = refusal 7

-- 8: place plus text length exceeds the buffer's length
abbrev pub no_room : Refusal
no_room = refusal 8

-- 9: a record of a shot list has no such kind
abbrev pub no_such_kind : Refusal
no_such_kind = refusal 9

-- 10: the body of a record of a shot list is cut short
abbrev pub cut_short : Refusal
cut_short = refusal 10

-- 11: a shot before any rate
abbrev pub no_rate_yet : Refusal
no_rate_yet = refusal 11

-- 12: a shot's end before its first frame
abbrev pub end_before_first : Refusal
end_before_first = refusal 12

-- 13: a footage that cannot be on the film
abbrev pub not_on_film : Refusal
not_on_film = refusal 13

-- 14: a label of a position that is not strict or has a sign
abbrev pub not_strict : Refusal
not_strict = refusal 14

-- 15: a position where only a length may be, or one of each compared
abbrev pub wrong_kind : Refusal
wrong_kind = refusal 15

-- 16: a directory of shards that breaks a rule
abbrev pub broken_directory : Refusal
broken_directory = refusal 16

-- 17: a query that ends past the day
abbrev pub past_day : Refusal
past_day = refusal 17

-- counts from -400,000,000 to 400,000,000
abbrev pub most_count : ℕ
most_count = 400000000

-- a number above every count within its bounds, and one more than nine digits make
abbrev pub beyond : ℕ
beyond = 1000000000

abbrev pub is_count : ℤ → Bool
is_count z = leb (nat_abs z) most_count

-- 5: a count outside its bounds
abbrev pub bad_count : ℤ → Condition
bad_count z = when out_of_bounds (not (is_count z))

-- the resulting count, held to its bounds
unfoldable pub held : ℤ → Result ℤ Refusal
held z = unless Err (bad_count z ∷ []) (Ok z)

-- the number of an answer (0: not refused), whatever is answered, and its count (a refusal's is 0)
abbrev pub number_of : {A : Type 0} → Result A Refusal → ℕ
number_of (Ok a) = 0
number_of (Err e) = refusal_number e

abbrev pub count_of : Result ℤ Refusal → ℤ
count_of (Ok z) = z
count_of (Err e) = pos 0
