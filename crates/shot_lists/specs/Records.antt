-- A record of a shot list (BEHAVIOUR: Shot lists): the rate that it leaves held, and what speaks against its numbers.
-- Assumes nothing.
use Rattle.std.specs.Prelude.{ℕ, ◌^◌, List, [], ◌∷◌, not, ltb, ℤ}
use Rattle.std.specs.Int.Signed.{lt_z}
use Rattle.answers.specs.Order.{Condition, when, Clear}
use Rattle.answers.specs.Refusals.{out_of_bounds, no_rate_yet, end_before_first, bad_count}
use Rattle.rates.specs.Rates.{is_rate, bad_rate}
use Rattle.shot_lists.specs.declared.records.Record.{Record}
use Rattle.shot_lists.specs.declared.records.Record.TheVariants.{Rate, Shot, Reel}

-- a rate holds until the next one
abbrev pub held_after : (held : ℕ) → Record → ℕ
held_after held (Rate n) = n
held_after held (Shot first end) = held
held_after held (Reel n) = held

-- 5: a reel is unsigned 32-bit
abbrev pub bad_reel : (reel : ℕ) → Condition
bad_reel reel = when out_of_bounds (not (ltb reel (256 ^ 4)))

-- 11: shot before any rate; whatever is no rate is none held
abbrev pub bad_held : (held : ℕ) → Condition
bad_held held = when no_rate_yet (not (is_rate held))

-- 12: end before first
abbrev pub bad_end : (first end : ℤ) → Condition
bad_end first end = when end_before_first (lt_z end first)

-- what speaks against a shot: 5 on its numbers, 11, 12
abbrev pub shot_faults : (held : ℕ) (first end : ℤ) → List Condition
shot_faults held first end = bad_count first ∷ bad_count end ∷ bad_held held ∷ bad_end first end ∷ []

-- what speaks against a record where a rate is held: 6 and 5 as before on its numbers, then 11, then 12
unfoldable pub faults : (held : ℕ) → Record → List Condition
faults held (Rate n) = bad_rate n ∷ []
faults held (Shot first end) = shot_faults held first end
faults held (Reel n) = bad_reel n ∷ []

-- nothing speaks against any record of a list, each where the rate is held that those before it leave
abbrev pub Sound : (held : ℕ) → List Record → Type 0
Sound held [] = Unit {0}
Sound held (r ∷ rs) = Clear (faults held r) × Sound (held_after held r) rs

-- the rate that is held behind a list
abbrev pub held_behind : (held : ℕ) → List Record → ℕ
held_behind held [] = held
held_behind held (r ∷ rs) = held_behind (held_after held r) rs
