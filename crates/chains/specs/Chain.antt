-- A length carried through a list of rates (BEHAVIOUR: Chains): where it ends, when it is refused, and the answer.
-- Assumes nothing.
use Rattle.answers.specs.declared.Refusal.{Refusal}
use Rattle.std.specs.Prelude.{ℕ, ◌+◌, Bool, false, not, ◌||◌, List, [], ◌∷◌, ◌++◌, ℤ, Result, Ok, Err}
use Rattle.laws.specs.Every.{every}
use Rattle.numbers.specs.Nearest.{nearest_z}
use Rattle.answers.specs.Order.{Condition, when, unless}
use Rattle.answers.specs.Refusals.{out_of_bounds, no_such, is_count, bad_count}
use Rattle.rates.specs.Rates.{is_rate, frame_ticks}
use Rattle.timecodes.specs.declared.Timecode.{Timecode}
use Rattle.timecodes.specs.Timecode.{moved}
use Rattle.timecodes.specs.Admitted.{admits_length}
use Rattle.timecodes.specs.Instant.{instant}

-- ---- where it ends

-- the nearest frame at a rate, halves away from zero
abbrev pub nearest_frame : Timecode → (next : ℕ) → ℤ
nearest_frame tc next = nearest_z (instant tc) (frame_ticks next)

-- one step: the timecode at the nearest frame of the next rate, its bounds not looked at
abbrev pub after : Timecode → (next : ℕ) → Timecode
after tc next = moved tc (nearest_frame tc next) next

-- the rate at the end: the last listed one, or the start's
abbrev pub last_rate : (rate : ℕ) (list : List ℕ) → ℕ
last_rate rate [] = rate
last_rate rate (next ∷ list) = last_rate next list

-- the nearest frame taken at every listed rate in turn; an empty list gives back the start
abbrev pub end_of : Timecode → (list : List ℕ) → Timecode
end_of tc [] = tc
end_of tc (next ∷ list) = end_of (after tc next) list

-- ---- when it is refused

-- the count after some step is outside its bounds
abbrev pub leaves : Timecode → (list : List ℕ) → Bool
leaves tc [] = false
leaves tc (next ∷ list) = not (is_count (nearest_frame tc next)) || leaves (after tc next) list

-- 6: a listed number is no rate
abbrev pub bad_rates : (list : List ℕ) → Condition
bad_rates list = when no_such (not (every is_rate list))

-- 5: the count after any step is outside its bounds
abbrev pub bad_steps : Timecode → (list : List ℕ) → Condition
bad_steps tc list = when out_of_bounds (leaves tc list)

-- 6: of a listed rate or the timecode's own; 15, it is a position; 5 of its count; then 5 after any step
abbrev pub convert_when : Timecode → (list : List ℕ) → List Condition
convert_when tc list = bad_rates list ∷ admits_length tc ++ (bad_steps tc list ∷ [])

-- ---- the answer

-- of the whole: the end, where no condition holds
unfoldable pub convert_of : Timecode → (list : List ℕ) → Result Timecode Refusal
convert_of tc list = unless Err (convert_when tc list) (Ok (end_of tc list))

-- of one step: 5 where the count after it is outside its bounds
unfoldable pub step_of : Timecode → (next : ℕ) → Result Timecode Refusal
step_of tc next = unless Err (bad_count (nearest_frame tc next) ∷ []) (Ok (after tc next))

-- of the steps in turn, from an admitted timecode through rates
unfoldable pub carried : Timecode → (list : List ℕ) → Result Timecode Refusal
carried tc list = unless Err (bad_steps tc list ∷ []) (Ok (end_of tc list))

-- ---- how far it may be

-- the frame lengths in ticks of the listed rates together, repeats counted
abbrev pub ticks_together : (list : List ℕ) → ℕ
ticks_together [] = 0
ticks_together (next ∷ list) = frame_ticks next + ticks_together list
