-- The count of a label and the label of a count at a rate, for every number and every rate number (BEHAVIOUR: Labels and counts).
-- Assumes nothing.
use Rattle.answers.specs.declared.Refusal.{Refusal}
use Rattle.std.specs.Prelude.{◌≡◌, Bool, true, false, cond, ◌&&◌, List, [], ◌∷◌, ℕ, ◌≤◌, leb, ℤ, Result, Err}
use Rattle.std.proofs.Common.{le-leb}
use Rattle.numbers.specs.Sign.{signed}
use Rattle.answers.specs.Order.{unless}
use Rattle.answers.specs.Refusals.{most_count, beyond, no_such, held}
use Rattle.rates.specs.Rates.{is_rate, rate_row, bad_rate, drop_frames}
use Rattle.labels.specs.Label.{count_in, is_short}
use Rattle.labels.specs.Sections.{sections_of}

-- the count of fields at a rate, negated for `-`
abbrev pub label_frames : (rate : ℕ) (minus : Bool) (fields : List ℕ) → ℤ
label_frames rate minus fields = signed minus (count_in (rate_row rate).timebase (drop_frames rate) fields)

-- the same without its sign, of fields of at most 9 digits; of others, whose count is no less, and where there is no such rate, a number beyond
-- all bounds
unfoldable pub frames_or : (rate : ℕ) (fields : List ℕ) → ℕ
frames_or rate fields = cond (is_rate rate && is_short fields) (count_in (rate_row rate).timebase (drop_frames rate) fields) beyond

pub frames_or-in :
    (rate : ℕ) (fields : List ℕ) → is_rate rate ≡ true → is_short fields ≡ true
    → frames_or rate fields ≡ count_in (rate_row rate).timebase (drop_frames rate) fields
unfolding frames_or
frames_or-in rate fields e f = rw (e, f)

pub frames_or-unrated : (rate : ℕ) (fields : List ℕ) → is_rate rate ≡ false → frames_or rate fields ≡ beyond
unfolding frames_or
frames_or-unrated rate fields e = rw e

pub frames_or-long : (rate : ℕ) (fields : List ℕ) → is_rate rate ≡ true → is_short fields ≡ false → frames_or rate fields ≡ beyond
unfolding frames_or
frames_or-long rate fields e f = rw (e, f)

-- 6: no such rate; else it, held to its bounds
unfoldable pub label_counted : (rate : ℕ) (minus : Bool) (fields : List ℕ) → Result ℤ Refusal
label_counted rate minus fields = unless Err (bad_rate rate ∷ []) (held (label_frames rate minus fields))

pub label_counted-in :
    (rate : ℕ) (minus : Bool) (fields : List ℕ) → is_rate rate ≡ true
    → label_counted rate minus fields ≡ held (label_frames rate minus fields)
unfolding label_counted
label_counted-in rate minus fields e = rw e

pub label_counted-out :
    (rate : ℕ) (minus : Bool) (fields : List ℕ) → is_rate rate ≡ false → label_counted rate minus fields ≡ Err no_such
unfolding label_counted
label_counted-out rate minus fields e = rw e

-- the fields of the label of a count within its bounds, at a rate; else four zeros
unfoldable pub sections_at : (rate n : ℕ) → List ℕ
sections_at rate n =
    cond (is_rate rate && leb n most_count) (sections_of (rate_row rate).timebase (drop_frames rate) n) (0 ∷ 0 ∷ 0 ∷ 0 ∷ [])

pub sections_at-in :
    (rate n : ℕ) → is_rate rate ≡ true → n ≤ most_count
    → sections_at rate n ≡ sections_of (rate_row rate).timebase (drop_frames rate) n
unfolding sections_at
sections_at-in rate n e h = rw (e, le-leb n most_count h)
