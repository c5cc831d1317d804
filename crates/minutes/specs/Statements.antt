-- What holds of the minute table (BEHAVIOUR: The minute table): the statements, in order. Proofs: proofs/Statements.antt.
-- Assumes nothing.
use Rattle.std.specs.Prelude.{◌≡◌, true, [], ◌∷◌, map, ℕ, ◌/◌, ◌%◌, ◌<◌}
use Rattle.labels.specs.Label.{is_dropped, LabelOf}
use Rattle.minutes.specs.Minutes.{minute_start, first_frame}

-- n is the count of the minute's first allowed label at 29.97 drop: that of second 0 and these frames, below which all are dropped
pub record FirstLabel (minute frames n : ℕ) : Type 0 where
  pub label : LabelOf 30 2 n (minute / 60 ∷ minute % 60 ∷ 0 ∷ frames ∷ [])
  pub first : (earlier : ℕ) → earlier < frames → is_dropped 2 (minute % 60) 0 earlier ≡ true

-- each entry is the count of its minute's first allowed label
abbrev pub FirstOfMinute : Type 0
FirstOfMinute = (minute : ℕ) → FirstLabel minute (first_frame minute) (minute_start minute)

-- entries 1, 2, 9, 10, 1439: 1800, 3598, 16184, 17982, 2587610
abbrev pub ListedEntries : Type 0
ListedEntries =
    map minute_start (1 ∷ 2 ∷ 9 ∷ 10 ∷ 1439 ∷ []) ≡ 1800 ∷ 3598 ∷ 16184 ∷ 17982 ∷ 2587610 ∷ []
