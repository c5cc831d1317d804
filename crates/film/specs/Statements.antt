-- What holds of film beyond one call (BEHAVIOUR: Footage): the statements, in order. Proofs: proofs/Statements.antt.
-- Assumes nothing.
use Rattle.std.specs.Prelude.{ℕ, ◌+◌, ◌%◌, ◌<◌, ◌≡◌, Bool, true, false, ◌↔◌, ◌⊎◌, Ok}
use Rattle.film.specs.declared.FilmFormat.{FilmFormat}
use Rattle.film.specs.declared.FilmFormat.TheVariants.{FF35mm4perf, FF35mm3perf, FF35mm2perf, FF16mm}
use Rattle.film.specs.declared.Footage.{Footage}
use Rattle.film.specs.Film.{format_number, format_at, allows_perf_field}
use Rattle.film.specs.Footage.{footage_count, footage_of}
use Rattle.film.specs.OnFilm.{on_film}

-- a film format and its number give each other back
abbrev pub FormatNumbered : Type 0
FormatNumbered = (n : ℕ) (format : FilmFormat) → (format_at n ≡ Ok format) ↔ (n ≡ format_number format)

-- only 3-perf has a perf field
abbrev pub OnlyThreePerf : Type 0
OnlyThreePerf = (format : FilmFormat) → (allows_perf_field format ≡ true) ↔ (format ≡ FF35mm3perf)

-- the feet and frames that are written of a count are read as that count
abbrev pub FootageBack : Type 0
FootageBack =
    (format : FilmFormat) (f : ℕ) → footage_count format (footage_of format f).feet (footage_of format f).frames ≡ f

-- a footage follows another: it is the next frame of the same foot, or the first of the next foot
abbrev pub Follows : (this next : Footage) → Type 0
Follows this next = ((next.feet ≡ this.feet) × (next.frames ≡ this.frames + 1)) ⊎ ((next.feet ≡ this.feet + 1) × (next.frames ≡ 0))

-- writing goes along the film: count 0 is the first frame of foot 0, and each next count's footage follows that of the one before
abbrev pub FootageNext : Type 0
FootageNext =
    (format : FilmFormat)
    → (((footage_of format 0).feet ≡ 0) × ((footage_of format 0).frames ≡ 0))
    × ((f : ℕ) → Follows (footage_of format f) (footage_of format (f + 1)))

-- ---- which footages can be on the film
-- a frames number occurs in a foot: some count, within its bounds or not, has by the writing formula that number in that foot
pub record Occurs (format : FilmFormat) (feet frames : ℕ) : Type 0 where
  pub count : ℕ
  pub feet_of : (footage_of format count).feet ≡ feet
  pub frames_of : (footage_of format count).frames ≡ frames

-- the frames numbers that occur in a foot, being those of some count, are those below 16, 32 and 20 in 4-perf, 2-perf and 16 mm
abbrev pub FramesInFoot : Type 0
FramesInFoot =
    (feet frames : ℕ)
    → (Occurs FF35mm4perf feet frames ↔ (frames < 16)) × (Occurs FF35mm2perf feet frames ↔ (frames < 32)) × (Occurs FF16mm feet frames ↔ (frames < 20))

-- and in 3-perf those below 21 in feet that leave 0 or 1 modulo 3, and below 22 in those that leave 2
abbrev pub ThreePerfFrames : Type 0
ThreePerfFrames =
    (feet frames : ℕ)
    → (feet % 3 < 2 → Occurs FF35mm3perf feet frames ↔ (frames < 21)) × (feet % 3 ≡ 2 → Occurs FF35mm3perf feet frames ↔ (frames < 22))

-- a footage can be on the film: its frames number occurs in that foot, and its marker, if present, is feet modulo 3
pub record OnFilm (format : FilmFormat) (feet frames : ℕ) (marked : Bool) (marker : ℕ) : Type 0 where
  pub occurs : Occurs format feet frames
  pub modulo : marked ≡ true → marker ≡ feet % 3

-- it cannot: its frames number does not occur in that foot, or its marker is present and is not feet modulo 3
abbrev pub OffFilm : FilmFormat → (feet frames : ℕ) (marked : Bool) (marker : ℕ) → Type 0
OffFilm format feet frames marked marker = (¬ Occurs format feet frames) ⊎ ((marked ≡ true) × ¬ (marker ≡ feet % 3))

-- what is tested of a footage is that it can be on the film, exactly
abbrev pub OnFilmExactly : Type 0
OnFilmExactly =
    (format : FilmFormat) (feet frames : ℕ) (marked : Bool) (marker : ℕ)
    → (on_film format feet frames marked marker ≡ true) ↔ OnFilm format feet frames marked marker

-- and where that fails, it cannot, exactly
abbrev pub OffFilmExactly : Type 0
OffFilmExactly =
    (format : FilmFormat) (feet frames : ℕ) (marked : Bool) (marker : ℕ)
    → (on_film format feet frames marked marker ≡ false) ↔ OffFilm format feet frames marked marker

-- feet and frames that occur are those that are written of their count, and the marker is feet modulo 3
abbrev pub FootageForth : Type 0
FootageForth =
    (format : FilmFormat) (feet frames : ℕ) → Occurs format feet frames
    → footage_of format (footage_count format feet frames) ≡ record { feet = feet; frames = frames; perf = feet % 3 }
