-- `film::footage_count` meets its contract: the exact count is held to the bounds, and what stands for a longer one is above them as that is.
-- Assumes nothing.
use mathlib.Core.Path.{◌≡◌, sym, ◌∙◌, ap}
use mathlib.Core.Bool.{Bool}
use Prim.Native.Nat.{ℕ, ◌<◌}
use native.Mathlib.Decide.{dec_lt}
use native.Mathlib.Omega.{arith}
use Rattle.numbers.specs.Sign.{signed}
use Rattle.answers.specs.Refusals.{most_count, beyond, held}
use Rattle.answers.specs.Laws.{held-past}
use Rattle.film.specs.declared.FilmFormat.{FilmFormat}
use Rattle.film.specs.Footage.{footage_count, footage_or, footage_or-in, footage_or-feet, footage_or-frames}
use Rattle.film.specs.FootageLaws.{count-ge}
use Rattle.film.proofs.footage_count.Goals as goal

-- what is answered is held as the count is
held_same : (format : FilmFormat) (minus : Bool) (feet frames : ℕ)
    → held (signed minus (footage_or format feet frames)) ≡ held (signed minus (footage_count format feet frames))
held_same format minus feet frames = by (dec_lt feet beyond) (dec_lt frames beyond)
  where
    -- both are above the largest count
    past : footage_or format feet frames ≡ beyond → most_count < footage_count format feet frames
        → held (signed minus (footage_or format feet frames)) ≡ held (signed minus (footage_count format feet frames))
    past e h = ap (λ (m : ℕ). held (signed minus m)) e ∙ held-past minus beyond (omega arith) ∙ sym (held-past minus _ h)

    by : Dec (feet < beyond) → Dec (frames < beyond)
        → held (signed minus (footage_or format feet frames)) ≡ held (signed minus (footage_count format feet frames))
    by (yes h) (yes k) = ap (λ (m : ℕ). held (signed minus m)) (footage_or-in format feet frames h k)
    by (yes h) (no k) = past (footage_or-frames format feet frames h (omega arith)) (omega (arith, count-ge format feet frames))
    by (no h) k = past (footage_or-feet format feet frames (omega arith)) (omega (arith, count-ge format feet frames))

pub returns : goal.returns
returns c =
    c.held.ensures
    ∙ ap (λ (m : ℕ). held (signed c.args.minus m)) c.footage_frames.ensures
    ∙ held_same c.args.format c.args.minus c.args.feet c.args.frames
