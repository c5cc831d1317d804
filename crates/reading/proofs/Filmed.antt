-- A number is that of a film format exactly where it is answered one.
-- Assumes nothing.
use Rattle.std.specs.Prelude.{is_ok}
use Prim.Native.Nat.{ℕ}
use mathlib.Core.Path.{◌≡◌, refl}
use mathlib.Core.Bool.{Bool, true, false}
use Rattle.film.specs.Film.{is_format, format_at}
use Rattle.film.specs.FormatLaws.{format_at-in, format_at-out}

pub answered-format : (n : ℕ) → is_ok (format_at n) ≡ is_format n
answered-format n = by (is_format n) refl
  where
    by : (t : Bool) → is_format n ≡ t → is_ok (format_at n) ≡ is_format n
    by true e = rw (format_at-in n e, e)
    by false e = rw (format_at-out n e, e)
