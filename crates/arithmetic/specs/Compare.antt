-- Comparison is by instant, of two timecodes of one kind (BEHAVIOUR: Arithmetic, Positions).
-- Assumes nothing.
use Rattle.answers.specs.declared.Refusal.{Refusal}
use Rattle.std.specs.Prelude.{cond, ℤ, pos, negsuc, Result, Ok, Err}
use Rattle.std.specs.Int.Signed.{lt_z}
pub use Rattle.answers.specs.Refusals.{number_of}
use Rattle.answers.specs.Order.{unless}
use Rattle.timecodes.specs.declared.Timecode.{Timecode}
use Rattle.timecodes.specs.declared.kinds.Joining.TheVariants.{Comparison}
use Rattle.timecodes.specs.Admitted.{admits_both}
use Rattle.timecodes.specs.Instant.{instant}

-- -1, 0 or 1, as x is below, at or above y
unfoldable pub order_of : ℤ → ℤ → ℤ
order_of x y = cond (lt_z x y) (negsuc 0) (cond (lt_z y x) (pos 1) (pos 0))

-- 6, 15, 5, else the order of the instants
unfoldable pub compare_of : Timecode → Timecode → Result ℤ Refusal
compare_of a b = unless Err (admits_both Comparison a b) (Ok (order_of (instant a) (instant b)))

-- the order of an answer (a refusal's is 0)
abbrev pub order_in : Result ℤ Refusal → ℤ
order_in (Ok o) = o
order_in (Err e) = pos 0
