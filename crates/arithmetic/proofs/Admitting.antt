-- Two timecodes that were admitted, as the code goes on with them: each is within its bounds, and what is nearest to their instants is the answer.
-- Assumes nothing.
use Rattle.std.specs.Prelude.{Ok, Err, FitsSigned}
use mir.Syntax.{w64}
use mir.Val.{to_z, of_z}
use mir.Facts.{to_z-of_z}
use native.Mathlib.Omega.{arith}
use Prim.Native.Nat.{◌<◌, ◌≤◌}
use lib.IntN.{ℤ, pos, negsuc, nat_abs}
use mathlib.Core.Path.{◌≡◌, sym, ◌∙◌, ap}
use mathlib.Core.Bool.{Bool}
use mathlib.Core.List.{[], ◌∷◌}
use Rattle.answers.specs.declared.Refusal.{Refusal}
use Rattle.answers.specs.Order.{unless}
use Rattle.answers.specs.OrderLaws.{unless-clear}
use Rattle.answers.specs.Refusals.{most_count, bad_count, held}
use Rattle.timecodes.specs.declared.Timecode.{Timecode}
use Rattle.timecodes.specs.declared.kinds.Kind.{Kind}
use Rattle.timecodes.specs.declared.kinds.Joining.{Joining}
use Rattle.timecodes.specs.Timecode.{placed}
use Rattle.timecodes.specs.Made.{made, settled}
use Rattle.timecodes.specs.Admitted.{admits_both, joined_kind, Valid}
use Rattle.timecodes.specs.AdmittedLaws.{admits_both-left, admits_both-right, not-operated}
use Rattle.timecodes.specs.KindLaws.{admitted-told, admitted-refused}
use Rattle.timecodes.specs.MadeLaws.{settled-held}
use Rattle.arithmetic.specs.Sum.{joining_of, joined_frame, joined}

module _ (j : Joining) (a b : Timecode) (kind : Kind)
    (h : unless Err (admits_both j a b) (Ok (joined_kind j a b)) ≡ Ok kind) where
  pub left : Valid a
  left = admits_both-left j a b (admitted-told j a b kind h).0

  pub right : Valid b
  right = admits_both-right j a b (admitted-told j a b kind h).0

module _ (minus : Bool) (a b : Timecode) where
  abbrev j : Joining
  j = joining_of minus

  pub joined-made : (kind : Kind) → unless Err (admits_both j a b) (Ok (joined_kind j a b)) ≡ Ok kind
      → settled kind (placed a.rate (held (joined_frame minus a b))) ≡ joined minus a b
  unfolding joined
  joined-made kind h =
      let f = joined_frame minus a b in
      let taken = admitted-told j a b kind h in
      settled-held kind a.rate f
      ∙ ap (λ (x : Kind). unless Err (bad_count f ∷ []) (Ok (made x f a.rate))) (sym taken.1)
      ∙ sym (unless-clear Err (admits_both j a b) (unless Err (bad_count f ∷ []) (Ok (made (joined_kind j a b) f a.rate))) taken.0)

  pub joined-turned-down : (e : Refusal) → unless Err (admits_both j a b) (Ok (joined_kind j a b)) ≡ Err e → Err e ≡ joined minus a b
  unfolding joined
  joined-turned-down e h = sym (not-operated (admits_both j a b) (bad_count (joined_frame minus a b) ∷ []) _ _ (admitted-refused j a b e h))

-- a number of so small a magnitude is one of 64 bits
pub fits-in : (z : ℤ) → nat_abs z < 9223372036854775808 → FitsSigned w64 z
fits-in (pos n) h = record { sfits = omega arith }
fits-in (negsuc n) h = record { sfits = omega arith }

-- so is a count within its bounds: the machine reads it as it is
pub count-back : (z : ℤ) → nat_abs z ≤ most_count → to_z w64 (of_z w64 z) ≡ z
count-back z h = to_z-of_z (fits-in z (omega arith))
