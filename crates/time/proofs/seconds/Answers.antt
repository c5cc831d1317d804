-- `time::seconds` meets its contract: what is admitted has the seconds of its instant.
-- Assumes nothing.
use Rattle.std.specs.Prelude.{Ok}
use Prim.Native.Nat.{ℕ}
use mathlib.Core.Path.{◌≡◌, sym, ◌∙◌, subst}
use native.Mathlib.Omega.{arith}
use lib.IntN.{ℤ}
use mir.Syntax.{w64}
use mir.Val.{to_z, of_z}
use mir.Facts.{to_z-of_z}
use Rattle.answers.specs.Order.{judged}
use Rattle.answers.specs.OrderLaws.{judged-clear}
use Rattle.timecodes.specs.Admitted.{admits, Valid}
use Rattle.timecodes.specs.AdmittedLaws.{admits-valid}
use Rattle.timecodes.specs.Instant.{instant}
use Rattle.timecodes.specs.InstantLaws.{instant-abs-le, instant_in-valid}
use Rattle.time.specs.Seconds.{InSeconds}
use Rattle.time.proofs.seconds.Goals as goal
use Rattle.time.proofs.seconds.Goals.{After-instant_of, In_ok-admit}

passed : (c : In_ok-admit) → judged (admits c.args.tc) ≡ (Ok tt)
passed c =
    sym c.admit.ensures ∙ c.in_ok-admit.was

valid : (c : In_ok-admit) → Valid c.args.tc
valid c =
    admits-valid c.args.tc (judged-clear (admits c.args.tc) (passed c))

-- the ticks, as the machine reads them
ticks-is : (c : After-instant_of) → to_z w64 (of_z w64 c.instant_of.result) ≡ instant c.args.tc
ticks-is c =
    to_z-of_z {w = w64} (record { sfits = c.instant_of.type_inv }) ∙ c.instant_of.ensures ∙ instant_in-valid _ (valid c.before)

pub in_seconds-requires : goal.in_seconds-requires
in_seconds-requires c =
    rw (ticks-is c) (omega (arith, instant-abs-le _ (valid (goal.at.in_seconds-requires c).In_ok-admit)))

pub returns : goal.returns
returns c =
    let h = passed (goal.at.returns c).In_ok-admit in
    record {
      refused = λ e k. let clash : ◌≡◌ {A = ℕ} 0 1 = cc in absurd (omega arith);
      seconds = λ k. subst (λ (t : ℤ). InSeconds t c.in_seconds.result.p c.in_seconds.result.q) (ticks-is (goal.at.returns c).After-instant_of) c.in_seconds.ensures;
    }
