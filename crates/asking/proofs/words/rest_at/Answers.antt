-- `asking::words::rest_at` meets its contract: by the letter, and the byte that stands there.
-- Assumes nothing.
use Rattle.asking.proofs.Taken.{rest_ended, rest-own, rest-none, rest-other, rest-text}
use Rattle.asking.proofs.words.rest_at.Goals as goal
use Rattle.asking.proofs.words.rest_at.Goals.{else-kind-eq116-via-then-kind-eq116+else-line-at-eq32, else-kind-eq116-via-else-kind-eq116}

pub returns-then-line-at : goal.returns-then-line-at
returns-then-line-at c = rest_ended _ _ _ c.if-line-at.true

pub returns-then-kind-eq42 : goal.returns-then-kind-eq42
returns-then-kind-eq42 c = rest-own _ _ _ c.if-line-at.false c.if-kind-eq42.true

pub returns-then-line-at-eq32 : goal.returns-then-line-at-eq32
returns-then-line-at-eq32 c = rest-text _ _ _ c.if-line-at.false c.if-kind-eq42.false c.if-kind-eq116.true c.if-line-at-eq32.true

pub returns : goal.returns
returns c =
    elim c.else-kind-eq116.branch [
      | else-kind-eq116-via-then-kind-eq116+else-line-at-eq32 w ↦
          rest-other _ _ _ c.if-line-at.false c.if-kind-eq42.false w.if-line-at-eq32.false
      | else-kind-eq116-via-else-kind-eq116 w ↦
          rest-none _ _ _ c.if-line-at.false c.if-kind-eq42.false w.if-kind-eq116.false
    ]
