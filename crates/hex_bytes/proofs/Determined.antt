-- Each public function's contract allows one outcome: two that meet its equations are equal.
-- Assumes nothing.
use Prim.Native.Nat.{ℕ}
use denote.Param.Laws.{Laws}
use denote.RattleType.{RattleType}
use mir.Syntax.{Dict}
use mathlib.Core.Path.{◌≡◌, sym, ap, ◌∙◌}
use Rattle.streams.specs.declared.sheets.Page.{Ghosts}
use Rattle.outcomes.specs.Outcome.{Determined}
use Rattle.hex_bytes.specs.contracts.read as read
use Rattle.hex_bytes.proofs.read.Reads as read-reads
use Rattle.hex_bytes.specs.contracts.put as put
use Rattle.hex_bytes.proofs.put.Reads as put_reads

pub read-determined : Determined read.ended read-reads.Asked read-reads.Learnt
read-determined κs a asked x y p q = ap (λ z. (z, x.1)) (p.0 ∙ sym q.0) ∙ ap (λ z. (y.0, (x.1.0, (z, x.1.1.1)))) (p.1 ∙ sym q.1)

pub put-determined : (P : RattleType) (laws : Laws P) (page : Ghosts P.Denot) (code : Dict) (whole : (x y : P.Denot) → page.seen x ≡ page.seen y → x ≡ y)
    → Determined (put.ended P page code) (put_reads.Asked P laws page code) (put_reads.Learnt P laws page code)
put-determined P laws page code whole κs a asked x y p q = ap (λ z. (x.0, (z, x.1.1))) (whole _ _ (p ∙ sym q))
