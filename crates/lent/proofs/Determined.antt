-- Each public function's contract allows one outcome: two that meet its equations are equal.
-- Assumes nothing.
use mathlib.Core.Path.{sym, ap, ◌∙◌}
use Rattle.outcomes.specs.Outcome.{Determined}
use Rattle.lent.specs.contracts.put_byte as put_byte
use Rattle.lent.proofs.put_byte.Reads as put-byte-reads
use Rattle.lent.specs.contracts.put_text as put-text
use Rattle.lent.proofs.put_text.Reads as put-text-reads
use Rattle.lent.specs.contracts.room as room
use Rattle.lent.proofs.room.Reads as room-reads

pub put-byte-determined : Determined put_byte.ended put-byte-reads.Asked put-byte-reads.Learnt
put-byte-determined κs a asked x y p q = ap (λ z. (x.0, (z, x.1.1))) (p ∙ sym q)

pub put-text-determined : Determined put-text.ended put-text-reads.Asked put-text-reads.Learnt
put-text-determined κs a asked x y p q = ap (λ z. (x.0, (z, x.1.1))) (p ∙ sym q)

pub room-determined : Determined room.ended room-reads.Asked room-reads.Learnt
room-determined κs a asked x y p q = ap (λ z. (z, x.1)) (p ∙ sym q)
