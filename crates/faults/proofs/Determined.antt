-- Each public function's contract allows one outcome: two that meet its equations are equal.
-- Assumes nothing.
use mathlib.Core.Path.{sym, ap, ◌∙◌}
use Rattle.outcomes.specs.Outcome.{Determined}
use Rattle.faults.specs.contracts.under as under
use Rattle.faults.proofs.under.Reads as under-reads
use Rattle.faults.specs.contracts.exactly as exactly
use Rattle.faults.proofs.exactly.Reads as exactly_Reads
use Rattle.faults.specs.contracts.sign_fault as sign-fault
use Rattle.faults.proofs.sign_fault.Reads as sign-fault-reads
use Rattle.faults.specs.contracts.count_fault as count-fault
use Rattle.faults.proofs.count_fault.Reads as count-fault-reads

pub under-determined : Determined under.ended under-reads.Asked under-reads.Learnt
under-determined κs a asked x y p q = ap (λ z. (z, x.1)) (p ∙ sym q)

pub exactly-determined : Determined exactly.ended exactly_Reads.Asked exactly_Reads.Learnt
exactly-determined κs a asked x y p q = ap (λ z. (z, x.1)) (p ∙ sym q)

pub sign-fault-determined : Determined sign-fault.ended sign-fault-reads.Asked sign-fault-reads.Learnt
sign-fault-determined κs a asked x y p q = ap (λ z. (z, x.1)) (p ∙ sym q)

pub count-fault-determined : Determined count-fault.ended count-fault-reads.Asked count-fault-reads.Learnt
count-fault-determined κs a asked x y p q = ap (λ z. (z, x.1)) (p ∙ sym q)
